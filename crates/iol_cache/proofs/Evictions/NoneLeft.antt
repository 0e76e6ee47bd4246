-- If a pool's order is empty, no clean extent holds a buffer on a page of the pool.
use Rattle.std.proofs.Common.{inl, inr, ◌≡◌, ℕ, suc, ◌+◌, ◌-◌, ◌/◌, ◌<◌, Bool, true, false, cond, eqb, List, [], ◌∷◌}
use Rattle.std.proofs.Common.{◌++◌, length, get_or, refl, sym, ap, ◌∙◌, arith, subst}
use Rattle.std.specs.Prelude.{sum_by, ◌&&◌, not}
use Rattle.std.specs.List.{All, Contains, AllByRecursion}
use Rattle.std.proofs.lemmas.Bool.{cases_eq}
use Rattle.std.proofs.lemmas.Bool.Decides.{nat_tests}
use Rattle.std.proofs.lemmas.List.Elements.{All-head, All-tail}
use Rattle.std.proofs.lemmas.List.Sums.{sum_by-cons}
use Rattle.iol_core.specs.declared.limits.TheConstants.{CHUNK_PAGES}
use Rattle.iol_core.specs.declared.numbers.BufId.{BufId}
use Rattle.iol_arena.specs.State.{State, HasRuns, entry_at}
use Rattle.iol_arena.specs.Buffers.{IsLive, LiesOn, kind_len}
use Rattle.iol_arena.proofs.Members.{In, chunk_in, contains_in}
use Rattle.iol_pool.specs.Owners.{AreOwned}
use Rattle.iol_pool.specs.Pools.{pool_in}
use Rattle.iol_hold.specs.Moves.{tally, same}
use Rattle.iol_hold.specs.Room.{pages_of}
use Rattle.iol_hold.specs.StoreState.{Stored, IsInPool}
use Rattle.iol_hold.specs.Texts.{bufs_of, AllReadable}
use Rattle.iol_hold.specs.declared.slices.Slice.{Slice}
use Rattle.iol_hold.proofs.Counts.{tally-append, tally_none, other_page, bufs-append}
use Rattle.iol_hold.proofs.ReadSlices.{readable_first, readable_later}
use Rattle.iol_extent.specs.Extents.{Extent}
use Rattle.iol_cache.specs.declared.files.CachedFile.{CachedFile}
use Rattle.iol_cache.specs.CacheState.{Cached, file_in, no_file, order_in, clean_in, clean_parts, clean_held, clean_at}
use Rattle.iol_cache.specs.CacheState.{begins_clean, entries_at}
use Rattle.iol_cache.specs.Sound.{IsLaid, IsSound}
use Rattle.iol_cache.proofs.Extents.FileEntries.{additive_tally, sum-flat}
use Rattle.iol_cache.proofs.Evictions.FreePages.{IsBeside}

tally_cons : (b c : BufId) (bs : List BufId) → same b c ≡ 0 → tally b bs ≡ 0 → tally b (c ∷ bs) ≡ 0
unfolding tally
tally_cons b c bs h k = omega (arith, h, k)

-- slices of another pool hold no buffer of this one
not_held : (s : Stored) (p q : ℕ) (b : BufId) (xs : List Slice) → AreOwned s.arena s.pools → IsInPool s p b
    → (q ≡ p → ⊥) → AllReadable s xs → All (λ (x : Slice). x.hold.pool ≡ q) xs → tally b (bufs_of xs) ≡ 0
not_held s p q b [] owned home ne readable all = tally_none b
not_held s p q b (x ∷ xs) owned home ne readable all =
    let rest =
    not_held s p q b xs owned home ne (readable_later x xs readable)
    (All-tail (λ (y : Slice). y.hold.pool ≡ q) x xs all) in
    let there = (readable_first x xs readable).home in
    let pool = All-head (λ (y : Slice). y.hold.pool ≡ q) x xs all in
    elim (cases_eq b.page x.hold.buf.page) [
      | inl e ↦
          absurd
          (ne
          (owned.single q p (b.page / CHUNK_PAGES)
          (subst (λ (n : ℕ). Contains (pool_in s.pools n).chunks (b.page / CHUNK_PAGES)) pool
          (subst (λ (n : ℕ). Contains (pool_in s.pools x.hold.pool).chunks (n / CHUNK_PAGES)) (sym e) there)) home))
      | inr apart ↦ tally_cons b x.hold.buf (bufs_of xs) (other_page b x.hold.buf apart) rest
    ]

joined : (b : BufId) (xs ys : List Slice) → tally b (bufs_of xs) ≡ 0 → tally b (bufs_of ys) ≡ 0
    → tally b (bufs_of (xs ++ ys)) ≡ 0
joined b xs ys h k = ap (tally b) (bufs-append xs ys) ∙ tally-append b (bufs_of xs) (bufs_of ys) ∙ omega (arith, h, k)

other_file : (s : Stored) (p q : ℕ) (b : BufId) (es : List Extent) → AreOwned s.arena s.pools → IsInPool s p b
    → (q ≡ p → ⊥) → AllByRecursion (IsLaid s q) es → tally b (bufs_of (clean_in es)) ≡ 0
other_file s p q b [] owned home ne laid = tally_none b
other_file s p q b (x ∷ xs) owned home ne laid =
    joined b (clean_parts x) (clean_in xs) (pick x.dirty) (other_file s p q b xs owned home ne laid.1)
  where
    pick : (d : Bool) → tally b (bufs_of (cond d [] x.parts)) ≡ 0
    pick true = tally_none b
    pick false = not_held s p q b x.parts owned home ne laid.0.readable laid.0.home

dirty_file : (b : BufId) (es : List Extent) → ((at : ℕ) → clean_at at es ≡ 0) → tally b (bufs_of (clean_in es)) ≡ 0
dirty_file b [] none = tally_none b
dirty_file b (x ∷ xs) none =
    joined b (clean_parts x) (clean_in xs) (pick x.dirty refl)
    (dirty_file b xs (λ at. omega (arith, none at, sum_by-cons (begins_clean at) x xs)))
  where
    one : (n : ℕ) → eqb n n ≡ true
    one n = grind (arith, nat_tests)

    pick : (d : Bool) → x.dirty ≡ d → tally b (bufs_of (cond d [] x.parts)) ≡ 0
    pick true is = tally_none b
    pick false is =
        absurd
        (omega (
          arith,
          none x.at,
          sum_by-cons (begins_clean x.at) x xs,
          ap (λ e. cond {A = ℕ} (e && not x.dirty) 1 0) (one x.at),
          ap (λ d. cond {A = ℕ} (not d) 1 0) is,
        ))

sum_zero : (w : CachedFile → ℕ) (fs : List CachedFile) → ((i : ℕ) → i < length fs → w (get_or fs i no_file) ≡ 0)
    → sum_by w fs ≡ 0
sum_zero w [] each = refl
sum_zero w (x ∷ xs) each =
    omega (arith, sum_by-cons w x xs, each 0 (omega arith), sum_zero w xs (λ i h. each (suc i) (omega (arith, h))))

file_next : (fs : List CachedFile) (i : ℕ) → file_in fs (i + 1) ≡ get_or fs i no_file
unfolding file_in
file_next fs i = let nz : i + 1 ≡ 0 → ⊥ = λ e. absurd (omega (arith, e)) in let back : i + 1 - 1 ≡ i = omega arith in
    grind (arith, nat_tests, nz, back)

-- the order of the pool is empty
pub none_held : (s : Stored) (c : Cached) (p : ℕ) (b : BufId) → IsSound s c → (order_in c.orders p).entries ≡ []
    → IsInPool s p b → tally b (clean_held c.files) ≡ 0
unfolding clean_held
none_held s c p b sound none home =
    let w : CachedFile → ℕ = λ x. tally b (bufs_of (clean_in x.extents.extents)) in
    sum-flat (additive_tally b) (λ (x : CachedFile). bufs_of (clean_in x.extents.extents)) c.files
    ∙ sum_zero w c.files (λ i h. ap w (sym (file_next c.files i)) ∙ one (i + 1))
  where
    empty : (f at : ℕ) → entries_at f at (order_in c.orders p).entries ≡ 0
    empty f at = ap (entries_at f at) none

    if_pool : (m n k : ℕ) → m ≡ n → cond {A = ℕ} (eqb m n) k 0 ≡ k
    if_pool m n k is = grind (arith, nat_tests, is)

    one : (f : ℕ) → tally b (bufs_of (clean_in (file_in c.files f).extents.extents)) ≡ 0
    one f = elim (cases_eq (file_in c.files f).pool p) [
      | inl same ↦
          dirty_file b (file_in c.files f).extents.extents
          (λ at. sym (if_pool (file_in c.files f).pool p (clean_at at (file_in c.files f).extents.extents) same)
          ∙ sym (sound.ranked.each p f at) ∙ empty f at)
      | inr ne ↦ other_file s p (file_in c.files f).pool b (file_in c.files f).extents.extents sound.tidy.owned home ne
          (sound.files f).laid
    ]

-- a buffer begins in the chunk of each of its pages
same_chunk : (s : State) (b : BufId) (q : ℕ) → HasRuns s.entries → IsLive s b → LiesOn s b q
    → b.page / CHUNK_PAGES ≡ q / CHUNK_PAGES
same_chunk s b q runs live lies =
    let run = runs.each b.page (kind_len (entry_at s b.page).kind) live.head in
    omega (arith, run.chunk, lies.from, lies.to)

pub none_beside : (s : Stored) (c : Cached) (p q : ℕ) → IsSound s c → (order_in c.orders p).entries ≡ []
    → In (pages_of s p) q → IsBeside s (clean_held c.files) q
none_beside s c p q sound none there b live lies =
    let chunk = contains_in (pool_in s.pools p).chunks (q / 16) (chunk_in (pool_in s.pools p).chunks q there) in
    none_held s c p b sound none
    (subst (λ (n : ℕ). Contains (pool_in s.pools p).chunks n)
    (sym (same_chunk s.arena b q sound.tidy.runs live lies)) chunk)
