-- If no domain, connection or extent is left, no buffer is live, and each page is free or retired.
use Rattle.std.proofs.Common.{inl, inr, suc, ◌≡◌, ◌∙◌, ℕ, List, [], ◌∷◌, ◌++◌, length, ap, refl, sym, arith, Option}
use Rattle.std.proofs.Common.{Some, None, true, false, Bool}
use Rattle.std.specs.Prelude.{map, not, nat_lt, option_map, slice_index_or, sum_by, ◌&&◌}
use Rattle.std.specs.List.{filter}
use Rattle.std.proofs.lemmas.Bool.Decides.{nat_tests}
use Rattle.std.proofs.lemmas.List.Concat.{flat_map-cons}
use Rattle.std.proofs.lemmas.List.Sums.{sum_by-cons}
use Rattle.iol_core.specs.Text.{Text}
use Rattle.iol_core.specs.NumberedLists.{in_place, numbered_or}
use Rattle.iol_core.specs.State as machine
use Rattle.iol_core.specs.State.{Domain, no_domain}
use Rattle.iol_core.specs.declared.numbers.BufId.{BufId}
use Rattle.iol_arena.specs.State as arena
use Rattle.iol_arena.specs.State.{entry_at, generation_at, kind_free}
use Rattle.iol_arena.specs.Chunks.{spent, usable}
use Rattle.iol_arena.specs.declared.pages.PageKind.TheVariants.{Free}
use Rattle.iol_hold.specs.Moves.{tally}
use Rattle.iol_hold.specs.Room.{pages_of}
use Rattle.iol_hold.specs.StoreState.{Stored, IsPlaced, IsStill, IsTidy, count_of}
use Rattle.iol_hold.specs.Texts.{bufs_of}
use Rattle.iol_hold.specs.declared.slices.Slice.{Slice}
use Rattle.iol_hold.proofs.Counts.{tally_none}
use Rattle.iol_sock.specs.Connections.{Conn, conn_view}
use Rattle.iol_extent.specs.Extents.{Extent}
use Rattle.iol_cache.specs.CacheState.{all_parts, extents_in_all, held}
use Rattle.iol_cache.specs.declared.files.CachedFile.{CachedFile}
use Rattle.iol_kernel.specs.HoldCounts.{all_uses, conn_uses, domain_uses, pipe_uses, uses}
use Rattle.iol_kernel.specs.KernelState.{KernelState, objects_of, read_of}
use Rattle.iol_kernel.specs.Readings.{Reading, read}
use Rattle.iol_kernel.specs.Views.{Pipe, domain_view, pipe_view, state_view}
use Rattle.iol_laws.specs.Order.{IsOrderly}
use Rattle.iol_laws.proofs.Order.NoneLive.{domain-none, pipe-none}
use Rattle.iol_system.specs.Laws.{AllPagesComeFree}

-- Tables that hold no buffer.

none-mapped : {A B : Type 0} (g : A → B) (xs : List A) → map g xs ≡ [] → xs ≡ []
none-mapped g [] none = refl
none-mapped g (x ∷ xs) none = absurd (cc)

none-long : {A : Type 0} (xs : List A) → length xs ≡ 0 → xs ≡ []
none-long [] none = refl
none-long (x ∷ xs) none = absurd (let e : suc (length xs) ≡ 0 = none in omega (arith, e))

domain_holds_none : (b : BufId) (g : List Slice → Text) (d : Domain (List Slice)) → domain_view g d ≡ no_domain
    → domain_uses b d ≡ 0
domain_holds_none b g d none =
    ap (λ (es : List (ℕ × List Slice)). sum_by (λ e. uses b e.1) es)
    (none-mapped (λ (e : ℕ × List Slice). (e.0, g e.1)) d.aggs (ap (λ (x : Domain Text). x.aggs) none))

-- domains that are empty
domains_hold_none : (b : BufId) (g : List Slice → Text) (ds : List (Domain (List Slice)))
    → ((i : ℕ) → slice_index_or (map (domain_view g) ds) i no_domain ≡ no_domain) → sum_by (domain_uses b) ds ≡ 0
domains_hold_none b g [] none = refl
domains_hold_none b g (d ∷ ds) none =
    omega (
      arith,
      sum_by-cons (domain_uses b) d ds,
      domain_holds_none b g d (none 0),
      domains_hold_none b g ds (λ i. none (suc i)),
    )

-- a table without pipes
pipes_hold_none : (b : BufId) (g : List Slice → Text) (ps : List (Option (Pipe (List Slice))))
    → ((p : ℕ) → in_place (map (option_map (pipe_view g)) ps) p ≡ None) → sum_by (pipe_uses b) ps ≡ 0
pipes_hold_none b g [] none = refl
pipes_hold_none b g (None ∷ ps) none =
    omega (arith, sum_by-cons (pipe_uses b) None ps, pipes_hold_none b g ps (λ p. none (suc p)))
pipes_hold_none b g (Some x ∷ ps) none = absurd (let e = none 0 in cc (e))

conns_hold_none : (b : BufId) (g : List Slice → Text) (es : List (ℕ × Conn (List Slice)))
    → map {B = ℕ × machine.Connection} (λ e. (e.0, conn_view g e.1)) es ≡ [] → sum_by (conn_uses b) es ≡ 0
conns_hold_none b g es none =
    ap (λ (l : List (ℕ × Conn (List Slice))). sum_by (conn_uses b) l)
    (none-mapped {B = ℕ × machine.Connection} (λ (e : ℕ × Conn (List Slice)). (e.0, conn_view g e.1)) es none)

-- files without extents
files_hold_none : (fs : List CachedFile) → extents_in_all fs ≡ 0 → held fs ≡ []
unfolding held
files_hold_none [] none = refl
files_hold_none (f ∷ fs) none =
    let both = sum_by-cons (λ (x : CachedFile). length x.extents.extents) f fs in
    let here : length f.extents.extents ≡ 0 = omega (arith, both, none) in
    let rest : extents_in_all fs ≡ 0 = omega (arith, both, none) in
    flat_map-cons (λ (x : CachedFile). bufs_of (all_parts x.extents.extents)) f fs
    ∙ (ap (λ (es : List Extent). bufs_of (all_parts es) ++ held fs) (none-long f.extents.extents here)
    ∙ files_hold_none fs rest)

-- The machine's state that a kernel represents, table by table.

numbered-next : {A : Type 0} (xs : List A) (i : ℕ) (z : A) → numbered_or xs (suc i) z ≡ slice_index_or xs i z
numbered-next xs i z = grind (arith, nat_tests)

domains-read : (f : Reading) (h : KernelState) (i : ℕ)
    → machine.domain (read_of f h) (suc i) ≡ slice_index_or (map (domain_view (read f)) h.domains) i no_domain
unfolding read_of state_view machine.domain
domains-read f h i = numbered-next (map (domain_view (read f)) h.domains) i no_domain

pipes-read : (f : Reading) (h : KernelState) → (read_of f h).pipes ≡ map (option_map (pipe_view (read f))) h.pipes
unfolding read_of state_view
pipes-read f h = refl

conns-read : (f : Reading) (h : KernelState)
    → (read_of f h).conns ≡ map {B = ℕ × machine.Connection} (λ e. (e.0, conn_view (read f) e.1)) h.conns
unfolding read_of state_view
conns-read f h = refl

-- no buffer is held
held_by_none : (f : Reading) (h : KernelState) (b : BufId) → IsOrderly (read_of f h)
    → ((d : ℕ) → machine.is_live (read_of f h) d ≡ false) → (read_of f h).conns ≡ [] → extents_in_all h.cache.files ≡ 0
    → all_uses h.domains (objects_of h) b ≡ 0
held_by_none f h b order dead conns extents =
    let domains =
    domains_hold_none b (read f) h.domains (λ i. sym (domains-read f h i)
    ∙ domain-none (read_of f h) order dead (suc i)) in
    let pipes =
    pipes_hold_none b (read f) h.pipes
    (λ p. sym (ap (λ (l : List (Option machine.Pipe)). in_place l p) (pipes-read f h))
    ∙ pipe-none (read_of f h) order dead p) in
    let queues = conns_hold_none b (read f) h.conns (sym (conns-read f h) ∙ conns) in
    let files : tally b (held h.cache.files) ≡ 0 = ap (tally b) (files_hold_none h.cache.files extents)
    ∙ tally_none b in
    omega (arith, domains, pipes, queues, files)

-- so each page is free
page_freed : (s : Stored) → IsTidy s → IsStill s.arena → ((b : BufId) → count_of s b ≡ 0) → (q : ℕ)
    → (entry_at s.arena q).kind ≡ Free
page_freed s tidy still none q = by (tidy.placed q)
  where
    by : IsPlaced s.arena q → (entry_at s.arena q).kind ≡ Free
    by (inl free) = free
    by (inr (inl pending)) = absurd (still.each q pending)
    by (inr (inr (b, live, on))) = absurd (let some = tidy.held b live in let e = none b in omega (arith, some, e))

usable-unspent : (s : arena.State) (q : ℕ) → (entry_at s q).kind ≡ Free → usable s q ≡ not (spent s q)
usable-unspent s q free = ap (λ k. kind_free k && nat_lt (generation_at s q) s.limit) free
    ∙ (by (nat_lt (generation_at s q) s.limit)
    ∙ sym (ap (λ k. not (kind_free k && not (nat_lt (generation_at s q) s.limit))) free))
  where
    by : (b : Bool) → b ≡ not (not b)
    by true = refl
    by false = refl

pub pages_freed : AllPagesComeFree
pages_freed s safe order left = record {
  every = λ q live. unspent q ∙ ap not live;
  each = λ p. ap (λ (f : ℕ → Bool). filter f (pages_of s.kernel.store p)) same;
}
  where
    none : (b : BufId) → count_of s.kernel.store b ≡ 0
    none b = safe.sound.counted.each b ∙ held_by_none _ s.kernel b order left.domains left.conns left.extents

    unspent : (q : ℕ) → usable s.kernel.store.arena q ≡ not (spent s.kernel.store.arena q)
    unspent q =
        usable-unspent s.kernel.store.arena q (page_freed s.kernel.store safe.sound.tidy safe.sound.still none q)

    same : ◌≡◌ {A = ℕ → Bool} (λ q. usable s.kernel.store.arena q) (λ q. not (spent s.kernel.store.arena q))
    same = λ i. λ q. unspent q i
