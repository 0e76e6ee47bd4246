-- Free pages and pinned ones.
use Rattle.std.proofs.Common.{inl, inr, ◌≡◌, ℕ, suc, ◌+◌, ◌<◌, ◌≤◌, Bool, true, false, cond, List, [], ◌∷◌, length}
use Rattle.std.proofs.Common.{refl, sym, ap, ◌∙◌, arith, Some}
use Rattle.std.specs.Prelude.{not, nat_lt, ◌||◌, ◌&&◌}
use Rattle.std.specs.List.{filter, flat_map}
use Rattle.std.proofs.lemmas.Bool.{cases_eq}
use Rattle.std.proofs.lemmas.Bool.Decides.{nat_tests}
use Rattle.iol_core.specs.declared.numbers.BufId.{BufId}
use Rattle.iol_arena.specs.State.{State, entry_at, generation_at, kind_free}
use Rattle.iol_arena.specs.Buffers.{IsLive, LiesOn, kind_len}
use Rattle.iol_arena.proofs.Members.{In}
use Rattle.iol_arena.specs.Chunks.{usable}
use Rattle.iol_arena.specs.declared.pages.PageKind as kind
use Rattle.iol_arena.specs.declared.pages.PageKind.TheVariants.{Free, Pending, Head, Tail}
use Rattle.iol_arena.specs.Firsts.{first_on}
use Rattle.iol_hold.specs.StoreState.{Stored, count_of, IsTidy, IsStill}
use Rattle.iol_hold.specs.Moves.{tally, Counts}
use Rattle.iol_hold.specs.Room.{pages_of}
use Rattle.iol_arena.specs.Chunks.{chunk_pages, free_pages}
use Rattle.iol_pool.specs.Pools.{Pool, pool_in}
use Rattle.iol_cache.proofs.Evictions.Pins.{pinned_kept}
use Rattle.iol_hold.specs.Releases.{buf_at, FreesOnly}
use Rattle.iol_cache.specs.PinnedPages.{is_begun, is_pinned, pinned_beside}

free_is : (k : kind.PageKind) → kind_free k ≡ true → k ≡ Free
free_is Free e = refl
free_is Pending e = cc
free_is (Head n) e = cc
free_is (Tail p) e = cc

-- a usable page is not pinned
usable_reclaimable : (s : Stored) (clean : List BufId) (q : ℕ) → usable s.arena q ≡ true → is_pinned s clean q ≡ false
unfolding is_pinned
usable_reclaimable s clean q can =
    parts (kind_free (entry_at s.arena q).kind) (nat_lt (generation_at s.arena q) s.arena.limit) refl refl can
  where
    parts : (f l : Bool) → kind_free (entry_at s.arena q).kind ≡ f → nat_lt (generation_at s.arena q) s.arena.limit ≡ l
        → (f && l) ≡ true
        → (not (nat_lt (generation_at s.arena q) s.arena.limit)
        || is_begun s clean (first_on (entry_at s.arena q).kind q)) ≡ false
    parts true true f l can = ap (λ b. not b || is_begun s clean (first_on (entry_at s.arena q).kind q)) l
        ∙ ap (λ (k : kind.PageKind). is_begun s clean (first_on k q)) (free_is (entry_at s.arena q).kind f)
    parts true false f l can = cc
    parts false l f m can = cc

pub at_most : (s : Stored) (clean : List BufId) (qs : List ℕ)
    → length (filter (usable s.arena) qs) + length (filter (is_pinned s clean) qs) ≤ length qs
at_most s clean [] = omega arith
at_most s clean (q ∷ qs) =
    one (usable s.arena q) (is_pinned s clean q) (usable_reclaimable s clean q) (at_most s clean qs)
  where
    one : (u p : Bool) → (u ≡ true → p ≡ false)
        → length (filter (usable s.arena) qs) + length (filter (is_pinned s clean) qs) ≤ length qs
        → length (cond u (q ∷ filter (usable s.arena) qs) (filter (usable s.arena) qs))
        + length (cond p (q ∷ filter (is_pinned s clean) qs) (filter (is_pinned s clean) qs)) ≤ suc (length qs)
    one true true h ih = absurd (let e : ◌≡◌ {A = Bool} true false = h refl in cc)
    one true false h ih = omega (arith, ih)
    one false true h ih = omega (arith, ih)
    one false false h ih = omega (arith, ih)

-- no buffer on this page is held by clean extents
abbrev pub IsBeside : Stored → (clean : List BufId) → (q : ℕ) → Type 0
IsBeside s clean q = (b : BufId) → IsLive s.arena b → LiesOn s.arena b q → tally b clean ≡ 0

-- a live buffer that clean extents do not hold is held by others
held_live : (s : Stored) (clean : List BufId) (b : BufId) → IsTidy s → IsLive s.arena b → tally b clean ≡ 0
    → nat_lt (tally b clean) (count_of s b) ≡ true
held_live s clean b tidy live none = let h = tidy.held b live in grind (arith, nat_tests, none, h)

buf_is : (s : State) (b : BufId) → IsLive s b → buf_at s b.page ≡ b
buf_is s b live = λ i. (let x : BufId = record { page = b.page; generation = live.generation i } in x)

-- if q is in use, and clean extents hold no buffer on it, the buffer on q is held by others
begun_on : (s : Stored) (clean : List BufId) (q : ℕ) → IsTidy s → IsStill s.arena → IsBeside s clean q
    → kind_free (entry_at s.arena q).kind ≡ false → is_begun s clean (first_on (entry_at s.arena q).kind q) ≡ true
begun_on s clean q tidy still beside busy = elim (tidy.placed q) [
  | inl free ↦ absurd (let e : ◌≡◌ {A = Bool} true false = sym (ap kind_free free) ∙ busy in cc)
  | inr r ↦ elim r [
    | inl waits ↦ absurd (still.each q waits)
    | inr in_it ↦ (
        let b = in_it.0 in
        let first : first_on (entry_at s.arena q).kind q ≡ Some b.page = elim (cases_eq q b.page) [
          | inl e ↦ ap (λ n. first_on (entry_at s.arena n).kind n) e
              ∙ ap (λ (k : kind.PageKind). first_on k b.page) in_it.1.head
          | inr ne ↦
              (let lies = in_it.2 in
              ap (λ (k : kind.PageKind). first_on k q)
              ((tidy.runs.each b.page (kind_len (entry_at s.arena b.page).kind) in_it.1.head).tails q
              (omega (arith, lies.from, ne)) lies.to))
        ] in
        ap (is_begun s clean) first ∙ ap (λ x. nat_lt (tally x clean) (count_of s x)) (buf_is s.arena b in_it.1)
        ∙ held_live s clean b tidy in_it.1 (beside b in_it.1 in_it.2))
  ]
]

busy_pinned : (s : Stored) (clean : List BufId) (q : ℕ) → IsTidy s → IsStill s.arena → IsBeside s clean q
    → usable s.arena q ≡ false → is_pinned s clean q ≡ true
unfolding is_pinned
busy_pinned s clean q tidy still beside no_use =
    parts (kind_free (entry_at s.arena q).kind) (nat_lt (generation_at s.arena q) s.arena.limit) refl refl no_use
  where
    parts : (f l : Bool) → kind_free (entry_at s.arena q).kind ≡ f → nat_lt (generation_at s.arena q) s.arena.limit ≡ l
        → (f && l) ≡ false
        → (not (nat_lt (generation_at s.arena q) s.arena.limit)
        || is_begun s clean (first_on (entry_at s.arena q).kind q)) ≡ true
    parts true true f l h = cc
    parts f false g l h = ap (λ b. not b || is_begun s clean (first_on (entry_at s.arena q).kind q)) l
    parts false true f l h = ap (λ b. not b || is_begun s clean (first_on (entry_at s.arena q).kind q)) l
        ∙ begun_on s clean q tidy still beside f

-- each page is either usable or pinned, if clean extents hold no buffer on it
pub all_of : (s : Stored) (clean : List BufId) (qs : List ℕ) → IsTidy s → IsStill s.arena
    → ((q : ℕ) → In qs q → IsBeside s clean q)
    → length (filter (usable s.arena) qs) + length (filter (is_pinned s clean) qs) ≡ length qs
all_of s clean [] tidy still beside = refl
all_of s clean (q ∷ qs) tidy still beside =
    one (usable s.arena q) (is_pinned s clean q) (usable_reclaimable s clean q)
    (busy_pinned s clean q tidy still (beside q (inl refl))) (all_of s clean qs tidy still (λ x h. beside x (inr h)))
  where
    one : (u p : Bool) → (u ≡ true → p ≡ false) → (u ≡ false → p ≡ true)
        → length (filter (usable s.arena) qs) + length (filter (is_pinned s clean) qs) ≡ length qs
        → length (cond u (q ∷ filter (usable s.arena) qs) (filter (usable s.arena) qs))
        + length (cond p (q ∷ filter (is_pinned s clean) qs) (filter (is_pinned s clean) qs)) ≡ suc (length qs)
    one true true h k ih = absurd (let e : ◌≡◌ {A = Bool} true false = h refl in cc)
    one true false h k ih = omega (arith, ih)
    one false true h k ih = omega (arith, ih)
    one false false h k ih = absurd (let e : ◌≡◌ {A = Bool} false true = k refl in cc)

-- if n pages are free after evictions, n pages fit next to the pinned ones
pub room_at_most : (s t : Stored) (p n : ℕ) (clean left : List BufId) → pages_of t p ≡ pages_of s p → FreesOnly s t
    → Counts s t clean left → n ≤ length (free_pages t.arena (pool_in t.pools p).chunks)
    → pinned_beside s clean p + n ≤ length (pages_of s p)
room_at_most s t p n clean left same frees counts enough =
    let most = at_most t left (pages_of t p) in
    let kept = pinned_kept (pages_of t p) frees counts in
    omega (arith, most, kept, enough, ap (λ (qs : List ℕ). length (filter (is_pinned s clean) qs)) same, ap length same)

pub no_room_left : (s t : Stored) (p n : ℕ) (clean left : List BufId) → pages_of t p ≡ pages_of s p → FreesOnly s t
    → Counts s t clean left → IsTidy t → IsStill t.arena → ((q : ℕ) → In (pages_of t p) q → IsBeside t left q)
    → length (free_pages t.arena (pool_in t.pools p).chunks) < n → pinned_beside s clean p + n ≤ length (pages_of s p)
    → ⊥
no_room_left s t p n clean left same frees counts tidy still beside few room =
    let all = all_of t left (pages_of t p) tidy still beside in
    let kept = pinned_kept (pages_of t p) frees counts in
    omega (
      arith,
      all,
      kept,
      few,
      room,
      ap (λ (qs : List ℕ). length (filter (is_pinned s clean) qs)) same,
      ap length same,
    )

pub same_pages : (s t : Stored) (p : ℕ) → FreesOnly s t → (pool_in s.pools p).closed ≡ false
    → pages_of t p ≡ pages_of s p
same_pages s t p frees is = ap (λ (x : Pool). flat_map chunk_pages x.chunks) (frees.pools p is)
