-- If each buffer has the same count, no page was freed, and no pool returned chunks.
use Rattle.std.proofs.Common.{inl, inr, ◌≡◌, ◌∙◌, ℕ, zero, suc, ◌-◌, ◌*◌, ◌/◌, ◌<◌, true, Bool, List, [], ◌∷◌, get_or}
use Rattle.std.proofs.Common.{map, Option, Some, refl, sym, ap, arith, subst}
use Rattle.std.specs.List.{Contains, list_all}
use Rattle.std.proofs.lemmas.Bool.{cases_eq, cases_lt}
use Rattle.std.proofs.lemmas.Bool.Decides.{nat_tests}
use Rattle.iol_core.specs.State as machine
use Rattle.iol_core.specs.declared.numbers.BufId.{BufId}
use Rattle.iol_arena.specs.Buffers.{IsLive, LiesOn, kind_len}
use Rattle.iol_arena.specs.Chunks.{chunk_pages, is_unused}
use Rattle.iol_arena.specs.State as arena
use Rattle.iol_arena.specs.declared.pages.Entry.{Entry}
use Rattle.iol_arena.specs.declared.pages.PageKind.{PageKind}
use Rattle.iol_arena.specs.declared.pages.PageKind.TheVariants.{Free, Head, Tail}
use Rattle.iol_arena.proofs.Good.{bool_cases}
use Rattle.iol_arena.proofs.Members.{In, contains_in, in_contains, range_in}
use Rattle.iol_pool.specs.Pools.{Pool, no_pool, pool_in}
use Rattle.iol_arena.specs.Firsts.{first_on}
use Rattle.iol_hold.specs.Moves.{SameLists, Stays, pool_meant}
use Rattle.iol_hold.specs.Releases.{buf_at}
use Rattle.iol_hold.specs.StoreState.{Stored, AllReclaimed, IsInPool, IsPlaced, IsStill, IsTidy, count_of}
use Rattle.iol_hold.proofs.Counts.{live_of}
use Rattle.iol_kernel.specs.FileCalls.{with_slots}
use Rattle.iol_kernel.specs.KernelState.{KernelState, read_of}
use Rattle.iol_kernel.specs.Views.{state_view}
use Rattle.iol_system.specs.Laws.{KeepsPools, NoRoomKeepsPools}
use Rattle.iol_system.proofs.LackOfRoom.{HeldAlike, no_room_left}

-- The lists of pools.

meant_map : (ps : List Pool) (i : ℕ)
    → pool_meant (get_or ps i no_pool) ≡ get_or (map pool_meant ps) i (pool_meant no_pool)
meant_map [] i = refl
meant_map (x ∷ xs) zero = refl
meant_map (x ∷ xs) (suc i) = meant_map xs i

meant_at : (ps : List Pool) (p : ℕ) → (p ≡ 0 → ⊥)
    → pool_meant (pool_in ps p) ≡ get_or (map pool_meant ps) (p - 1) (pool_meant no_pool)
unfolding pool_in
meant_at ps p some = let is : pool_in ps p ≡ get_or ps (p - 1) no_pool = grind (arith, nat_tests, some) in
    ap pool_meant is ∙ meant_map ps (p - 1)

nothing_at : (ps qs : List Pool) (p : ℕ) → p ≡ 0 → pool_in ps p ≡ pool_in qs p
unfolding pool_in
nothing_at ps qs p z = grind (arith, nat_tests, z)

same_meant : (s t : Stored) → SameLists s t → (p : ℕ) → pool_meant (pool_in t.pools p) ≡ pool_meant (pool_in s.pools p)
same_meant s t same p = elim (cases_eq p 0) [
  | inl z ↦ ap pool_meant (nothing_at t.pools s.pools p z)
  | inr some ↦ meant_at t.pools p some ∙ ap (λ l. get_or l (p - 1) (pool_meant no_pool)) same
      ∙ sym (meant_at s.pools p some)
]

pool_of : (x y : Pool) → pool_meant x ≡ pool_meant y → x.chunks ≡ y.chunks → x ≡ y
pool_of x y meant chunks =
    let domains : x.domains ≡ y.domains = ap (λ (z : machine.Pool). z.domains) meant in
    let closed : x.closed ≡ y.closed = ap (λ (z : machine.Pool). z.closed) meant in
    ap (λ d. let z : Pool = record { domains = d; closed = x.closed; chunks = x.chunks } in z) domains
    ∙ ap (λ c. let z : Pool = record { domains = y.domains; closed = c; chunks = x.chunks } in z) closed
    ∙ ap (λ c. let z : Pool = record { domains = y.domains; closed = y.closed; chunks = c } in z) chunks

all_true : (f : ℕ → Bool) (xs : List ℕ) → ((x : ℕ) → In xs x → f x ≡ true) → list_all f xs ≡ true
all_true f [] each = refl
all_true f (x ∷ xs) each = (let first = each x (inl refl) in let rest = all_true f xs (λ y i. each y (inr i)) in
    rw (first, rest) refl)

no_chunk : (cs : List ℕ) (c : ℕ) → cs ≡ [] → Contains cs c → ⊥
no_chunk cs c none h = absurd (subst (λ l. In l c) none (in_contains cs c h))

module _ (s t : Stored) (tidy : IsTidy s) (still : IsStill s.arena) (alike : HeldAlike s t) where
  -- a live buffer is still held
  held_still : (b : BufId) → IsLive s.arena b → 0 < count_of t b
  held_still b live = omega (arith, tidy.held b live, alike.counts b)

  -- the first page of the buffer on a page
  begins : (b : BufId) (q : ℕ) → IsLive s.arena b → LiesOn s.arena b q
      → first_on (arena.entry_at s.arena q).kind q ≡ Some b.page
  begins b q live on = elim (cases_lt b.page q) [
    | inl before ↦ (let tail : (arena.entry_at s.arena q).kind ≡ Tail b.page =
        (tidy.runs.each b.page _ live.head).tails q before on.to in ap (λ (k : PageKind). first_on k q) tail)
    | inr here ↦ (
        let same : q ≡ b.page = omega (arith, here, on.from) in
        let head : (arena.entry_at s.arena q).kind ≡ Head (kind_len (arena.entry_at s.arena b.page).kind) =
        subst (λ n. (arena.entry_at s.arena n).kind ≡ Head (kind_len (arena.entry_at s.arena b.page).kind))
        (sym same) live.head in
        ap (λ (k : PageKind). first_on k q) head ∙ ap (λ n. let o : Option ℕ = Some n in o) same)
  ]

  named : (b : BufId) → IsLive s.arena b → buf_at s.arena b.page ≡ b
  named b live = ap (λ g. let z : BufId = record { page = b.page; generation = g } in z) live.generation

  kind_stays : (q : ℕ) → (arena.entry_at t.arena q).kind ≡ Free → IsPlaced s.arena q
      → (arena.entry_at t.arena q).kind ≡ (arena.entry_at s.arena q).kind
  kind_stays q free (inl was) = free ∙ sym was
  kind_stays q free (inr (inl pending)) = absurd (still.each q pending)
  kind_stays q free (inr (inr (b, live, on))) =
      let none : count_of t (buf_at s.arena b.page) ≡ 0 = alike.frees.freed q b.page free (begins b q live on) in
      absurd (omega (arith, none, ap (count_of t) (named b live), held_still b live))

  same_kind : (q : ℕ) → (arena.entry_at t.arena q).kind ≡ (arena.entry_at s.arena q).kind
  same_kind q = elim (alike.frees.each q) [
    | inl same ↦ same
    | inr free ↦ kind_stays q free (tidy.placed q)
  ]

  pub same_page : (q : ℕ) → arena.entry_at t.arena q ≡ arena.entry_at s.arena q
  same_page q =
      let x = arena.entry_at t.arena q in
      let y = arena.entry_at s.arena q in
      ap (λ g. let z : Entry = record { generation = g; kind = x.kind } in z) (alike.frees.incremented q)
      ∙ ap (λ k. let z : Entry = record { generation = y.generation; kind = k } in z) (same_kind q)

  -- A pool that has no chunks afterwards had no used page in its chunks.
  module _ (stays : Stays s t) (p : ℕ) (none : (pool_in t.pools p).chunks ≡ []) where
    free_page : (q : ℕ) → Contains (pool_in s.pools p).chunks (q / 16) → IsPlaced s.arena q
        → arena.kind_free (arena.entry_at s.arena q).kind ≡ true
    free_page q here (inl free) = ap arena.kind_free free
    free_page q here (inr (inl pending)) = absurd (still.each q pending)
    free_page q here (inr (inr (b, live, on))) =
        let run = tidy.runs.each b.page (kind_len (arena.entry_at s.arena b.page).kind) live.head in
        let at : q / 16 ≡ b.page / 16 = omega (arith, on.from, on.to, run.chunk) in
        let home : IsInPool s p b = subst (λ c. Contains (pool_in s.pools p).chunks c) at here in
        let there : IsInPool t p b = stays.homes p b live (live_of t b (held_still b live)) home in
        absurd (no_chunk (pool_in t.pools p).chunks (b.page / 16) none there)

    unused : (c : ℕ) → In (pool_in s.pools p).chunks c → is_unused s.arena c ≡ true
    unfolding chunk_pages
    unused c i = all_true (λ q. arena.kind_free (arena.entry_at s.arena q).kind) (chunk_pages c)
        (λ q j. (let r = range_in (c * 16) 16 q j in
        let at : q / 16 ≡ c = omega (arith, r.0, r.1) in
        free_page q
        (subst (λ k. Contains (pool_in s.pools p).chunks k) (sym at) (contains_in (pool_in s.pools p).chunks c i))
        (tidy.placed q)))

    none_before : AllReclaimed s → (pool_in s.pools p).closed ≡ true → (pool_in s.pools p).chunks ≡ []
    none_before reclaimed closed = (let all = all_true (is_unused s.arena) (pool_in s.pools p).chunks unused in
        reclaimed.each p (rw (closed, all) refl))

  same_chunks : Stays s t → AllReclaimed s → (p : ℕ) → (pool_in t.pools p).chunks ≡ (pool_in s.pools p).chunks
  same_chunks stays reclaimed p = elim (alike.frees.chunks p) [
    | inl same ↦ same
    | inr none ↦ elim (bool_cases (pool_in s.pools p).closed) [
      | inl closed ↦ none ∙ sym (none_before stays p none reclaimed closed)
      | inr yet ↦ ap (λ (x : Pool). x.chunks) (alike.frees.pools p yet)
    ]
  ]

  pub pools_stay : Stays s t → SameLists s t → AllReclaimed s → KeepsPools s t
  pools_stay stays lists reclaimed = record {
    pools =
        λ p. pool_of (pool_in t.pools p) (pool_in s.pools p) (same_meant s t lists p) (same_chunks stays reclaimed p);
    pages = same_page;
    counts = alike.counts;
  }

-- if the machine's states are equal, so are the lists of pools
lists_of : (x y : List (List ℕ)) (h k : KernelState) → with_slots y k ≡ with_slots x h → SameLists h.store k.store
unfolding with_slots read_of state_view
lists_of x y h k is = ap (λ (m : machine.State). m.pools) is

pub no_room_pools : NoRoomKeepsPools
no_room_pools old new e p safe x =
    let sound = safe.sound in
    pools_stay old.kernel.store new.kernel.store sound.tidy sound.still
    ((no_room_left old new e p x).1 sound x.safe.sound) x.stays
    (lists_of x.beside.before x.beside.after old.kernel new.kernel x.beside.step.1) sound.reclaimed
