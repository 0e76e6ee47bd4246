-- Pages after releases.
use Rattle.std.proofs.Common.{inl, inr, ◌≡◌, ◌⊎◌, true, false, cond, ℕ, ◌+◌, ◌<◌, ◌≤◌, List, [], length, get_or, refl}
use Rattle.std.proofs.Common.{sym, ap, ◌∙◌, arith, subst, ◌&&◌, Some, None}
use Rattle.std.proofs.lemmas.Bool.{cases_eq}
use Rattle.iol_core.specs.declared.numbers.BufId.{BufId}
use Rattle.iol_arena.specs.State.{State, HasRuns, entry_at, entry_in, generation_at, pages_for, marked, kind_head}
use Rattle.iol_arena.specs.Buffers.{IsLive, kind_len, with_freed}
use Rattle.iol_arena.specs.declared.pages.Entry.{Entry}
use Rattle.iol_arena.specs.declared.pages.PageKind as kind
use Rattle.iol_arena.specs.declared.pages.PageKind.TheVariants.{Free, Head}
use Rattle.iol_arena.proofs.Keeps.{freed_head}
use Rattle.iol_arena.proofs.Marks.{pages_some}
use Rattle.iol_arena.proofs.Each.{order, each_before, each_after, each_there}
use Rattle.iol_arena.specs.Firsts.{first_on}
use Rattle.iol_hold.specs.StoreState.{Stored, count_of, with_arena}
use Rattle.iol_hold.specs.Moves.{Counts}
use Rattle.iol_pool.specs.Pools.{Pool, pool_in, goes_back, with_returned, reclaimed, reclaimed_arena}
use Rattle.iol_pool.proofs.Owners.{reclaimed-no, pool_in-reclaimed}
use Rattle.std.specs.List.{list_all}
use Rattle.iol_arena.specs.Chunks.{is_unused}
use Rattle.iol_arena.proofs.Good.{bool_cases}
use Rattle.iol_hold.proofs.ChunkReturns.{chunks_returned}
use Rattle.iol_hold.specs.Releases.{buf_at, FreesOnly, HasAllOrNone}
use Rattle.iol_hold.proofs.Counts.{tally_none, no_head}
use Rattle.iol_hold.proofs.LastHolds.{length-with_freed}

none_first : (k : kind.PageKind) (q p : ℕ) → k ≡ Free → first_on k q ≡ Some p → ⊥
none_first k q p free some = absurd_of (sym (ap (λ (x : kind.PageKind). first_on x q) free) ∙ some)
  where
    absurd_of : None ≡ Some p → ⊥
    absurd_of e = cc

-- two steps, one after the other
pub all_or_none : (a b c : Stored) (p : ℕ) → HasAllOrNone a b p → HasAllOrNone b c p → HasAllOrNone a c p
all_or_none a b c p m (inr none) = inr none
all_or_none a b c p (inl was) (inl same) = inl (same ∙ was)
all_or_none a b c p (inr none) (inl same) = inr (same ∙ none)

-- no entry changed
pub frees_chunks : (s t : Stored) → t.arena.entries ≡ s.arena.entries → t.arena.limit ≡ s.arena.limit
    → ((p : ℕ) → (pool_in s.pools p).closed ≡ false → pool_in t.pools p ≡ pool_in s.pools p)
    → ((p : ℕ) → HasAllOrNone s t p) → FreesOnly s t
frees_chunks s t same limit open_stays chunks = record {
  chunks = chunks;
  count = ap length same;
  runs = λ h. subst HasRuns (sym same) h;
  pools = open_stays;
  limit = limit;
  incremented = λ q. ap (λ (es : List Entry). (entry_in es q).generation) same;
  each = λ q. inl (ap (λ (es : List Entry). (entry_in es q).kind) same);
  freed =
      λ q p free some.
      absurd (none_first (entry_at s.arena q).kind q p (sym (ap (λ (es : List Entry). (entry_in es q).kind) same)
      ∙ free) some);
}

pub frees_none : (s t : Stored) → t.arena.entries ≡ s.arena.entries → t.arena.limit ≡ s.arena.limit → t.pools ≡ s.pools
    → FreesOnly s t
frees_none s t same limit pools =
    frees_chunks s t same limit (λ p is. ap (λ (ps : List Pool). pool_in ps p) pools)
    (λ p. inl (ap (λ (ps : List Pool). (pool_in ps p).chunks) pools))

pub frees_trans : {a b c : Stored} {xs : List BufId} → FreesOnly a b → FreesOnly b c → Counts b c xs [] → FreesOnly a c
frees_trans {a = a} {b = b} {c = c} {xs = xs} m n counts = record {
  runs = λ h. n.runs (m.runs h);
  pools = λ p is. n.pools p (ap (λ (x : Pool). x.closed) (m.pools p is) ∙ is) ∙ m.pools p is;
  chunks = λ p. all_or_none a b c p (m.chunks p) (n.chunks p);
  count = n.count ∙ m.count;
  limit = n.limit ∙ m.limit;
  incremented = λ q. n.incremented q ∙ m.incremented q;
  each = λ q. elim (n.each q) [
    | inl same ↦ elim (m.each q) [ inl was ↦ inl (same ∙ was) | inr free ↦ inr (same ∙ free) ]
    | inr free ↦ inr free
  ];
  freed = λ q p free some. elim (m.each q) [
    | inl was ↦ (
        let there = ap (λ (k : kind.PageKind). first_on k q) was ∙ some in
        let buf : buf_at b.arena p ≡ buf_at a.arena p =
        λ i. (let x : BufId = record { page = p; generation = m.incremented p i } in x) in
        ap (count_of c) (sym buf) ∙ n.freed q p free there)
    | inr gone ↦
        (let z = m.freed q p gone some in
        omega (arith, z, counts.each (buf_at a.arena p), tally_none (buf_at a.arena p)))
  ];
}

-- the pages of a freed buffer
module _ (s : State) (p : ℕ) (runs : HasRuns s.entries)
    (head : (entry_at s p).kind ≡ Head (kind_len (entry_at s p).kind)) where
  abbrev count : ℕ
  count = pages_for (kind_len (entry_at s p).kind)

  pub page_after : (q : ℕ) → (entry_at (with_freed s p) q ≡ entry_at s q)
      ⊎ ((p ≤ q) × (q < p + count) × (entry_at (with_freed s p) q ≡ marked Free 0 (entry_at s q)))
  page_after q = elim (order p count q) [
    | inl h ↦ inl (each_before (marked Free 0) p count q s.entries h)
    | inr r ↦ elim r [
      | inl h ↦ (let room = (runs.each p (kind_len (entry_at s p).kind) head).room in
          inr (h.0, h.1, each_there (marked Free 0) p count q s.entries h.0 h.1 (omega (arith, h.1, room))))
      | inr h ↦ inl (each_after (marked Free 0) p count q s.entries h)
    ]
  ]

  first_free : kind_head (entry_at (with_freed s p) p).kind ≡ false
  first_free =
      let run = runs.each p (kind_len (entry_at s p).kind) head in
      ap (λ (e : Entry). kind_head e.kind)
      (freed_head s p (omega (arith, run.room, pages_some (kind_len (entry_at s p).kind) run.some)) run.some)

  first_of : (q r : ℕ) → p ≤ q → q < p + count → first_on (entry_at s q).kind q ≡ Some r → r ≡ p
  first_of q r lo hi some = elim (cases_eq q p) [
    | inl e ↦ (
        let is : first_on (entry_at s q).kind q ≡ Some p = ap (λ n. first_on (entry_at s n).kind n) e
        ∙ ap (λ (k : kind.PageKind). first_on k p) head in
        cc)
    | inr ne ↦ (
        let tail = (runs.each p (kind_len (entry_at s p).kind) head).tails q (omega (arith, lo, ne)) hi in
        let is : first_on (entry_at s q).kind q ≡ Some p = ap (λ (k : kind.PageKind). first_on k q) tail in
        cc)
  ]

-- one buffer freed, whole
pub frees_one : (s : Stored) (b : BufId) → HasRuns s.arena.entries → HasRuns (with_freed s.arena b.page).entries
    → IsLive s.arena b → FreesOnly s (with_arena s (with_freed s.arena b.page))
unfolding count_of
frees_one s b runs after live = record {
  runs = λ h. after;
  pools = λ p is. refl;
  chunks = λ p. inl refl;
  count = length-with_freed s.arena b.page;
  limit = refl;
  incremented = λ q. elim (page_after s.arena b.page runs live.head q) [
    | inl e ↦ ap (λ (x : Entry). x.generation) e
    | inr e ↦ ap (λ (x : Entry). x.generation) e.2 ∙ omega arith
  ];
  each = λ q. elim (page_after s.arena b.page runs live.head q) [
    | inl e ↦ inl (ap (λ (x : Entry). x.kind) e)
    | inr e ↦ inr (ap (λ (x : Entry). x.kind) e.2)
  ];
  freed = λ q p free some. elim (page_after s.arena b.page runs live.head q) [
    | inl e ↦ absurd (none_first (entry_at s.arena q).kind q p (sym (ap (λ (x : Entry). x.kind) e) ∙ free) some)
    | inr e ↦ (
        let at : p ≡ b.page = first_of s.arena b.page runs live.head q p e.0 e.1 some in
        no_head (entry_at (with_freed s.arena b.page) p) (get_or s.counts p 0) (generation_at s.arena p)
        (ap (λ n. kind_head (entry_at (with_freed s.arena b.page) n).kind) at
        ∙ first_free s.arena b.page runs live.head))
  ];
}

-- returning chunks changes no entry
pub reclaimed_entries : (s : State) (ps : List Pool) (p : ℕ) → (reclaimed_arena s ps p).entries ≡ s.entries
unfolding reclaimed_arena
reclaimed_entries s ps p =
    elim (goes_back s ps p) as (λ b. ◌≡◌ {A = List Entry} (cond b (with_returned s (pool_in ps p).chunks) s).entries
    s.entries) [ true ↦ refl | false ↦ refl ]

pub reclaimed_limit : (s : State) (ps : List Pool) (p : ℕ) → (reclaimed_arena s ps p).limit ≡ s.limit
unfolding reclaimed_arena
reclaimed_limit s ps p =
    elim (goes_back s ps p) as (λ b. ◌≡◌ {A = ℕ} (cond b (with_returned s (pool_in ps p).chunks) s).limit s.limit) [
      | true ↦ refl
      | false ↦ refl
    ]

pub open_reclaimed : (s : State) (ps : List Pool) (p q : ℕ) → (pool_in ps q).closed ≡ false
    → pool_in (reclaimed s ps p) q ≡ pool_in ps q
open_reclaimed s ps p q is = elim (cases_eq q p) [
  | inl e ↦ (
      let shut : (pool_in ps p).closed ≡ false = ap (λ n. (pool_in ps n).closed) (sym e) ∙ is in
      let stays : goes_back s ps p ≡ false = ap (λ b. b && list_all (is_unused s) (pool_in ps p).chunks) shut in
      ap (λ (xs : List Pool). pool_in xs q) (reclaimed-no s ps p stays))
  | inr ne ↦ pool_in-reclaimed s ps p q ne
]

-- a pool returns all its chunks or none, and the others keep theirs
pub chunks_reclaimed : (s : State) (ps : List Pool) (p q : ℕ)
    → ((pool_in (reclaimed s ps p) q).chunks ≡ (pool_in ps q).chunks) ⊎ ((pool_in (reclaimed s ps p) q).chunks ≡ [])
chunks_reclaimed s ps p q = elim (cases_eq q p) [
  | inr ne ↦ inl (ap (λ (x : Pool). x.chunks) (pool_in-reclaimed s ps p q ne))
  | inl e ↦ elim (bool_cases (goes_back s ps p)) [
    | inl back ↦ inr (ap (λ r. (pool_in (reclaimed s ps p) r).chunks) e ∙ chunks_returned s ps p back)
    | inr stays ↦ inl (ap (λ (xs : List Pool). (pool_in xs q).chunks) (reclaimed-no s ps p stays))
  ]
]
