-- Every live buffer is held, and no page is lost.
use Rattle.std.proofs.Common.{◌≡◌, ℕ, ◌+◌, ◌<◌, ◌≤◌, inl, inr, length, get_or, sym, ap, ◌∙◌, arith, subst}
use Rattle.std.proofs.lemmas.List.{get_or-set_same, get_or-set_other, get_or_past}
use Rattle.std.proofs.lemmas.Bool.{cases_eq, cases_lt}
use Rattle.iol_core.specs.declared.numbers.BufId.{BufId}
use Rattle.iol_arena.specs.State.{State, HasRuns, entry_at, kind_head, with_marked, marked, pages_for, no_entry}
use Rattle.iol_arena.specs.Buffers.{IsLive, LiesOn, Frees, kind_len}
use Rattle.iol_arena.specs.declared.pages.PageKind.TheVariants.{Free, Head}
use Rattle.iol_arena.proofs.Each.{order, length-each_from, each_before, each_after, each_there}
use Rattle.iol_arena.proofs.Keeps.{runs_alone}
use Rattle.iol_pool.specs.Owners.{AreOwned}
use Rattle.iol_hold.specs.StoreState.{Stored, count_of, IsTidy, IsPlaced, IsStill, with_count}
use Rattle.iol_hold.proofs.Counts.{count_live, live_within}

-- every live buffer is held, and no page is lost
pub record HoldsAll (s : Stored) : Type 0 where
  pub held : (b : BufId) → IsLive s.arena b → 0 < count_of s b
  pub placed : (q : ℕ) → IsPlaced s.arena q

pub holds_all : {s : Stored} → IsTidy s → HoldsAll s
holds_all h = record { held = h.held; placed = h.placed }

pub tidy_of : {s : Stored} → HoldsAll s → HasRuns s.arena.entries → AreOwned s.arena s.pools → IsTidy s
tidy_of {s = s} h runs owned = record {
  held = h.held;
  placed = h.placed;
  alone = runs_alone s.arena runs;
  runs =
      runs;
  owned = owned;
}

-- the count of a live buffer is set, and not to 0
pub tidy_count : (s : Stored) (b : BufId) (n : ℕ) → 0 < count_of s b → 0 < n → IsTidy s → IsTidy (with_count s b.page n)
tidy_count s b n live some tidy =
    let t = with_count s b.page n in
    record {
      held = λ a h. elim (cases_eq a.page b.page) [
        | inl e ↦ omega (
          arith,
          count_live t a h,
          get_or-set_same s.counts b.page n 0 (live_within s b live),
          ap (λ p. get_or t.counts p 0) e,
          some,
        )
        | inr ne ↦ (let was : IsLive s.arena a = record { head = h.head; generation = h.generation } in
            omega (
              arith,
              count_live t a h,
              get_or-set_other s.counts b.page a.page n 0 ne,
              count_live s a was,
              tidy.held a was,
            ))
      ];
      placed = tidy.placed;
      alone = record { each = tidy.alone.each };
      runs = tidy.runs;
      owned = tidy.owned;
    }

-- a buffer stays live if the entry of its first page is unchanged
pub live_stays : (s t : State) (b : BufId) → entry_at t b.page ≡ entry_at s b.page → IsLive s b → IsLive t b
live_stays s t b e h = record {
  head = subst (λ x. x.kind ≡ Head (kind_len x.kind)) (sym e) h.head;
  generation = ap (λ x. x.generation) e ∙ h.generation;
}

pub lies_stays : (s t : State) (b : BufId) (q : ℕ) → entry_at t b.page ≡ entry_at s b.page → LiesOn s b q → LiesOn t b q
lies_stays s t b q e h =
    record { from = h.from; to = subst (λ x. q < b.page + pages_for (kind_len x.kind)) (sym e) h.to }

-- a page stays placed if its entry is unchanged, and so are the first pages of live buffers on it
pub placed_stays : (s t : State) (q : ℕ) → entry_at t q ≡ entry_at s q
    → ((b : BufId) → IsLive s b → LiesOn s b q → entry_at t b.page ≡ entry_at s b.page) → IsPlaced s q → IsPlaced t q
placed_stays s t q e first h = elim h [
  | inl free ↦ inl (ap (λ x. x.kind) e ∙ free)
  | inr r ↦ elim r [
    | inl pending ↦ inr (inl (ap (λ x. x.kind) e ∙ pending))
    | inr (b, live, lies) ↦
        inr (inr (b, live_stays s t b (first b live lies) live, lies_stays s t b q (first b live lies) lies))
  ]
]

-- a buffer is freed
module _ (s : State) (p n : ℕ) (head : (entry_at s p).kind ≡ Head n)
    (frees : Frees s (with_marked s p (pages_for n) Free 0) p) where
  abbrev freed : State
  freed = with_marked s p (pages_for n) Free 0

  -- each page of the buffer is free, and a number past the last page counts as free
  cleared : (q : ℕ) → p ≤ q → q < p + pages_for n → (entry_at freed q).kind ≡ Free
  cleared q lo hi = elim (cases_lt q (length s.entries)) [
    | inl h ↦ ap (λ e. e.kind) (each_there (marked Free 0) p (pages_for n) q s.entries lo hi h)
    | inr h ↦
        ap (λ e. e.kind)
        (get_or_past freed.entries q no_entry
        (omega (arith, h, length-each_from (marked Free 0) p (pages_for n) s.entries)))
  ]

  -- the first page of another live buffer is unchanged
  other : (b : BufId) → IsLive s b → (b.page ≡ p → ⊥) → entry_at freed b.page ≡ entry_at s b.page
  other b live ne = elim (frees.others b.page ne) [
    | inl e ↦ e
    | inr f ↦ (let h = ap kind_head live.head in absurd (cc (h, f.0)))
  ]

  pub freed_placed : (q : ℕ) → IsPlaced s q → IsPlaced freed q
  freed_placed q h = elim (order p (pages_for n) q) [
    | inl lo ↦ placed_stays s freed q (each_before (marked Free 0) p (pages_for n) q s.entries lo)
        (λ b live lies. other b live (λ e. omega (arith, lies.from, lo, e))) h
    | inr r ↦ elim r [
      | inl at ↦ inl (cleared q at.0 at.1)
      | inr hi ↦ placed_stays s freed q (each_after (marked Free 0) p (pages_for n) q s.entries hi)
          (λ b live lies. other b live (λ e. (let len = ap (λ x. kind_len (entry_at s x).kind) e ∙ ap kind_len head in
          let to = ap pages_for len in omega (arith, lies.to, hi, e, to)))) h
    ]
  ]

  pub freed_still : IsStill s → IsStill freed
  freed_still h = record {
    each = λ q pending. elim (order p (pages_for n) q) [
      | inl lo ↦ h.each q (ap (λ e. e.kind) (sym (each_before (marked Free 0) p (pages_for n) q s.entries lo))
          ∙ pending)
      | inr r ↦ elim r [
        | inl at ↦ (let free = cleared q at.0 at.1 in cc (free, pending))
        | inr hi ↦ h.each q (ap (λ e. e.kind) (sym (each_after (marked Free 0) p (pages_for n) q s.entries hi))
            ∙ pending)
      ]
    ];
  }

  -- a buffer that is live afterwards begins on another page, whose entry is unchanged
  pub freed_live : (b : BufId) → IsLive freed b → (b.page ≡ p → ⊥) × (entry_at freed b.page ≡ entry_at s b.page)
  freed_live b live =
      let ne : b.page ≡ p → ⊥ =
      λ e. (let h = ap kind_head live.head in let g = ap (λ q. kind_head (entry_at freed q).kind) e ∙ frees.gone in
      cc (h, g)) in (
        ne,
        elim (frees.others b.page ne) [
          | inl e ↦ e
          | inr f ↦
              (let h = ap kind_head live.head in absurd (cc (h, f.1)))
        ],
      )
