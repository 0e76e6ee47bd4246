-- The extents after a write: those that it does not meet, the parts on both sides of its range, and the new one.
use Rattle.std.proofs.Common.{inl, inr, ◌≡◌, ◌⊎◌, ℕ, ◌+◌, ◌-◌, ◌<◌, ◌≤◌, Bool, true, false, cond, List, [], ◌∷◌, length}
use Rattle.std.proofs.Common.{get_or, Option, Some, None, MatchOption, refl, sym, ap, ◌∙◌, arith, subst}
use Rattle.std.proofs.lemmas.Bool.{cases_lt}
use Rattle.std.proofs.lemmas.Bool.Decides.{nat_tests}
use Rattle.std.proofs.lemmas.List.{get_or-take, get_or-drop, length-take-le, length-drop}
use Rattle.iol_hold.specs.Places.{Place, byte_len, places}
use Rattle.iol_extent.specs.Extents.{Adds, Extent, IsApart, IsGap, cell_at, cover, end_of, extent_over, is_over, meets}
use Rattle.iol_extent.specs.Extents.{no_place, unmet}
use Rattle.iol_extent.proofs.Cover.{cover-extent, extent_no, extent_yes}
use Rattle.iol_extent.proofs.RangeExtents.{unmet_free, unmet_gone, unmet_stays}
use Rattle.iol_cache.specs.Cuts.{CutsLeft, CutsRight, IsAfter, IsBefore}
use Rattle.iol_cache.proofs.Extents.FewerExtents.{over_not, over_yes}
use Rattle.iol_cache.proofs.RangeReads.SharedBytes.{over_at, over_low}

met : (e : Extent) (from to : ℕ) → e.at < to → from < end_of e → meets from to e ≡ true
met e from to h k = grind (arith, nat_tests)

-- an extent is over all its bytes
over_same : (low : ℕ) (es : List Extent) (at i : ℕ) (e : Extent) → IsApart low es → extent_over es at ≡ Some e
    → e.at ≤ i → i < end_of e → extent_over es i ≡ Some e
over_same low [] at i e a h lo hi = cc
over_same low (x ∷ xs) at i e a h lo hi = here (is_over x at) h (λ t. over_same (end_of x) xs at i e a.2 t lo hi) where
  here : (b : Bool) → cond b (Some x) (extent_over xs at) ≡ Some e
      → (extent_over xs at ≡ Some e → extent_over xs i ≡ Some e) → extent_over (x ∷ xs) i ≡ Some e
  here true h ih = let same : x ≡ e = cc in
      extent_yes x xs i (omega (arith, lo, ap (λ (y : Extent). y.at) same)) (omega (arith, hi, ap end_of same))
      ∙ ap (λ (y : Extent). Some y) same
  here false h ih = let low2 = over_low (end_of x) xs at e a.2 h in extent_no x xs i (inr (omega (arith, low2, lo)))
      ∙ ih h

nothing_over : (es : List Extent) (i : ℕ) → extent_over es i ≡ None → cover es i ≡ None
nothing_over [] i h = refl
nothing_over (x ∷ xs) i h = here (is_over x i) h (nothing_over xs i) where
  here : (b : Bool) → cond b (Some x) (extent_over xs i) ≡ None → (extent_over xs i ≡ None → cover xs i ≡ None)
      → cond b (Some (cell_at x i)) (cover xs i) ≡ None
  here true h ih = cc
  here false h ih = ih h

found : (o : Option Extent) → (o ≡ None) ⊎ ((e : Extent) × (o ≡ Some e))
found None = inl refl
found (Some e) = inr (e, refl)

-- The parts.

left_none : (es : List Extent) (from : ℕ) (x : Extent) → CutsLeft es from x → extent_over es from ≡ None
    → byte_len x.parts ≡ 0
left_none es from x c none =
    ap byte_len (subst (λ (o : Option Extent). MatchOption o (x.parts ≡ []) (IsBefore from x)) none c.cut)

left_some : (es : List Extent) (from : ℕ) (x e : Extent) → CutsLeft es from x → extent_over es from ≡ Some e
    → IsBefore from x e
left_some es from x e c some = subst (λ (o : Option Extent). MatchOption o (x.parts ≡ []) (IsBefore from x)) some c.cut

right_none : (es : List Extent) (to : ℕ) (x : Extent) → CutsRight es to x → extent_over es (to - 1) ≡ None
    → byte_len x.parts ≡ 0
right_none es to x c none =
    ap byte_len (subst (λ (o : Option Extent). MatchOption o (x.parts ≡ []) (IsAfter to x)) none c.cut)

right_some : (es : List Extent) (to : ℕ) (x e : Extent) → CutsRight es to x → extent_over es (to - 1) ≡ Some e
    → IsAfter to x e
right_some es to x e c some = subst (λ (o : Option Extent). MatchOption o (x.parts ≡ []) (IsAfter to x)) some c.cut

-- a part on the left that has a byte is of an extent over the first byte of the range
pub record LeftOf (es : List Extent) (from : ℕ) (x : Extent) : Type 0 where
  pub extent : Extent
  pub over : extent_over es from ≡ Some extent
  pub before : IsBefore from x extent
  pub ends : end_of x ≡ from

pub left_of : (es : List Extent) (from : ℕ) (x : Extent) → CutsLeft es from x → 0 < byte_len x.parts → LeftOf es from x
left_of es from x c some = elim (found (extent_over es from)) [
  | inl none ↦ absurd (omega (arith, left_none es from x c none, some))
  | inr s ↦ (
      let e = s.0 in
      let has = over_at es from e s.1 in
      let is = left_some es from x e c s.1 in
      record {
        extent = e;
        over = s.1;
        before = is;
        ends =
            omega (
              arith,
              is.begins,
              ap length is.is,
              length-take-le (from - e.at) (places e.parts) (omega (arith, has.0, has.1)),
              has.0,
            );
      })
]

pub record RightOf (es : List Extent) (to : ℕ) (x : Extent) : Type 0 where
  pub extent : Extent
  pub over : extent_over es (to - 1) ≡ Some extent
  pub after : IsAfter to x extent
  pub ends : end_of x ≡ end_of extent

pub right_of : (es : List Extent) (to : ℕ) (x : Extent) → 0 < to → CutsRight es to x → 0 < byte_len x.parts
    → RightOf es to x
right_of es to x pos c some = elim (found (extent_over es (to - 1))) [
  | inl none ↦ absurd (omega (arith, right_none es to x c none, some))
  | inr s ↦ (
      let e = s.0 in
      let has = over_at es (to - 1) e s.1 in
      let is = right_some es to x e c s.1 in
      record {
        extent = e;
        over = s.1;
        after = is;
        ends = omega (arith, is.begins, ap length is.is, length-drop (to - e.at) (places e.parts), has.0, has.1, pos);
      })
]

-- a part that has ended, or has none of its bytes there
no_edge : (x : Extent) (i : ℕ) → (0 < byte_len x.parts → (i < x.at) ⊎ (end_of x ≤ i)) → is_over x i ≡ false
no_edge x i out = elim (cases_lt 0 (byte_len x.parts)) [
  | inl some ↦ over_not x i (out some)
  | inr none ↦
      elim (cases_lt i x.at) [ inl l ↦ over_not x i (inl l) | inr l ↦ over_not x i (inr (omega (arith, none, l))) ]
]

-- The gaps into which they are put.

pub left_gap : (es : List Extent) (from to : ℕ) (x : Extent) → IsApart 0 es → from < to → CutsLeft es from x
    → 0 < byte_len x.parts → IsGap (unmet es from to) x.at (end_of x)
left_gap es from to x apart order c some =
    let l = left_of es from x c some in
    let has = over_at es from l.extent l.over in
    record {
      each =
          λ i lo hi. unmet_gone 0 es from to i l.extent apart
          (over_same 0 es from i l.extent apart l.over (omega (arith, lo, l.before.begins))
          (omega (arith, hi, l.ends, has.1))) (met l.extent from to (omega (arith, has.0, order)) has.1);
    }

left_past : (es : List Extent) (from i : ℕ) (x : Extent) → CutsLeft es from x → from ≤ i → is_over x i ≡ false
left_past es from i x c h = no_edge x i (λ some. inr (let l = left_of es from x c some in omega (arith, l.ends, h)))

right_before : (es : List Extent) (to i : ℕ) (x : Extent) → 0 < to → CutsRight es to x → i < to → is_over x i ≡ false
right_before es to i x pos c h =
    no_edge x i (λ some. inl (let r = right_of es to x pos c some in omega (arith, r.after.begins, h)))

pub right_gap : (es es2 : List Extent) (from to : ℕ) (l x : Extent) → IsApart 0 es → from < to → CutsLeft es from l
    → CutsRight es to x → 0 < byte_len x.parts → Adds (unmet es from to) l es2 → IsGap es2 x.at (end_of x)
right_gap es es2 from to l x apart order cl c some adds =
    let r = right_of es to x (omega (arith, order)) c some in
    let has = over_at es (to - 1) r.extent r.over in
    record {
      each = λ i lo hi.
          adds.each i ∙ ap (λ b. cond b (Some (cell_at l i)) (cover (unmet es from to) i))
          (left_past es from i l cl (omega (arith, lo, r.after.begins, order)))
          ∙ unmet_gone 0 es from to i r.extent apart
          (over_same 0 es (to - 1) i r.extent apart r.over (omega (arith, lo, r.after.begins, has.0, order))
          (omega (arith, hi, r.ends)))
          (met r.extent from to (omega (arith, has.0, order)) (omega (arith, has.1, order)));
    }

-- no extent is over the range
range_clear : (es : List Extent) (from to i : ℕ) → IsApart 0 es → from ≤ i → i < to → cover (unmet es from to) i ≡ None
range_clear es from to i apart lo hi = elim (found (extent_over es i)) [
  | inl none ↦ unmet_free es from to i (nothing_over es i none)
  | inr s ↦
      (let has = over_at es i s.0 s.1 in
      unmet_gone 0 es from to i s.0 apart s.1 (met s.0 from to (omega (arith, has.0, hi)) (omega (arith, has.1, lo))))
]

pub new_gap : (es es2 es3 : List Extent) (from to : ℕ) (l x : Extent) → IsApart 0 es → from < to → CutsLeft es from l
    → CutsRight es to x → Adds (unmet es from to) l es2 → Adds es2 x es3 → IsGap es3 from to
new_gap es es2 es3 from to l x apart order cl cr al ar = record {
  each = λ i lo hi.
      ar.each i
      ∙ ap (λ b. cond b (Some (cell_at x i)) (cover es2 i)) (right_before es to i x (omega (arith, order)) cr hi)
      ∙ al.each i ∙ ap (λ b. cond b (Some (cell_at l i)) (cover (unmet es from to) i)) (left_past es from i l cl lo)
      ∙ range_clear es from to i apart lo hi;
}

-- The bytes under the extents after the cut.

cell_same : (x e : Extent) (i : ℕ) → x.dirty ≡ e.dirty
    → get_or (places x.parts) (i - x.at) no_place ≡ get_or (places e.parts) (i - e.at) no_place
    → Some (cell_at x i) ≡ Some (cell_at e i)
cell_same x e i d p = cc

left_cell : (x e : Extent) (from i : ℕ) → IsBefore from x e → e.at ≤ i → i < from
    → Some (cell_at x i) ≡ Some (cell_at e i)
left_cell x e from i b lo hi = cell_same x e i b.dirty
    (ap (λ (t : List Place). get_or t (i - x.at) no_place) b.is
    ∙ get_or-take (from - e.at) (places e.parts) (i - x.at) no_place (omega (arith, b.begins, lo, hi))
    ∙ ap (λ n. get_or (places e.parts) (i - n) no_place) b.begins)

right_cell : (x e : Extent) (to i : ℕ) → IsAfter to x e → e.at ≤ to → to ≤ i → Some (cell_at x i) ≡ Some (cell_at e i)
right_cell x e to i a lo hi = cell_same x e i a.dirty
    (ap (λ (t : List Place). get_or t (i - x.at) no_place) a.is
    ∙ get_or-drop (to - e.at) (places e.parts) (i - x.at) no_place
    ∙ ap (λ n. get_or (places e.parts) n no_place) (let q : (to - e.at) + (i - x.at) ≡ i - e.at =
    omega (arith, a.begins, lo, hi) in q))

-- outside the range, the cells are unchanged
outside : (es es2 es3 : List Extent) (from to i : ℕ) (l x : Extent) → IsApart 0 es → from < to → CutsLeft es from l
    → CutsRight es to x → Adds (unmet es from to) l es2 → Adds es2 x es3 → (i < from) ⊎ (to ≤ i)
    → cover es3 i ≡ cover es i
outside es es2 es3 from to i l x apart order cl cr al ar (inl before) =
    ar.each i
    ∙ ap (λ b. cond b (Some (cell_at x i)) (cover es2 i))
    (right_before es to i x (omega (arith, order)) cr (omega (arith, before, order)))
    ∙ al.each i ∙ elim (found (extent_over es i)) [
      | inl none ↦ (
          let out : is_over l i ≡ false = no_edge l i (λ some. (let p = left_of es from l cl some in
          let has = over_at es from p.extent p.over in
          elim (cases_lt i l.at) [
            | inl q ↦ inl q
            | inr q ↦
                absurd (let y = over_same 0 es from i p.extent apart p.over (omega (arith, q, p.before.begins))
                (omega (arith, before, has.1)) in cc)
          ])) in
          ap (λ b. cond b (Some (cell_at l i)) (cover (unmet es from to) i)) out
          ∙ unmet_free es from to i (nothing_over es i none) ∙ sym (nothing_over es i none))
      | inr s ↦ (
          let e = s.0 in
          let has = over_at es i e s.1 in
          elim (cases_lt from (end_of e)) [
            | inl reach ↦ (
                let there : extent_over es from ≡ Some e =
                over_same 0 es i from e apart s.1 (omega (arith, has.0, before)) reach in
                let b = left_some es from l e cl there in
                let long : byte_len l.parts ≡ from - e.at = ap length b.is
                ∙ length-take-le (from - e.at) (places e.parts) (omega (arith, reach, has.0, before)) in
                ap (λ c. cond c (Some (cell_at l i)) (cover (unmet es from to) i))
                (over_yes l i (omega (arith, b.begins, has.0)) (omega (arith, b.begins, long, before, has.0)))
                ∙ left_cell l e from i b has.0 before ∙ sym (cover-extent es i e s.1))
            | inr past ↦ (
                let no_more : meets from to e ≡ false = unmet_below e from to past in
                let out : is_over l i ≡ false = no_edge l i (λ some. (let p = left_of es from l cl some in
                let w = over_at es from p.extent p.over in
                elim (cases_lt i l.at) [
                  | inl q ↦ inl q
                  | inr q ↦
                      absurd (let y = over_same 0 es from i p.extent apart p.over (omega (arith, q, p.before.begins))
                      (omega (arith, before, w.1)) in let z : p.extent ≡ e = some_same (sym y ∙ s.1) in
                      omega (arith, w.1, past, ap end_of z))
                ])) in
                ap (λ b. cond b (Some (cell_at l i)) (cover (unmet es from to) i)) out
                ∙ unmet_stays es from to i e s.1 no_more)
          ])
    ]
  where
    unmet_below : (e : Extent) (from to : ℕ) → end_of e ≤ from → meets from to e ≡ false
    unmet_below e from to h = grind (arith, nat_tests)

    some_same : {a b : Extent} → Some a ≡ Some b → a ≡ b
    some_same h = cc
outside es es2 es3 from to i l x apart order cl cr al ar (inr after) =
    ar.each i ∙ elim (found (extent_over es i)) [
      | inl none ↦ (
          let out : is_over x i ≡ false =
          no_edge x i (λ some. (let r = right_of es to x (omega (arith, order)) cr some in
          let has = over_at es (to - 1) r.extent r.over in
          elim (cases_lt i (end_of x)) [
            | inl q ↦
                absurd (let y = over_same 0 es (to - 1) i r.extent apart r.over (omega (arith, has.0, after, order))
                (omega (arith, q, r.ends)) in cc)
            | inr q ↦ inr q
          ])) in
          ap (λ b. cond b (Some (cell_at x i)) (cover es2 i)) out ∙ al.each i
          ∙ ap (λ b. cond b (Some (cell_at l i)) (cover (unmet es from to) i))
          (left_past es from i l cl (omega (arith, after, order)))
          ∙ unmet_free es from to i (nothing_over es i none) ∙ sym (nothing_over es i none))
      | inr s ↦ (
          let e = s.0 in
          let has = over_at es i e s.1 in
          elim (cases_lt e.at to) [
            | inl reach ↦ (
                let there : extent_over es (to - 1) ≡ Some e =
                over_same 0 es i (to - 1) e apart s.1 (omega (arith, reach)) (omega (arith, has.1, after, order)) in
                let a = right_some es to x e cr there in
                let long : byte_len x.parts ≡ byte_len e.parts - (to - e.at) = ap length a.is
                ∙ length-drop (to - e.at) (places e.parts) in
                ap (λ c. cond c (Some (cell_at x i)) (cover es2 i))
                (over_yes x i (omega (arith, a.begins, after)) (omega (arith, a.begins, long, has.1, after, reach)))
                ∙ right_cell x e to i a (omega (arith, reach)) after ∙ sym (cover-extent es i e s.1))
            | inr past ↦ (
                let no_more : meets from to e ≡ false = unmet_above e from to past in
                let out : is_over x i ≡ false =
                no_edge x i (λ some. (let r = right_of es to x (omega (arith, order)) cr some in
                let w = over_at es (to - 1) r.extent r.over in
                elim (cases_lt i (end_of x)) [
                  | inl q ↦
                      absurd (let y = over_same 0 es (to - 1) i r.extent apart r.over (omega (arith, w.0, after, order))
                      (omega (arith, q, r.ends)) in let z : r.extent ≡ e = some_same (sym y ∙ s.1) in
                      omega (arith, w.0, past, order, ap (λ (y : Extent). y.at) z))
                  | inr q ↦ inr q
                ])) in
                ap (λ b. cond b (Some (cell_at x i)) (cover es2 i)) out ∙ al.each i
                ∙ ap (λ b. cond b (Some (cell_at l i)) (cover (unmet es from to) i))
                (left_past es from i l cl (omega (arith, after, order)))
                ∙ unmet_stays es from to i e s.1 no_more)
          ])
    ]
  where
    unmet_above : (e : Extent) (from to : ℕ) → to ≤ e.at → meets from to e ≡ false
    unmet_above e from to h = grind (arith, nat_tests)

    some_same : {a b : Extent} → Some a ≡ Some b → a ≡ b
    some_same h = cc

-- after the write, the new extent is over the range, and the cells outside it are unchanged
pub replaced : (es es2 es3 es4 : List Extent) (from to : ℕ) (l x new : Extent) → IsApart 0 es → from < to
    → CutsLeft es from l → CutsRight es to x → new.at ≡ from → end_of new ≡ to → Adds (unmet es from to) l es2
    → Adds es2 x es3 → Adds es3 new es4 → Adds es new es4
replaced es es2 es3 es4 from to l x new apart order cl cr begins ends al ar an = record {
  each = λ i. an.each i ∙ elim (cases_lt i from) [
    | inl p ↦
        ap (λ o. cond (is_over new i) (Some (cell_at new i)) o)
        (outside es es2 es3 from to i l x apart order cl cr al ar (inl p))
    | inr p ↦ elim (cases_lt i to) [
      | inl q ↦ (let y = over_yes new i (omega (arith, p, begins)) (omega (arith, q, ends)) in
          ap (λ b. cond b (Some (cell_at new i)) (cover es3 i)) y
          ∙ sym (ap (λ b. cond b (Some (cell_at new i)) (cover es i)) y))
      | inr q ↦
          ap (λ o. cond (is_over new i) (Some (cell_at new i)) o)
          (outside es es2 es3 from to i l x apart order cl cr al ar (inr q))
    ]
  ];
}
