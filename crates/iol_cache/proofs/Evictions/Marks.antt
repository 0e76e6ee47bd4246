-- Marks by page, one slice after another.
use Rattle.std.proofs.Common.{inl, inr, ◌≡◌, ℕ, ◌+◌, ◌-◌, ◌<◌, ◌≤◌, ◌^◌, cond, Bool, true, false, List, [], ◌∷◌, ◌++◌}
use Rattle.std.proofs.Common.{length, take, drop, get_or, set, refl, sym, ap, ◌∙◌, arith, subst}
use Rattle.std.specs.List.{All}
use Rattle.std.proofs.lemmas.List.{get_or-set_same, get_or-set_other, take-append-drop, length-map}
use Rattle.std.proofs.lemmas.List.Elements.{All-head, All-tail}
use Rattle.std.proofs.Math.ListN.{get_or-map, length-set}
use Rattle.std.proofs.lemmas.Bool.{cases_eq, eq-eqb, ne_eqb}
use Rattle.iol_core.specs.declared.numbers.BufId.{BufId}
use Rattle.iol_arena.specs.Buffers.{IsLive}
use Rattle.iol_arena.specs.State.{generation_at}
use Rattle.iol_hold.specs.StoreState.{Stored, count_of}
use Rattle.iol_hold.specs.Moves.{tally, same, Covers}
use Rattle.iol_hold.specs.Texts.{bufs_of}
use Rattle.iol_hold.specs.declared.slices.Slice.{Slice}
use Rattle.iol_hold.proofs.Counts.{bufs-take_more, bufs-append, other_page, same_self, equal_bufs, tally-at}
use Rattle.iol_cache.specs.Marks.{at_page, one_at, turned, AreWithin, CanTurn, HaveMarks, Marks, Turns, Unmarks}

pub at_page-append : (p : ℕ) (xs ys : List BufId) → at_page p (xs ++ ys) ≡ at_page p xs + at_page p ys
unfolding at_page
at_page-append p [] ys = sym (omega arith)
at_page-append p (x ∷ xs) ys = omega (arith, at_page-append p xs ys)

pub at_page-one : (p : ℕ) (b : BufId) → at_page p (b ∷ []) ≡ one_at p b
unfolding at_page
at_page-one p b = omega arith

pub at_page-none : (p : ℕ) → at_page p [] ≡ 0
unfolding at_page
at_page-none p = refl

pub within_at : (pages : ℕ) (xs : List Slice) (i : ℕ) (x : Slice) → AreWithin pages xs → i < length xs
    → x ≡ get_or xs i x → x.hold.buf.page < pages
within_at pages xs i x all h is =
    let e : get_or (bufs_of xs) i x.hold.buf ≡ x.hold.buf = get_or-map (λ (y : Slice). y.hold.buf) xs i x
    ∙ ap (λ (y : Slice). y.hold.buf) (sym is) in
    subst (λ (b : BufId). b.page < pages) e (all.each i x.hold.buf (rw length-map h))

pub more_at : (p : ℕ) (xs : List Slice) (i : ℕ) (x : Slice) → i < length xs → x ≡ get_or xs i x
    → at_page p (bufs_of (take (i + 1) xs)) ≡ at_page p (bufs_of (take i xs)) + one_at p x.hold.buf
more_at p xs i x h is = ap (at_page p) (bufs-take_more xs i x h is)
    ∙ at_page-append p (bufs_of (take i xs)) (x.hold.buf ∷ [])
    ∙ ap (λ n. at_page p (bufs_of (take i xs)) + n) (at_page-one p x.hold.buf)

pub at_page-take : (p : ℕ) (xs : List Slice) (i : ℕ) → at_page p (bufs_of (take i xs)) ≤ at_page p (bufs_of xs)
at_page-take p xs i =
    omega (
      arith,
      ap (λ ys. at_page p (bufs_of ys)) (take-append-drop i xs),
      ap (at_page p) (bufs-append (take i xs) (drop i xs)),
      at_page-append p (bufs_of (take i xs)) (bufs_of (drop i xs)),
    )

one_self : (b : BufId) → one_at b.page b ≡ 1
one_self b = ap (λ c. cond {A = ℕ} c 1 0) (eq-eqb b.page b.page refl)

-- one more slice
mark_more : (old now new : List ℕ) (xs : List Slice) (i : ℕ) (x : Slice) → Marks old now (take i xs) → i < length xs
    → x ≡ get_or xs i x → x.hold.buf.page < length now
    → new ≡ set now x.hold.buf.page (get_or now x.hold.buf.page 0 + 1) → Marks old new (take (i + 1) xs)
mark_more old now new xs i x so_far h is within new_is = record {
  each = λ p. elim (cases_eq p x.hold.buf.page) [
    | inl e ↦
        omega (
          arith,
          ap (λ (l : List ℕ). get_or l p 0) new_is,
          ap (λ q. get_or (set now x.hold.buf.page (get_or now x.hold.buf.page 0 + 1)) q 0) e,
          get_or-set_same now x.hold.buf.page (get_or now x.hold.buf.page 0 + 1) 0 within,
          so_far.each x.hold.buf.page,
          more_at p xs i x h is,
          ap (λ q. one_at q x.hold.buf) e,
          one_self x.hold.buf,
          ap (λ q. at_page q (bufs_of (take i xs))) e,
          ap (λ q. get_or old q 0) e,
        )
    | inr ne ↦
        omega (
          arith,
          ap (λ (l : List ℕ). get_or l p 0) new_is,
          get_or-set_other now x.hold.buf.page p (get_or now x.hold.buf.page 0 + 1) 0 ne,
          so_far.each p,
          more_at p xs i x h is,
          ap (λ c. cond {A = ℕ} c 1 0) (ne_eqb x.hold.buf.page p (λ k. ne (sym k))),
        )
  ];
  long = ap length new_is ∙ length-set now x.hold.buf.page (get_or now x.hold.buf.page 0 + 1) ∙ so_far.long;
}

unmark_more : (old now new : List ℕ) (xs : List Slice) (i : ℕ) (x : Slice) → Unmarks old now (take i xs)
    → HaveMarks old xs → i < length xs → x ≡ get_or xs i x → x.hold.buf.page < length now
    → new ≡ set now x.hold.buf.page (get_or now x.hold.buf.page 0 - 1) → Unmarks old new (take (i + 1) xs)
unmark_more old now new xs i x so_far have h is within new_is = record {
  each = λ p. elim (cases_eq p x.hold.buf.page) [
    | inl e ↦
        omega (
          arith,
          ap (λ (l : List ℕ). get_or l p 0) new_is,
          ap (λ q. get_or (set now x.hold.buf.page (get_or now x.hold.buf.page 0 - 1)) q 0) e,
          get_or-set_same now x.hold.buf.page (get_or now x.hold.buf.page 0 - 1) 0 within,
          so_far.each x.hold.buf.page,
          more_at p xs i x h is,
          ap (λ q. one_at q x.hold.buf) e,
          one_self x.hold.buf,
          ap (λ q. at_page q (bufs_of (take i xs))) e,
          ap (λ q. get_or old q 0) e,
          have.each x.hold.buf.page,
          at_page-take x.hold.buf.page xs (i + 1),
          more_at x.hold.buf.page xs i x h is,
        )
    | inr ne ↦
        omega (
          arith,
          ap (λ (l : List ℕ). get_or l p 0) new_is,
          get_or-set_other now x.hold.buf.page p (get_or now x.hold.buf.page 0 - 1) 0 ne,
          so_far.each p,
          more_at p xs i x h is,
          ap (λ c. cond {A = ℕ} c 1 0) (ne_eqb x.hold.buf.page p (λ k. ne (sym k))),
        )
  ];
  long = ap length new_is ∙ length-set now x.hold.buf.page (get_or now x.hold.buf.page 0 - 1) ∙ so_far.long;
}

-- the live buffers that begin at a page are one buffer
pub at_page-live : (s : Stored) (b : BufId) (bs : List BufId) → IsLive s.arena b → All (IsLive s.arena) bs
    → at_page b.page bs ≡ tally b bs
unfolding tally at_page
at_page-live s b [] live all = refl
at_page-live s b (x ∷ xs) live all =
    let rest = at_page-live s b xs live (All-tail (IsLive s.arena) x xs all) in
    let here = All-head (IsLive s.arena) x xs all in
    elim (cases_eq b.page x.page) [
      | inl e ↦ (
          let g : b.generation ≡ x.generation = sym live.generation ∙ ap (λ p. generation_at s.arena p) e
          ∙ here.generation in
          let one = ap (λ c. cond {A = ℕ} c 1 0) (eq-eqb x.page b.page (sym e)) in
          let two = ap (λ y. same b y) (sym (equal_bufs b x e g)) ∙ same_self b in
          omega (arith, rest, one, two))
      | inr ne ↦ (
          let one = ap (λ c. cond {A = ℕ} c 1 0) (ne_eqb x.page b.page (λ k. ne (sym k))) in
          let two = other_page b x ne in
          omega (arith, rest, one, two))
    ]

-- a slice of covered ones is of a held buffer
pub held_at : (s : Stored) (xs : List Slice) (i : ℕ) (x : Slice) → Covers s (bufs_of xs) → i < length xs
    → x ≡ get_or xs i x → 0 < count_of s x.hold.buf
held_at s xs i x covers h is =
    omega (arith, covers.each x.hold.buf, tally-at xs i x x.hold.buf h is, same_self x.hold.buf)

-- the same for both directions
pub turn_more : (b : Bool) (old now new : List ℕ) (xs : List Slice) (i : ℕ) (x : Slice) → Turns b old now (take i xs)
    → CanTurn b old xs → i < length xs → x ≡ get_or xs i x → x.hold.buf.page < length now
    → new ≡ set now x.hold.buf.page (turned b (get_or now x.hold.buf.page 0)) → Turns b old new (take (i + 1) xs)
turn_more true old now new xs i x so_far can h is = mark_more old now new xs i x so_far h is
turn_more false old now new xs i x so_far can h is = unmark_more old now new xs i x so_far can h is

pub turn_long : (b : Bool) (old new : List ℕ) (xs : List Slice) → Turns b old new xs → length new ≡ length old
turn_long true old new xs m = m.long
turn_long false old new xs m = m.long

pub turn_none : (b : Bool) (old : List ℕ) → Turns b old old []
turn_none true old = record { each = λ p. omega (arith, at_page-none p); long = refl }
turn_none false old = record { each = λ p. omega (arith, at_page-none p); long = refl }

-- there is room for one more
pub few_at : (b : Bool) → b ≡ true → (old now : List ℕ) (xs : List Slice) (i : ℕ) (x : Slice)
    → Turns b old now (take i xs) → CanTurn b old xs → i < length xs → x ≡ get_or xs i x
    → get_or now x.hold.buf.page 0 < 2 ^ 63
few_at true more old now xs i x so_far few h is =
    omega (arith, so_far.each x.hold.buf.page, few.each x.hold.buf.page, at_page-take x.hold.buf.page xs i)
few_at false more old now xs i x so_far few h is = absurd (let bad : false ≡ true = more in cc)

pub some_at : (b : Bool) → b ≡ false → (old now : List ℕ) (xs : List Slice) (i : ℕ) (x : Slice)
    → Turns b old now (take i xs) → CanTurn b old xs → i < length xs → x ≡ get_or xs i x
    → 0 < get_or now x.hold.buf.page 0
some_at true fewer old now xs i x so_far have h is = absurd (let bad : true ≡ false = fewer in cc)
some_at false fewer old now xs i x so_far have h is =
    omega (
      arith,
      so_far.each x.hold.buf.page,
      have.each x.hold.buf.page,
      at_page-take x.hold.buf.page xs (i + 1),
      more_at x.hold.buf.page xs i x h is,
      one_self x.hold.buf,
    )
