-- Aggregates that are shown in borrowed memory.
use Rattle.std.proofs.Common.{◌≡◌, ◌⊎◌, inl, inr, ℕ, Bool, true, false, List, ◌∷◌, [], Some, refl, sym, subst}
use Rattle.std.specs.Prelude.{MatchOption, Option, Result, Ok, Err, not}
use Rattle.iol_core.specs.Calls.Aggregates as aggs
use Rattle.iol_core.specs.Meaning.{◌when◌, WantOfMemory, first}
use Rattle.iol_core.specs.State.{is_live}
use Rattle.iol_core.specs.declared.refusals.Refusal.{Refusal}
use Rattle.iol_core.specs.declared.refusals.Refusal.TheVariants.{BadAgg, Memory, NoDomain, NoRoom}
use Rattle.iol_kernel.specs.Calls.{RefusesShow, Steps}
use Rattle.iol_kernel.specs.KernelState.{KernelState, read_of}
use Rattle.iol_kernel.specs.ReadsByCopy.{ShowsInto}
use Rattle.iol_kernel.specs.Readings.{bytes_over}
use Rattle.iol_system.specs.BorrowedMemory.{shown}

two_tests : (a b : Bool) (y : Refusal) → first ((NoDomain when a) ∷ (BadAgg when b) ∷ []) ≡ Some y
    → (NoDomain ≡ y) ⊎ (BadAgg ≡ y)
two_tests true b y is = inl (cc is)
two_tests false true y is = inr (cc is)
two_tests false false y is = absurd (cc is)

not_room : (y : Refusal) (p : ℕ) → (NoDomain ≡ y) ⊎ (BadAgg ≡ y) → y ≡ NoRoom p → ⊥
not_room y p (inl is) late = cc (is, late)
not_room y p (inr is) late = cc (is, late)

not_for_memory : (y : Refusal) → (NoDomain ≡ y) ⊎ (BadAgg ≡ y) → y ≡ Memory → ⊥
not_for_memory y (inl is) late = cc (is, late)
not_for_memory y (inr is) late = cc (is, late)

module _ (by a : ℕ) (memory filled : List ℕ) (h : KernelState) where
  tested : (y : Refusal) → RefusesShow by a y h → (NoDomain ≡ y) ⊎ (BadAgg ≡ y)
  tested y refused =
      let s = read_of (bytes_over [] h.store) h in
      two_tests (not (is_live s by)) (aggs.lacks_agg s by a) y (refused (bytes_over [] h.store))

  pub shown_steps : (r : Result ℕ Refusal) (x : ShowsInto by a memory filled h r)
      → Steps (λ s. aggs.show s by a) h (shown x.bytes r) h
  shown_steps (Ok n) x = λ stored. ((x.shows stored).0, (x.shows stored).1, refl)
  shown_steps (Err y) x =
      λ stored. (
        subst (λ (o : Option Refusal). MatchOption o (WantOfMemory y) (λ z. y ≡ z))
            (sym (x.refused (bytes_over stored h.store))) refl,
        refl,
      )

  pub shown_roomy : (r : Result ℕ Refusal) (x : ShowsInto by a memory filled h r) → (p : ℕ)
      → shown x.bytes r ≡ Err (NoRoom p) → ⊥
  shown_roomy (Ok n) x p is = cc is
  shown_roomy (Err y) x p is = not_room y p (tested y x.refused) (cc is)

  pub shown_not_memory : (r : Result ℕ Refusal) (x : ShowsInto by a memory filled h r) → r ≡ Err Memory → ⊥
  shown_not_memory (Ok n) x is = cc is
  shown_not_memory (Err y) x is = not_for_memory y (tested y x.refused) (cc is)
