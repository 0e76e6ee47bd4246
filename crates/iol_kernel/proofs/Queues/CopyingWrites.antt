-- Bytes are written by copying, or refused before any effect.
use Rattle.std.proofs.Common.{◌≡◌, ◌⊎◌, ℕ, Bool, true, false, List, [], ◌∷◌, length, Option, Some, None, ap, sym, inl}
use Rattle.std.proofs.Common.{inr}
use Rattle.std.specs.Prelude.{◌&&◌, IfErr, MatchOption, Result, Ok, Err, is_none, not}
use Rattle.iol_core.specs.Calls.Aggregates.{default_pool}
use Rattle.iol_core.specs.Calls.Writes.{can_write, is_broken, is_file, is_too_long, takes_none, write}
use Rattle.iol_core.specs.Meaning.{◌when◌, Never, WantOfRoom, first}
use Rattle.iol_core.specs.State.{State, descriptor, domain, is_live, pool}
use Rattle.iol_core.specs.declared.descriptors.Descriptor.{Descriptor}
use Rattle.iol_core.specs.Text.{Text}
use Rattle.iol_core.specs.declared.refusals.Refusal.{Refusal}
use Rattle.iol_core.specs.declared.refusals.Refusal.TheVariants.{NoDomain, BadFd, NoPool, WrongMode, TooLong}
use Rattle.iol_core.specs.declared.refusals.Refusal.TheVariants.{PoolClosed, BrokenPipe, WouldBlock, Memory}
use Rattle.iol_kernel.specs.KernelState.{KernelState, IsSound, read_of}
use Rattle.iol_kernel.specs.Room.{MayHaveEvicted, Places}
use Rattle.iol_kernel.specs.WritesByCopy.{FailsTests}
use Rattle.iol_kernel.proofs.State.AfterRoom.{memory_wanted, places_refused}

-- the refusal of a call without late refusals is the first one that applies
first_holds : (o : Option Refusal) (x : Refusal) → MatchOption o (Never x) (λ y. x ≡ y) → o ≡ Some x
first_holds None x none = absurd none
first_holds (Some y) x is = ap (λ (z : Refusal). Some z) (sym is)

-- None of the tests of a write gives Memory.

four_tests : (p : ℕ) (a b c d : Bool)
    → first ((TooLong when a) ∷ (PoolClosed p when b) ∷ (BrokenPipe when c) ∷ (WouldBlock when d) ∷ []) ≡ Some Memory
    → ⊥
four_tests p true b c d is = absurd (cc is)
four_tests p false true c d is = absurd (cc is)
four_tests p false false true d is = absurd (cc is)
four_tests p false false false true is = absurd (cc is)
four_tests p false false false false is = absurd (cc is)

eight_tests : (p : ℕ) (a b c d e f g h : Bool)
    → first ((NoDomain when a) ∷ (BadFd when b) ∷ (NoPool when c) ∷ (WrongMode when d) ∷ (TooLong when e)
    ∷ (PoolClosed p when f) ∷ (BrokenPipe when g) ∷ (WouldBlock when h) ∷ []) ≡ Some Memory → ⊥
eight_tests p true b c d e f g h is = absurd (cc is)
eight_tests p false true c d e f g h is = absurd (cc is)
eight_tests p false false true d e f g h is = absurd (cc is)
eight_tests p false false false true e f g h is = absurd (cc is)
eight_tests p false false false false e f g h is = four_tests p e f g h is

write_tests : (d fd : ℕ) (bytes : List ℕ) (s : State) → first (write s d fd bytes).refusals ≡ Some Memory → ⊥
write_tests d fd bytes s =
    let o : Option Descriptor = descriptor s d fd in
    let p = default_pool s d in
    eight_tests p (not (is_live s d)) (is_none o) (not (is_file o) && is_none (domain s d).default) (not (can_write o))
    (is_too_long o (length bytes)) (not (is_file o) && (pool s p).closed) (is_broken s o)
    (takes_none s o (length bytes))

pub put_refused : (put : State → Text → State) (pool n d fd : ℕ) (bytes : List ℕ) (h : KernelState) (x : Refusal)
    → IsSound h → FailsTests d fd bytes x h → Places (λ s. write s d fd bytes) put pool n h (Err x) h
put_refused put pool n d fd bytes h x sound fails =
    places_refused (λ s. write s d fd bytes) put pool n h x sound
    (λ f. first_holds (first (write (read_of f h) d fd bytes).refusals) x (fails.refused f)) fails.roomy
    (write_tests d fd bytes)

-- a refusal is late, or nothing has changed

pub left_placing : (p n : ℕ) (h k : KernelState) (r : Result ℕ Refusal) → IfErr r (MayHaveEvicted p n h k)
    → IfErr r (λ x. (k ≡ h) ⊎ WantOfRoom p x)
left_placing p n h k (Ok m) left = tt
left_placing p n h k (Err x) left = elim left [ inl same ↦ inl same | inr late ↦ inr (memory_wanted p x late.memory) ]
