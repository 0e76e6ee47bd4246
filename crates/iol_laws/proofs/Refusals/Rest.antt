-- The refusals that are left if the first ones cannot hold.
use Rattle.std.proofs.Common.{◌≡◌, ◌∙◌, ℕ, List, ◌∷◌, ap, refl, Option, Some, None, true}
use Rattle.std.specs.Prelude.{not, is_none}
use Rattle.iol_core.specs.State.{State, descriptor, is_live}
use Rattle.iol_core.specs.Meaning.{first, ◌when◌}
use Rattle.iol_core.specs.Calls.Files.{open_on}
use Rattle.iol_core.specs.declared.refusals.Refusal.{Refusal}
use Rattle.iol_core.specs.declared.refusals.Refusal.TheVariants as refuse
use Rattle.iol_core.specs.declared.descriptors.Mode.{Mode}
use Rattle.iol_core.specs.declared.descriptors.Descriptor.TheVariants as on

pub past : (o : Option Refusal) (rest : List (Option Refusal)) → o ≡ None → first (o ∷ rest) ≡ first rest
past None rest none = refl
past (Some x) rest none = absurd (cc)

-- if the caller is live
pub past-live : (s : State) (d : ℕ) (rest : List (Option Refusal)) → is_live s d ≡ true
    → first ((refuse.NoDomain when not (is_live s d)) ∷ rest) ≡ first rest
past-live s d rest live = past (refuse.NoDomain when not (is_live s d)) rest (ap (λ b. refuse.NoDomain when not b) live)

-- and if its descriptor is open on a file
pub past-file : (s : State) (d fd f at : ℕ) (mode : Mode) (rest : List (Option Refusal)) → is_live s d ≡ true
    → descriptor s d fd ≡ Some (on.File f at mode)
    → first ((refuse.NoDomain when not (is_live s d)) ∷ (refuse.BadFd when is_none (descriptor s d fd))
    ∷ (refuse.WrongMode when is_none (open_on (descriptor s d fd))) ∷ rest) ≡ first rest
past-file s d fd f at mode rest live is =
    let o = descriptor s d fd in
    past-live s d ((refuse.BadFd when is_none o) ∷ (refuse.WrongMode when is_none (open_on o)) ∷ rest) live
    ∙ (past (refuse.BadFd when is_none o) ((refuse.WrongMode when is_none (open_on o)) ∷ rest)
    (ap (λ x. refuse.BadFd when is_none x) is)
    ∙ past (refuse.WrongMode when is_none (open_on o)) rest (ap (λ x. refuse.WrongMode when is_none (open_on x)) is))
