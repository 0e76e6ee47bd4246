-- Sufficient conditions for fair runs: no refusal occurred; any refusal is allowed; or the refusals that the turns got
-- are allowed, which are the least set with which a run is fair.
use Rattle.std.specs.Prelude.{◌≡◌, ◌==◌, ◌&&◌, ◌||◌, not, Bool, true, false, List, ◌∷◌, ◌++◌, length, IsTrue}
use Rattle.iol_core.specs.declared.events.Reply.{Reply}
use Rattle.iol_core.specs.declared.events.Reply.TheVariants as reply
use Rattle.iol_core.specs.declared.refusals.Refusal.{Refusal}
use Rattle.iol_core.specs.declared.refusals.Refusal.TheVariants as refusal
use Rattle.iol_laws.specs.Caller.{is_resource_failure}
use Rattle.iol_proc.specs.FailureFree.{AreFailureFree}
use Rattle.iol_proc.specs.declared.choice.Choice.{Choice}
use Rattle.iol_proc.specs.declared.choice.Choice.TheVariants as choice
use Rattle.flash_laws.specs.SiteContents.{Refusals, SiteContents}
use Rattle.flash_laws.specs.SiteContents.OneAnswer.{RefusesNothing}
use Rattle.flash_laws.specs.Site.{server}
use Rattle.flash_laws.specs.World.{AreFair}

-- no refusal
abbrev pub no_refusal : Refusals
no_refusal = record { of_server = λ x. false; of_workers = λ x. false }

-- TooMany, NoRoom, Fault and Memory
abbrev pub any_refusal : Refusals
any_refusal = record {
  of_server = λ x. is_resource_failure (reply.Refused x);
  of_workers = λ x. is_resource_failure (reply.Refused x);
}

-- whether both are the same of TooMany, NoRoom of a pool, Fault of a file and Memory
abbrev pub is_same : Refusal → Refusal → Bool
is_same refusal.TooMany refusal.TooMany = true
is_same (refusal.NoRoom p) (refusal.NoRoom q) = p == q
is_same (refusal.Fault f) (refusal.Fault g) = f == g
is_same refusal.Memory refusal.Memory = true
is_same x y = false

-- whether a reply is this refusal
abbrev pub refuses_by : Reply → Refusal → Bool
refuses_by (reply.Refused y) x = is_same y x
refuses_by r x = false

-- whether a turn of the server, or one of another domain, got this refusal
unfoldable pub refused_in : (of_server : Bool) → List Choice → List Reply → Refusal → Bool
refused_in true (choice.Turn by ∷ xs) (r ∷ rs) x = ((by == server) && refuses_by r x) || refused_in true xs rs x
refused_in false (choice.Turn by ∷ xs) (r ∷ rs) x = (not (by == server) && refuses_by r x) || refused_in false xs rs x
refused_in b (choice.Outside e ∷ xs) (r ∷ rs) x = refused_in b xs rs x
refused_in b xs rs x = false

-- the refusals among TooMany, NoRoom, Fault and Memory that the turns of these choices got
abbrev pub refusals_in : List Choice → List Reply → Refusals
refusals_in xs rs = record { of_server = λ x. refused_in true xs rs x; of_workers = λ x. refused_in false xs rs x }

-- each refusal of one set is in the other
pub record IsWithin (these those : Refusals) : Type 0 where
  pub of_server : (x : Refusal) → IsTrue (these.of_server x) → IsTrue (those.of_server x)
  pub of_workers : (x : Refusal) → IsTrue (these.of_workers x) → IsTrue (those.of_workers x)

-- Choices without a resource refusal are fair if no refusal is allowed.
abbrev pub FailureFreeIsFair : Type 0
FailureFreeIsFair = (xs : List Choice) (rs : List Reply) → AreFailureFree xs rs → AreFair no_refusal xs rs

-- All choices are fair if TooMany, NoRoom, Fault and Memory are allowed.
abbrev pub AnyIsFair : Type 0
AnyIsFair = (xs : List Choice) (rs : List Reply) → AreFair any_refusal xs rs

-- They are fair if the refusals that their turns got are allowed, and each part of them is fair, too.
abbrev pub OwnIsFair : Type 0
OwnIsFair = (xs ys : List Choice) (rs ss : List Reply) → length xs ≡ length rs
    → AreFair (refusals_in (xs ++ ys) (rs ++ ss)) xs rs × AreFair (refusals_in (xs ++ ys) (rs ++ ss)) ys ss

-- The refusals that their turns got are in each set with which they are fair.
abbrev pub OwnIsLeast : Type 0
OwnIsLeast = (refuses : Refusals) (xs : List Choice) (rs : List Reply) → AreFair refuses xs rs
    → IsWithin (refusals_in xs rs) refuses

-- With no refusal allowed, nothing is refused: so each request has one response.
abbrev pub NoneRefusesNothing : Type 0
NoneRefusesNothing = (site_contents : SiteContents) → site_contents.refuses ≡ no_refusal → RefusesNothing site_contents
