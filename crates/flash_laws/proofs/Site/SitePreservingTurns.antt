-- Turns in rounds are site-preserving, and a run that ends with them is site-preserving, too.
use Rattle.std.proofs.Common.{ℕ, zero, suc, List, [], ◌∷◌}
use Rattle.iol_core.specs.State.{State}
use Rattle.iol_core.specs.declared.events.Reply.{Reply}
use Rattle.iol_proc.specs.Idle.{rounds}
use Rattle.iol_proc.specs.Turns.{TransitionRelation}
use Rattle.iol_proc.specs.World.{WorldState, copying, WorldRun}
use Rattle.flash_laws.specs.World.Undisturbed.{AreSitePreserving}

pub rounds-site_preserving : {P : Type 0} (turns : TransitionRelation P) (ds : List ℕ) (i n : ℕ) (rs : List Reply)
    (w after : WorldState State P)
    → (run : WorldRun copying turns w (rounds ds i n) rs after) → AreSitePreserving turns w (rounds ds i n) rs after run
rounds-site_preserving turns ds i zero rs w after run = tt
rounds-site_preserving turns ds i (suc n) [] w after run = tt
rounds-site_preserving turns ds i (suc n) (r ∷ rs) w after run =
    (tt, rounds-site_preserving turns ds (suc i) n rs run.0 after run.2)
