-- The result of the last round.
use Rattle.std.proofs.Common.{◌≡◌, ℕ, Bool, true, ◌||◌, inl, refl}
use Rattle.iol_core.specs.Calls.Outside.{lacks_conn}
use Rattle.iol_core.specs.State.{State}
use Rattle.iol_serve.specs.Rounds.{after, is_gone, is_last}
use Rattle.iol_serve.specs.Service.{HasEnded, hung_up}
use Rattle.iol_serve.specs.declared.ending.Ending.{Ending}
use Rattle.iol_serve.specs.declared.ending.Ending.TheVariants as ending
use Rattle.iol_serve.specs.declared.serve.Step.{Step}
use Rattle.iol_serve.specs.declared.serve.Step.TheVariants.{Moved, Idle, Failed, Silent, Stalled, Over}

pub hung_up-after : (before : Ending) (step : Step) → (hung_up before || is_gone step) ≡ hung_up (after before step)
hung_up-after ending.Over Moved = refl
hung_up-after ending.Over Idle = refl
hung_up-after ending.Over Failed = refl
hung_up-after ending.Over Silent = refl
hung_up-after ending.Over Stalled = refl
hung_up-after ending.Over Over = refl
hung_up-after ending.Failed step = refl
hung_up-after ending.Silent step = refl
hung_up-after ending.Long step = refl

pub ended_last : (s : State) (c : ℕ) (was : Bool) (step : Step) → is_last was step ≡ true
    → (is_gone step ≡ true → HasEnded s c) → (step ≡ Over → lacks_conn s c ≡ true) → HasEnded s c
ended_last s c was Moved last gone over = absurd (cc last)
ended_last s c was Idle last gone over = absurd (cc last)
ended_last s c was Failed last gone over = gone refl
ended_last s c was Silent last gone over = gone refl
ended_last s c was Stalled last gone over = gone refl
ended_last s c was Over last gone over = inl (over refl)

-- if a connection is over after the last round, the round reported it
pub over_last : {A : Type 0} (before : Ending) (step : Step) → is_last (hung_up before) step ≡ true
    → after before step ≡ ending.Over → (step ≡ Over → A) → A
over_last before Moved last is over = absurd (cc last)
over_last before Idle last is over = absurd (cc last)
over_last before Over last is over = over refl
over_last ending.Over Failed last is over = absurd (cc last)
over_last ending.Over Silent last is over = absurd (cc last)
over_last ending.Over Stalled last is over = absurd (cc last)
over_last ending.Failed Failed last is over = absurd (cc is)
over_last ending.Failed Silent last is over = absurd (cc is)
over_last ending.Failed Stalled last is over = absurd (cc is)
over_last ending.Silent Failed last is over = absurd (cc is)
over_last ending.Silent Silent last is over = absurd (cc is)
over_last ending.Silent Stalled last is over = absurd (cc is)
over_last ending.Long Failed last is over = absurd (cc is)
over_last ending.Long Silent last is over = absurd (cc is)
over_last ending.Long Stalled last is over = absurd (cc is)
