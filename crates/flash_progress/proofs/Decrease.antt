-- The end of turns of one process: each turn with an effect decreases a measure, and between two of these the process
-- polls a bounded number of times.
use Rattle.std.specs.Prelude.{◌≡◌, ◌≤◌, ◌<◌, ℕ, true, false, Bool, length}
use Rattle.std.specs.List.{AllByRecursion}
use Rattle.iol_core.specs.State.{State}
use Rattle.iol_core.specs.declared.events.Reply.{Reply}
use Rattle.iol_core.specs.declared.events.Reply.TheVariants as reply
use Rattle.iol_core.specs.declared.refusals.Refusal.TheVariants.{WouldBlock}
use Rattle.iol_proc.specs.Idle.{Idles}
use Rattle.iol_proc.specs.Turns.{TransitionRelation, is_would_block}
use Rattle.iol_proc.specs.World.{WorldState, copying, PlaceTurn}
use Rattle.flash_progress.specs.Bound.{turns_in_rounds}

-- `left` is the measure of a world with one process, and `polls` the number of calls that the process still makes
-- before it yields, as long as each returns WouldBlock. `Holds` is the invariant of the world, and `Allows` says which
-- replies its turns may have.
pub record Decreases {P : Type 0} (turns : TransitionRelation P) (Holds : WorldState State P → Type 0) (Allows : Reply
    → Type 0) (left polls : WorldState State P → ℕ) (round : ℕ) : Type 0 where
  pub one : (w : WorldState State P) → Holds w → length w.process_slots ≡ 1
  -- a turn with an allowed reply keeps the invariant
  pub keeps : (w after : WorldState State P) (yields : Bool) (r : Reply) → Holds w
      → PlaceTurn copying turns w 0 yields r after
      → Allows r → Holds after
  -- a call that returns another allowed reply than WouldBlock decreases the measure
  pub falls : (w after : WorldState State P) (r : Reply) → Holds w → PlaceTurn copying turns w 0 false r after
      → Allows r
      → is_would_block r ≡ false → left after < left w
  -- a call that returns WouldBlock does not increase it, and leaves fewer calls before the yield
  pub waits : (w after : WorldState State P) → Holds w
      → PlaceTurn copying turns w 0 false (reply.Refused WouldBlock) after
      → (left after ≤ left w) × (polls after < polls w)
  -- a yield does not increase it
  pub yields : (w after : WorldState State P) (r : Reply) → Holds w → PlaceTurn copying turns w 0 true r after
      → Allows r → left after ≤ left w
  -- in a round at most `round` calls are made
  pub most : (w : WorldState State P) → Holds w → polls w ≤ round

-- Turns in rounds, each with an allowed reply, end with all idle, if their number suffices.
abbrev pub IdleComes : {P : Type 0} → TransitionRelation P → (WorldState State P → Type 0) → (Reply → Type 0)
    → (left : WorldState State P → ℕ) → (round : ℕ) → Type 0
IdleComes {P} turns Holds Allows left round = (w after : WorldState State P) (most : ℕ) (idle : Bool) → Holds w
    → (ends : Idles copying turns w most idle after) → AllByRecursion (λ t. Allows t.1) ends.went
    → turns_in_rounds (left w) round ≤ most → idle ≡ true
