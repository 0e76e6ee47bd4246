-- Undisturbed lists of choices: external events do not affect the site and its processes.
use Rattle.std.specs.Prelude.{◌≡◌, ◌≢◌, ℕ, List, [], ◌∷◌, Some, slice_get, ⊤}
use Rattle.iol_core.specs.State.{State}
use Rattle.iol_core.specs.declared.events.Event.TheVariants as event
use Rattle.iol_core.specs.declared.events.Reply.{Reply}
use Rattle.iol_proc.specs.Turns.{TransitionRelation}
use Rattle.iol_proc.specs.World.{WorldState, copying, WorldRun}
use Rattle.iol_proc.specs.declared.choice.Choice.{Choice}
use Rattle.iol_proc.specs.declared.choice.Choice.TheVariants as choice
use Rattle.iol_proc.specs.declared.process_slot.ProcessSlot.{ProcessSlot}
use Rattle.flash_laws.specs.Site.{KeepsSite}

-- the domain has no process
abbrev pub HasNoProcess : {P : Type 0} → List (ProcessSlot P) → (d : ℕ) → Type 0
HasNoProcess {P} process_slots d = (i : ℕ) (s : ProcessSlot P) → slice_get process_slots i ≡ Some s → s.by ≢ d

-- an external call is by a domain without process, makes and writes no file, and admits no domain to the net or to a
-- file's pool
abbrev pub IsSitePreserving : {P : Type 0} → WorldState State P → Choice → (after : WorldState State P) → Type 0
IsSitePreserving w (choice.Outside (event.Call d k)) after = HasNoProcess w.process_slots d
    × KeepsSite w.machine after.machine
IsSitePreserving w x after = ⊤

-- the same for each call over a run
abbrev pub AreSitePreserving : {P : Type 0} → (turns : TransitionRelation P) → (w : WorldState State P)
    → (xs : List Choice) → (rs : List Reply)
    → (after : WorldState State P) → WorldRun copying turns w xs rs after → Type 0
AreSitePreserving turns w (x ∷ xs) (r ∷ rs) after run = IsSitePreserving w x run.0
    × AreSitePreserving turns run.0 xs rs after run.2
AreSitePreserving turns w [] rs after run = ⊤
AreSitePreserving turns w (x ∷ xs) [] after run = ⊤
