-- The turns of a watcher, and its condition when idle.
use Rattle.std.specs.Prelude.{◌≡◌, ℕ, zero, suc, Bool, IsTrue, IsFalse, ⊤}
use Rattle.iol_core.specs.State.{State}
use Rattle.iol_core.specs.Run.{StepsTo}
use Rattle.iol_core.specs.declared.events.Call.TheVariants as call
use Rattle.iol_core.specs.declared.events.Event.TheVariants as event
use Rattle.iol_core.specs.declared.events.Reply.TheVariants as reply
use Rattle.iol_core.specs.declared.refusals.Refusal.TheVariants.{WouldBlock}
use Rattle.iol_back.specs.Prelude.{IfHonest}
use Rattle.iol_system.specs.Prelude.{SystemState, machine_of}
use Rattle.iol_proc.specs.Prelude.{AllQuiescent}
use Rattle.iol_proc.specs.World.{WorldState}
use Rattle.iol_proc.specs.declared.process.Turn.{Turn}
use Rattle.iol_proc.specs.declared.process.Turn.TheVariants as turn

-- a watcher calls `accept`, and yields each time after it: asked is whether it had called before a turn, next whether
-- it has after it
abbrev pub Watches : (asked : Bool) → Turn → (next : Bool) → Type 0
Watches asked turn.Yield next = IsTrue asked × IsFalse next
Watches asked (turn.Make c) next = IsFalse asked × (c ≡ call.Accept) × IsTrue next

-- no connection is waiting that the domain may accept
abbrev pub NoneWaits : State → (by : ℕ) → Type 0
NoneWaits m by = StepsTo m (event.Call by call.Accept) (reply.Refused WouldBlock) m

-- the condition after n yields of a watcher in this domain, which has called or not
abbrev pub HasWatched : (n by : ℕ) → (asked : Bool) → State → Type 0
HasWatched zero by asked m = ⊤
HasWatched (suc zero) by asked m = IsTrue asked → NoneWaits m by
HasWatched (suc (suc n)) by asked m = NoneWaits m by

-- Over an honest store: if a world of watchers is idle after turns, each of them has watched for two yields, and so no
-- connection is waiting that its domain may accept.
abbrev pub AllHaveWatched : {P : Type 0} → (world after : WorldState SystemState P) → (asked : P → Bool) → (idle : Bool)
    → Type 0
AllHaveWatched world after asked idle = IfHonest world.machine.disk
    (IsTrue idle
    → AllQuiescent (λ n by p last m. HasWatched n by (asked p) m) after.process_slots (machine_of after.machine))
