-- Input and output in place, as events of a world over the copying machine.
use Rattle.std.specs.Prelude.{◌≡◌, ℕ, zero, suc, List, Option, Result, IfOk}
use Rattle.iol_core.specs.State.{State}
use Rattle.iol_core.specs.Calls.Outside.{transmit}
use Rattle.iol_core.specs.declared.events.Event.TheVariants as event
use Rattle.iol_core.specs.declared.events.Reply.TheVariants as reply
use Rattle.iol_core.specs.declared.refusals.Refusal.{Refusal}
use Rattle.iol_back.specs.Disk.{IfHonest}
use Rattle.iol_kernel.specs.Prelude.{TakesIn}
use Rattle.iol_pipe.specs.declared.arrive.Arrived.{Arrived}
use Rattle.iol_system.specs.Machine.{SystemState}
use Rattle.iol_proc.specs.Turns.{TransitionRelation}
use Rattle.iol_proc.specs.World.{WorldState, copied, copying, OutsideStep}

module _ {P : Type 0} (turns : TransitionRelation P) where
  -- These bytes arrive, and n of them are taken.
  abbrev pub ArrivesAs : (c n : ℕ) (bytes : List ℕ) (w after : WorldState State P) → Type 0
  ArrivesAs c n bytes w after = OutsideStep copying turns w (event.Arrive c bytes) (reply.Count n) after

  -- The first n bytes are sent, with a segment as the reply. If there are none, nothing happens.
  abbrev pub SendsAs : (c n : ℕ) (w after : WorldState State P) → Type 0
  SendsAs c zero w after = after ≡ w
  SendsAs c (suc n) w after =
      let sent = (transmit w.machine c (suc n)).answer in
      OutsideStep copying turns w (event.Transmit c (suc n)) (reply.Segment sent.0 sent.1) after

  -- Over an honest store: if the call succeeds, the bytes that it took from a reader arrive.
  abbrev pub TakenArrive : (c : ℕ) (left rest : Option (List ℕ)) (w after : WorldState SystemState P)
      → Result Arrived Refusal → Type 0
  TakenArrive c left rest w after r = IfHonest w.machine.disk
      (IfOk r (λ a. TakesIn left rest a.taken (λ bytes. ArrivesAs c a.taken bytes (copied w) (copied after))))
