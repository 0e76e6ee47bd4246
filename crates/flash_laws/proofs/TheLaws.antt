-- The laws of the machine and of windows for the proofs of a server.
use Rattle.std.specs.Prelude.{◌≤◌}
use Rattle.iol_core.specs.State.{State}
use Rattle.iol_core.specs.Run.{StepsTo}
use Rattle.iol_core.specs.declared.events.Event.{Event}
use Rattle.iol_core.specs.declared.events.Reply.{Reply}
use Rattle.iol_laws.specs.Caller.{CallsServeTheirDomain, NumbersAreNew}
use Rattle.iol_laws.specs.CallerFiles.{FileCallsServeTheirDomain}
use Rattle.iol_laws.specs.Frame.{EachStepLeavesTheRest}
use Rattle.iol_laws.specs.Order.{EachStepKeepsOrder}
use Rattle.iol_laws.specs.Others.{OthersLeaveConnections}
use Rattle.iol_laws.specs.Reasons.{RefusalsTellWhy}
use Rattle.flash_laws.proofs.Conn.Responses.{WindowLaws}

pub record TheLaws : Type 0 where
  pub windows : WindowLaws
  pub steps : EachStepLeavesTheRest
  pub orders : EachStepKeepsOrder
  pub own : CallsServeTheirDomain
  pub files : FileCallsServeTheirDomain
  pub reasons : RefusalsTellWhy
  pub fresh : NumbersAreNew
  pub other : OthersLeaveConnections
  pub rises : (s t : State) (e : Event) (r : Reply) → StepsTo s e r t → s.next_conn ≤ t.next_conn
