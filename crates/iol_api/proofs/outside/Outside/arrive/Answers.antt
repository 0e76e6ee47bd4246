-- The list that is held is the one that was given.
use Rattle.std.proofs.Common.{ℕ, List, inl, subst}
use Rattle.iol_core.specs.declared.events.Event.TheVariants as event
use Rattle.iol_core.specs.declared.events.Reply.TheVariants as reply
use Rattle.iol_api.specs.Typed.{Happens}
use Rattle.iol_api.proofs.outside.Outside.arrive.Goals as goal

pub returns : goal.returns
returns g c =
    inl
    (subst (λ (b : List ℕ). Happens g.P.Process.turns reply.Count c.args.self.now (event.Arrive c.args.conn b)
    c.arrive_held.result c.arrive_held.new.self) c.in_ok-bytes.ensures c.arrive_held.ensures)
