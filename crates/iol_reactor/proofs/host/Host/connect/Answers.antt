use Rattle.std.proofs.Common.{◌∙◌, ℕ, subst}
use Rattle.iol_core.specs.declared.events.Event.TheVariants as event
use Rattle.iol_core.specs.declared.events.Reply.{Reply}
use Rattle.iol_proc.specs.World.{OutsideStep, copied, copying}
use Rattle.iol_reactor.proofs.Serving.{continues_new, proceeds}
use Rattle.iol_reactor.proofs.Visits.{carries_made, visits_begin, visits_stay}
use Rattle.iol_reactor.proofs.host.Host.connect.Goals as goal

pub invariant_of-self : goal.invariant_of-self
invariant_of-self g c = record {
  served = proceeds g.P.Process.turns g.V.Service.starts g.V.Service.POOL c.args.self.now.world
      c.step_outside-reply.new.self c.step_outside-reply.ensures.honest
      (λ honest. continues_new g.P.Process.turns g.V.Service.POOL _ _ _
      (subst (λ (p : ℕ). OutsideStep copying g.P.Process.turns (copied c.args.self.now.world) (event.ConnNew p)
      c.step_outside-reply.result (copied c.step_outside-reply.new.self)) (c.new-pool.ensures ∙ c.POOL.ensures)
      (c.step_outside-reply.ensures.copied honest))) c.args.self.now.served;
}

pub returns-in-Conn-clause-made : goal.returns-in-Conn-clause-made
returns-in-Conn-clause-made g c =
    λ honest. subst (λ (r : Reply). OutsideStep copying g.P.Process.turns (copied c.args.self.now.world)
    (event.ConnNew g.V.Service.POOL) r (copied c.step_outside-reply.new.self))
    c.in-Conn.is
    (subst (λ (p : ℕ). OutsideStep copying g.P.Process.turns (copied c.args.self.now.world) (event.ConnNew p)
    c.step_outside-reply.result (copied c.step_outside-reply.new.self)) (c.new-pool.ensures ∙ c.POOL.ensures)
    (c.step_outside-reply.ensures.copied honest))

pub returns-in-Conn-clause-begun : goal.returns-in-Conn-clause-begun
returns-in-Conn-clause-begun g c =
    visits_begin g.P.Process.turns g.V.Service.starts g.V.Service.POOL _ c.args.self.now.world
    c.step_outside-reply.new.self c.step_outside-reply.ensures.honest
    (λ honest. subst (λ (r : Reply). OutsideStep copying g.P.Process.turns (copied c.args.self.now.world)
    (event.ConnNew g.V.Service.POOL) r (copied c.step_outside-reply.new.self))
    c.in-Conn.is
    (subst (λ (p : ℕ). OutsideStep copying g.P.Process.turns (copied c.args.self.now.world) (event.ConnNew p)
    c.step_outside-reply.result (copied c.step_outside-reply.new.self)) (c.new-pool.ensures ∙ c.POOL.ensures)
    (c.step_outside-reply.ensures.copied honest))) c.args.self.now.served

pub returns-in-Conn-clause-visits : goal.returns-in-Conn-clause-visits
returns-in-Conn-clause-visits g c =
    visits_stay g.P.Process.turns g.V.Service.starts g.V.Service.POOL c.args.self.now.world
    c.step_outside-reply.new.self c.step_outside-reply.ensures.honest
    (λ n honest. carries_made g.P.Process.turns g.V.Service.POOL n _ _ _
    (subst (λ (p : ℕ). OutsideStep copying g.P.Process.turns (copied c.args.self.now.world) (event.ConnNew p)
    c.step_outside-reply.result (copied c.step_outside-reply.new.self)) (c.new-pool.ensures ∙ c.POOL.ensures)
    (c.step_outside-reply.ensures.copied honest)))

pub returns-clause-made : goal.returns-clause-made
returns-clause-made g c = λ honest. (
  c.step_outside-reply.result,
  (subst (λ (p : ℕ). OutsideStep copying g.P.Process.turns (copied c.args.self.now.world) (event.ConnNew p)
      c.step_outside-reply.result (copied c.step_outside-reply.new.self)) (c.new-pool.ensures ∙ c.POOL.ensures)
      (c.step_outside-reply.ensures.copied honest)),
)

pub returns-clause-visits : goal.returns-clause-visits
returns-clause-visits g c = visits_stay g.P.Process.turns g.V.Service.starts g.V.Service.POOL c.args.self.now.world
    c.step_outside-reply.new.self c.step_outside-reply.ensures.honest
    (λ n honest. carries_made g.P.Process.turns g.V.Service.POOL n _ _ _
    (subst (λ (p : ℕ). OutsideStep copying g.P.Process.turns (copied c.args.self.now.world) (event.ConnNew p)
    c.step_outside-reply.result (copied c.step_outside-reply.new.self)) (c.new-pool.ensures ∙ c.POOL.ensures)
    (c.step_outside-reply.ensures.copied honest)))
