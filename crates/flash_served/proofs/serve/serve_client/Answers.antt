use Rattle.std.proofs.Common.{◌∙◌, ℕ, subst}
use Rattle.iol_core.specs.declared.events.Event.TheVariants as event
use Rattle.iol_core.specs.declared.events.Reply.{Reply}
use Rattle.iol_proc.specs.World.{OutsideStep, copied, copying}
use Rattle.flash_laws.specs.Serves.Rounds.{in_rounds}
use Rattle.flash_laws.specs.Site.{net_pool}
use Rattle.flash_laws.specs.World.Consistency.{actor_turns}
use Rattle.flash_lite.specs.Workers.{worker_turns}
use Rattle.flash_served.proofs.ConnEnd.{lacks_copied}
use Rattle.flash_served.proofs.Sessions.{serves_none, serves_right}
use Rattle.flash_served.proofs.serve.serve_client.Goals as goal

pub returns-in-Conn-clause-right : goal.returns-in-Conn-clause-right
returns-in-Conn-clause-right g c = λ honest.
    let pool =
    subst (λ (p : ℕ). OutsideStep copying (actor_turns in_rounds worker_turns) (copied c.args.world.now)
    (event.ConnNew p) c.step_outside-reply.result (copied c.step_outside-reply.new.self))
    c.new-pool.ensures (c.step_outside-reply.ensures.copied honest) in
    let made =
    subst (λ (r : Reply). OutsideStep copying (actor_turns in_rounds worker_turns) (copied c.args.world.now)
    (event.ConnNew net_pool) r (copied c.step_outside-reply.new.self)) c.in-Conn.is pool in
    let served = c.serve_connection.ensures.serves (c.step_outside-reply.ensures.honest.same ∙ honest) in
    serves_right c.sessions_are_right.ensures c.in-Conn.conn c.serve_connection.result _ _ _ _ (copied c.args.world.now)
    (copied c.step_outside-reply.new.self)
    (copied c.serve_connection.new.world) made served
    (λ over. lacks_copied c.serve_connection.new.world.machine c.in-Conn.conn (c.serve_connection.ensures.over over))

pub returns-clause-kept : goal.returns-clause-kept
returns-clause-kept g c = λ honest.
    let step =
    subst (λ (p : ℕ). OutsideStep copying (actor_turns in_rounds worker_turns) (copied c.args.world.now)
    (event.ConnNew p) c.step_outside-reply.result (copied c.step_outside-reply.new.self))
    c.new-pool.ensures (c.step_outside-reply.ensures.copied honest) in
    serves_none c.connections_do_not_meet.ensures.step c.step_outside-reply.result (copied c.args.world.now)
    (copied c.step_outside-reply.new.self) step
    c.in_default.not-Conn
