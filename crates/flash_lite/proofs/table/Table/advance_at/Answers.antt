use Rattle.std.proofs.Common.{◌≡◌, ◌∙◌, ap, subst, sym, rules, min}
use Rattle.iol_proc.specs.declared.process.Turn.TheVariants as turn
use Rattle.flash_laws.specs.Site.Places.{runs_scripts}
use Rattle.flash_laws.specs.Serves.Wants.{MayWant}
use Rattle.flash_laws.specs.declared.phase.PendingCall.TheVariants.{At}
use Rattle.flash_lite.specs.ReceivedBytes.{received}
use Rattle.flash_lite.specs.Table.{Table, IsBetweenTurns}
use Rattle.flash_lite.specs.ServerTurn.{CourseAt, Turns, first_in, worker_at}
use Rattle.flash_lite.specs.declared.client.Course.TheVariants.{Asks, Leaves}
use Rattle.flash_lite.proofs.Responses.RunsOn.{on_err}
use Rattle.flash_lite.proofs.Turns.TurnParts.{asks_turns, leaves_turns, table}
use Rattle.flash_lite.proofs.Turns.Wants.{left_wants}
use Rattle.flash_lite.proofs.table.Table.advance_at.Goals as goal

pub returns-in-Some-Asks-clause-turn : goal.returns-in-Some-Asks-clause-turn
returns-in-Some-Asks-clause-turn c =
    let s : Table = table c.self.inside.clients c.self.inside.pending_call c.self.inside.workers c.self.inside.free in
    let flies : c.self.inside.pending_call ≡ At c.args.fd = ap (λ (u : Table). u.pending_call) c.self.view_is
    ∙ c.requires.flies in
    let worker_is : c.worker-worker.result ≡ min (first_in c.self.inside.workers c.self.inside.free) 7 =
    subst (λ (u : Table). c.worker-worker.result ≡ min (first_in u.workers u.free) 7) (sym c.self.view_is)
    c.worker-worker.ensures.worker in
    let t : Table =
    table c.advance_at.new.self c.self.inside.pending_call c.self.inside.workers c.turned-self-inside.result in
    let course : CourseAt (runs_scripts c.self.inside.workers) c.worker-worker.result c.self.inside.clients c.args.fd
    c.args.reply.last.now (received c.args.reply.parts) (Asks c.in-Some-Asks.call) c.advance_at.new.self =
    search rules in
    let had : c.worker_at-was.result ≡ worker_at c.self.inside.clients c.args.fd = search rules in
    let has : c.worker_at-now.result ≡ worker_at c.advance_at.new.self c.args.fd = search rules in
    subst (λ (u : Table). Turns u c.args.reply.last.now (received c.args.reply.parts) (turn.Make c.in-Some-Asks.call) t)
    c.self.view_is
    (asks_turns s (subst (λ (u : Table). IsBetweenTurns u) (sym c.self.view_is) c.requires.between) c.args.fd flies
    c.args.reply.last.now
    (received c.args.reply.parts) t c.worker-worker.result c.in-Some-Asks.call
    c.advance_at.new.self c.worker_at-was.result c.worker_at-now.result worker_is course
    (ap (λ w. table c.advance_at.new.self w c.self.inside.workers c.turned-self-inside.result) flies) had has
    c.turned-self-inside.ensures)

pub returns-in_ok-turn-in-Some-Leaves-clause-turn : goal.returns-in_ok-turn-in-Some-Leaves-clause-turn
returns-in_ok-turn-in-Some-Leaves-clause-turn c =
    let s : Table = table c.self.inside.clients c.self.inside.pending_call c.self.inside.workers c.self.inside.free in
    let flies : c.self.inside.pending_call ≡ At c.args.fd = ap (λ (u : Table). u.pending_call) c.self.view_is
    ∙ c.requires.flies in
    let worker_is : c.worker-worker.result ≡ min (first_in c.self.inside.workers c.self.inside.free) 7 =
    subst (λ (u : Table). c.worker-worker.result ≡ min (first_in u.workers u.free) 7) (sym c.self.view_is)
    c.worker-worker.ensures.worker in
    let course : CourseAt (runs_scripts c.self.inside.workers) c.worker-worker.result c.self.inside.clients c.args.fd
    c.args.reply.last.now (received c.args.reply.parts) (Leaves c.in-Some-Leaves.left) c.advance_at.new.self =
    search rules in
    let had : c.worker_at-was.result ≡ worker_at c.self.inside.clients c.args.fd = search rules in
    subst (λ (u : Table). Turns u c.args.reply.last.now (received c.args.reply.parts) c.in_ok-turn-in-Some-Leaves.turn
    c.leave.new.self) c.self.view_is
    (leaves_turns s (subst (λ (u : Table). IsBetweenTurns u) (sym c.self.view_is) c.requires.between) c.args.fd flies
    c.args.reply.last.now (received c.args.reply.parts) c.leave.new.self c.worker-worker.result c.in-Some-Leaves.left
    c.advance_at.new.self c.worker_at-was.result c.worker_left.result c.turned-free.result
    c.in_ok-turn-in-Some-Leaves.turn worker_is course had c.worker_left.ensures.worker c.turned-free.ensures
    c.in_ok-turn-in-Some-Leaves.ensures.picks c.in_ok-turn-in-Some-Leaves.ensures.left)

pub returns-in_err-turn-in-Some-Leaves-clause-wants : goal.returns-in_err-turn-in-Some-Leaves-clause-wants
returns-in_err-turn-in-Some-Leaves-clause-wants c =
    let s : Table = table c.self.inside.clients c.self.inside.pending_call c.self.inside.workers c.self.inside.free in
    let flies : c.self.inside.pending_call ≡ At c.args.fd = ap (λ (u : Table). u.pending_call) c.self.view_is
    ∙ c.requires.flies in
    let worker_is : c.worker-worker.result ≡ min (first_in c.self.inside.workers c.self.inside.free) 7 =
    subst (λ (u : Table). c.worker-worker.result ≡ min (first_in u.workers u.free) 7) (sym c.self.view_is)
    c.worker-worker.ensures.worker in
    let course : CourseAt (runs_scripts c.self.inside.workers) c.worker-worker.result c.self.inside.clients c.args.fd
    c.args.reply.last.now (received c.args.reply.parts) (Leaves c.in-Some-Leaves.left) c.advance_at.new.self =
    search rules in
    let had : c.worker_at-was.result ≡ worker_at c.self.inside.clients c.args.fd = search rules in
    on_err c.from_residual-in_err-turn-in-Some-Leaves.result
    (MayWant c.args.self.now.workers c.args.self.now.clients (At c.args.fd) c.args.reply.last.now
    (received c.args.reply.parts))
    (subst (λ (u : Table). MayWant u.workers u.clients (At c.args.fd) c.args.reply.last.now
    (received c.args.reply.parts))
    c.self.view_is
    (left_wants s (subst (λ (u : Table). IsBetweenTurns u) (sym c.self.view_is) c.requires.between) c.args.fd flies
    c.args.reply.last.now
    (received c.args.reply.parts) c.worker-worker.result c.in-Some-Leaves.left
    c.advance_at.new.self c.worker_at-was.result c.worker_left.result c.turned-free.result worker_is course had
    c.worker_left.ensures.worker c.turned-free.ensures
    c.in_err-turn-in-Some-Leaves.ensures.wants))
