use Rattle.std.proofs.Common.{◌≡◌, ◌∙◌, [], Some, ap, refl, subst, sym, rules}
use Rattle.iol_core.specs.declared.events.Reply.TheVariants as reply
use Rattle.flash_laws.specs.Client.{new_client}
use Rattle.flash_laws.specs.Site.OtherConns.{with_at}
use Rattle.flash_lite.specs.Table.{Table, IsBetweenTurns}
use Rattle.flash_lite.specs.ServerTurn.{Turns, accept_step_to, worker_at}
use Rattle.flash_lite.specs.declared.server.TheConstants.{MAX_CONNS}
use Rattle.flash_lite.proofs.Turns.TurnParts.{accepted_turns, table}
use Rattle.flash_lite.proofs.table.Table.advance_accepting.Goals as goal

pub returns-in_ok-admit-in-Fd-clause-turn : goal.returns-in_ok-admit-in-Fd-clause-turn
returns-in_ok-admit-in-Fd-clause-turn c =
    let s : Table = table c.self.inside.clients c.self.inside.pending_call c.self.inside.workers c.self.inside.free in
    let t : Table =
    table c.admit.new.self c.accept_step-pending_call.result.0 c.self.inside.workers c.turned-self-inside.result in
    let came : c.args.last.now ≡ reply.Fd c.number-place.result = search rules in
    let clients : c.admit.new.self ≡ with_at c.self.inside.clients c.number-place.result (Some new_client) =
    search rules in
    let pending_call : c.accept_step-pending_call.result.0 ≡ accept_step_to c.admit.new.self MAX_CONNS = search rules in
    let was : c.worker_at-was.result ≡ worker_at c.self.inside.clients c.number-place.result = search rules in
    subst (λ (u : Table). Turns u c.args.last.now [] c.accept_step-pending_call.result.1 t) c.self.view_is
    (accepted_turns s t c.number-place.result c.args.last.now c.worker_at-was.result c.accept_step-pending_call.result.1
    (subst (λ (u : Table). IsBetweenTurns u) (sym c.self.view_is) c.requires.between)
    (ap (λ (u : Table). u.pending_call) c.self.view_is ∙ c.requires.accepts)
    came clients pending_call c.accept_step-pending_call.ensures.makes refl was c.turned-self-inside.ensures)
