use Rattle.std.proofs.Common.{ap, ◌∙◌}
use Rattle.iol_proc.specs.Looks.{readable}
use Rattle.flash_laws.specs.Serves.{Server}
use Rattle.flash_lite.specs.ReceivedBytes.{received}
use Rattle.flash_lite.specs.Table.{serving}
use Rattle.flash_lite.specs.ServerTurn.{filed_by}
use Rattle.flash_lite.proofs.Turns.Invariant.{kept_turn}
use Rattle.flash_lite.proofs.Responses.Offers.{offers_next}
use Rattle.flash_lite.proofs.Turns.CopyFree.{copy_free_turn}
use Rattle.flash_lite.proofs.server.ServerProcess.next.Goals as goal

pub invariant_of-self-2 : goal.invariant_of-self-2
invariant_of-self-2 c =
    kept_turn c.self.inside.table c.advance.new.self c.args.last.now (readable c.args.look.now)
    (received c.readable_by-parts.result) c.in_ok-turn.turn c.readable_by-parts.ensures c.self.invariant
    c.in_ok-turn.ensures.turn

pub returns-clause-copy_free : goal.returns-clause-copy_free
returns-clause-copy_free c =
    copy_free_turn c.self.inside.table c.advance.new.self c.args.last.now (received c.readable_by-parts.result)
    c.in_ok-turn.turn c.in_ok-turn.ensures.turn

pub returns-clause-offers : goal.returns-clause-offers
returns-clause-offers c =
    offers_next c.clients_law.ensures c.self.inside.table.workers
    (filed_by c.self.inside.table c.args.last.now (received c.readable_by-parts.result))
    (serving c.advance.new.self) c.in_ok-turn.turn
    c.in_ok-turn.ensures.turn.hired c.in_ok-turn.ensures.turn.picks

pub returns-clause-few : goal.returns-clause-few
returns-clause-few c =
    (kept_turn c.self.inside.table c.advance.new.self c.args.last.now (readable c.args.look.now)
    (received c.readable_by-parts.result) c.in_ok-turn.turn c.readable_by-parts.ensures c.self.invariant
    c.in_ok-turn.ensures.turn).few

pub returns-clause-shared : goal.returns-clause-shared
returns-clause-shared c =
    (kept_turn c.self.inside.table c.advance.new.self c.args.last.now (readable c.args.look.now)
    (received c.readable_by-parts.result) c.in_ok-turn.turn c.readable_by-parts.ensures c.self.invariant
    c.in_ok-turn.ensures.turn).shared

pub returns-clause-none : goal.returns-clause-none
returns-clause-none c = λ zero.
    (kept_turn c.self.inside.table c.advance.new.self c.args.last.now (readable c.args.look.now)
    (received c.readable_by-parts.result) c.in_ok-turn.turn c.readable_by-parts.ensures c.self.invariant
    c.in_ok-turn.ensures.turn).none
    (c.in_ok-turn.ensures.turn.hired ∙ (ap (λ (s : Server). s.workers) c.self.view_is ∙ zero))
