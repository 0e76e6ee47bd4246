use Rattle.std.proofs.Common.{◌∙◌}
use Rattle.iol_proc.proofs.ReadableBytes.{starves_turn, yields_turn, calls_turn}
use Rattle.iol_proc.proofs.turn.process_slot_turn.Goals as goal

pub returns-in-Err-clause-turn : goal.returns-in-Err-clause-turn
returns-in-Err-clause-turn g c =
    starves_turn g.P.Process.turns c.new-look.result c.args.system.now c.args.process_slot.now c.next.new.self
    (c.new-look.ensures.aggregates ∙ c.aggregates.ensures) c.new-look.ensures.by c.in-Err.ensures.wants
    c.in-Err.ensures.err

pub returns-in-Ok-Yield-clause-turn : goal.returns-in-Ok-Yield-clause-turn
returns-in-Ok-Yield-clause-turn g c =
    yields_turn g.P.Process.turns c.new-look.result c.args.system.now c.args.process_slot.now c.next.new.self
    c.in-Ok-Yield.field-0 c.in-Ok-Yield.field-0-is (c.new-look.ensures.aggregates ∙ c.aggregates.ensures)
    c.new-look.ensures.by c.in-Ok-Yield.ensures.turn

pub returns-in-Ok-Make-clause-turn : goal.returns-in-Ok-Make-clause-turn
returns-in-Ok-Make-clause-turn g c =
    calls_turn g.P.Process.turns c.new-look.result c.args.system.now c.args.process_slot.now c.next.new.self
    c.in-Ok-Make.field-0 c.in-Ok-Make.call c.step_ref-reply.result c.again.result c.step_ref-reply.new.self
    c.in-Ok-Make.field-0-is (c.new-look.ensures.aggregates ∙ c.aggregates.ensures) c.new-look.ensures.by
    c.in-Ok-Make.ensures.turn c.step_ref-reply.ensures c.again.ensures
