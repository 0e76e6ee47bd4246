use Rattle.std.proofs.Common.{◌∙◌, sym}
use Rattle.iol_kernel.specs.ClosedEnds.{without_writer}
use Rattle.iol_kernel.proofs.Queues.ClosedEnds.{closes_gone, neither}
use Rattle.iol_kernel.proofs.pipes.Pipes.close_writer.Goals as goal

pub returns-then-not-stays : goal.returns-then-not-stays
returns-then-not-stays c =
    let closed = c.close_writer-stays.ensures in
    rw (← c.self.view_is, c.free.ensures.freed)
    (closes_gone c.args.store.now c.close_writer-stays.new.store c.self.inside.places.places c.number-place.result
    c.args.p c.value_mut.result.now c.close_writer-stays.new.self without_writer c.number-place.ensures
    (sym c.value_mut.ensures.value) closed.becomes.pipe
    (neither c.value_mut.result.now.reading (sym closed.stays ∙ c.if-not-stays.true)) closed.becomes.releases)
