use Rattle.std.proofs.Common.{◌∙◌, sym}
use Rattle.iol_kernel.specs.ClosedEnds.{without_reader}
use Rattle.iol_kernel.proofs.Queues.ClosedEnds.{closes_gone}
use Rattle.iol_kernel.proofs.pipes.Pipes.close_reader.Goals as goal

pub returns-then-not-stays : goal.returns-then-not-stays
returns-then-not-stays c =
    let closed = c.close_reader-stays.ensures in
    rw (← c.self.view_is, c.free.ensures.freed)
    (closes_gone c.args.store.now c.close_reader-stays.new.store c.self.inside.places.places c.number-place.result
    c.args.p c.value_mut.result.now c.close_reader-stays.new.self without_reader c.number-place.ensures
    (sym c.value_mut.ensures.value) closed.becomes.pipe (sym closed.stays ∙ c.if-not-stays.true)
    closed.becomes.releases)
