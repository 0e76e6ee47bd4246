use Rattle.std.proofs.Common.{◌≡◌, ◌∙◌, List, Some, ap, sym}
use Rattle.iol_hold.specs.declared.slices.Slice.{Slice}
use Rattle.iol_desc.specs.Tables.{Slots}
use Rattle.iol_kernel.specs.KernelState.{queue_at}
use Rattle.iol_kernel.specs.Views.{Pipe}
use Rattle.iol_kernel.proofs.Queues.NewBytes.{lent_was, lent_is, lent_set}
use Rattle.iol_kernel.proofs.pipes.Pipes.fill.Goals as goal

pub returns : goal.returns
returns c =
    let same = ap (λ (t : Slots (Pipe (List Slice))). t.places) c.self.view_is in
    let there = c.value_mut-pipe.ensures.value in
    let was =
    lent_was c.args.self.now.places c.self.inside.places.places c.number.result c.args.p c.value_mut-pipe.result.now
    same c.number.ensures there in
    let old : (queue_at c.args.self.now.places c.args.p).queue ≡ c.pipe.inside.queue =
    ap (λ (x : Pipe (List Slice)). x.queue) (was ∙ sym c.pipe.view_is) in
    let new = lent_is c.self.inside.places.places c.number.result c.args.p c.value_mut-pipe.result.now
    (record { queue = c.fill.new.self; reading = c.pipe.inside.reading; writing = c.pipe.inside.writing })
    c.number.ensures there in
    let set =
    lent_set c.args.self.now.places c.self.inside.places.places c.number.result c.args.p
    (record { queue = c.pipe.inside.queue; reading = c.pipe.inside.reading; writing = c.pipe.inside.writing })
    c.fill.new.self same c.number.ensures
    (c.value_mut-pipe.ensures.value ∙ ap (λ (x : Pipe (List Slice)). Some x) (sym c.pipe.view_is)) in
    record {
      adds = rw (old, new) c.in_ok-fill.ensures.adds;
      pipes = set;
      room = rw old c.in_ok-fill.ensures.room;
      late = tt;
      err = tt;
    }
