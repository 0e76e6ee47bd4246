use Rattle.std.proofs.Common.{refl, ap, length, arith}
use Rattle.std.proofs.lemmas.List.{length-take}
use Rattle.iol_hold.proofs.SlicePlaces.{byte_len-take-le}
use Rattle.iol_sum.proofs.PieceSums.{readable-item, length-slice_bytes}
use Rattle.iol_sock.proofs.Writes.{Takes, takes}
use Rattle.iol_sock.proofs.drain_to.write_first.Given.{Over}
use Rattle.iol_sock.proofs.drain_to.write_first.Goals.{After-write_some-written}
use Rattle.iol_sock.proofs.drain_to.write_first.Goals as goal

pub bytes-requires : goal.bytes-requires
bytes-requires g c = readable-item c.args.queue.now c.loop-taken.i c.in-Some.slice.now (c.in-Some.ensures.there.0 refl)
    c.in-Some.ensures.item c.requires

pub slice_bounds-write_some-end : goal.slice_bounds-write_some-end
slice_bounds-write_some-end g c =
    let x = c.in-Some.slice.now in
    let readable =
    readable-item c.args.queue.now c.loop-taken.i x (c.in-Some.ensures.there.0 refl) c.in-Some.ensures.item
    c.requires in
    omega (
      arith,
      c.min-len.ensures,
      length-take c.min-len.result c.bytes.result.now,
      ap length c.bytes.ensures,
      length-slice_bytes x readable,
    )

-- the bytes taken so far, with those of this slice
more : (g : Over) (c : After-write_some-written g)
    → Takes c.args.store.now c.args.queue.now c.loop-taken.i c.loop-taken.taken c.args.max c.min-len.result
    c.write_some-written.result (g.W.Write.contents c.args.writer.now)
    (g.W.Write.contents c.write_some-written.new.writer)
more g c =
    takes _ _ _ _ _ _ _ c.in-Some.slice.now c.bytes.result.now _ (g.W.Write.contents c.loop-taken.writer) _
    (c.in-Some.ensures.there.0 refl) c.in-Some.ensures.item c.requires c.loop-taken.invariant.full
    c.loop-taken-test.true c.min-len.ensures
    c.bytes.ensures c.write_some-written.ensures.most c.loop-taken.invariant.written
    c.write_some-written.ensures.written

pub returns-then-written-len : goal.returns-then-written-len
returns-then-written-len g c =
    let t = more g (goal.at.returns-then-written-len g c).After-write_some-written in
    record {
      most = omega (arith, t.few, t.within);
      all = λ bad. absurd (cc bad);
      fewer =
          λ failed. omega (arith, t.within, c.if-written-len.true);
      written = t.written;
    }

pub overflow_add-i : goal.overflow_add-i
overflow_add-i g c = omega (arith, c.ranges.max, c.loop-taken.invariant.slow, c.loop-taken-test.true)

pub loop-taken-preserved : goal.loop-taken-preserved
loop-taken-preserved g c =
    let t = more g (goal.at.loop-taken-preserved g c).After-write_some-written in
    record {
      at = omega (arith, c.in-Some.ensures.there.0 refl);
      slow = omega (arith, t.some, c.if-written-len.false, c.loop-taken.invariant.slow);
      full = omega (arith, t.few, t.whole, c.if-written-len.false);
      written = t.written;
    }

pub returns-after-loop-taken : goal.returns-after-loop-taken
returns-after-loop-taken g c =
    let all = byte_len-take-le c.args.queue.now c.loop-taken.i in
    record {
      most = omega (arith, c.loop-taken.invariant.full, all);
      all = λ passed. omega (arith, c.loop-taken.invariant.full, c.loop-taken-test.false, all);
      fewer = λ bad. absurd (cc bad);
      written = c.loop-taken.invariant.written;
    }
