use Rattle.std.proofs.Common.{ap, subst, arith, length}
use Rattle.std.specs.List.{All}
use Rattle.std.proofs.lemmas.List.Elements.{All-head, All-tail}
use Rattle.iol_hold.specs.Texts.{IsFilled}
use Rattle.iol_pipe.proofs.Wholes.{whole_start, whole_more, whole_end}
use Rattle.iol_pipe.proofs.fill.add_whole.Goals as goal

pub whole-requires : goal.whole-requires
whole-requires c =
    All-head (IsFilled c.args.store.now) c.in-Some.hold c.take_first.new.self
    (subst (All (IsFilled c.args.store.now)) c.in-Some.ensures c.loop-hold.invariant.filled)

pub loop-hold-init : goal.loop-hold-init
loop-hold-init c = record {
  so_far = whole_start c.args.store.now c.args.queue.now.items c.args.holds;
  filled =
      c.requires.filled;
  room = c.requires.room;
}

pub loop-hold-preserved : goal.loop-hold-preserved
loop-hold-preserved c =
    let s = c.args.store.now in
    let h = c.in-Some.hold in
    let rest = c.take_first.new.self in
    let all = c.loop-hold.invariant.filled in
    record {
      so_far = whole_more s c.args.queue.now.items c.loop-hold.queue.items c.push_back_reserved.new.self.items
          c.loop-hold.left rest c.args.holds h c.whole.result c.loop-hold.invariant.so_far c.in-Some.ensures all
          c.whole.ensures.hold c.whole.ensures.from c.whole.ensures.len c.push_back_reserved.ensures.items;
      filled = All-tail (IsFilled s) h rest (subst (All (IsFilled s)) c.in-Some.ensures all);
      room = omega (
        arith,
        c.loop-hold.invariant.room,
        ap length c.in-Some.ensures,
        c.push_back_reserved.ensures.len,
        c.push_back_reserved.ensures.capacity,
      );
    }

pub returns : goal.returns
returns c = whole_end c.args.store.now c.args.queue.now.items c.loop-hold.queue.items c.loop-hold.left c.args.holds
    c.loop-hold.invariant.so_far c.in_default.ensures.0
