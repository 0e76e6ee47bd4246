use Rattle.std.proofs.Common.{◌≡◌, ℕ, ◌<◌, Bool, Option, List, length, arith, refl, ap, sym, ◌∙◌}
use Rattle.iol_pool.specs.Pools.{Pool}
use Rattle.iol_hold.specs.declared.slices.Slice.{Slice}
use Rattle.iol_pipe.specs.Queue.{names_given}
use Rattle.iol_pipe.proofs.Parts.{length-push, taken_none, taken_all, taken_barred, taken_empty, taken_more}
use Rattle.iol_pipe.proofs.SharedHolds.{none_tally, fewer_moved, rest_shared}
use Rattle.iol_pipe.proofs.take_prefix.Goals as goal

-- the answer for the current pools is that for the pools before
asked : (old now : List Pool) (p q : ℕ) (d : Option ℕ) (answer : Bool) → now ≡ old → q ≡ p
    → answer ≡ names_given now d q → names_given old d p ≡ answer
asked old now p q d answer same first is = ap (λ ps. names_given ps d p) (sym same)
    ∙ ap (λ r. names_given now d r) (sym first) ∙ sym is

pub loop-left-init : goal.loop-left-init
loop-left-init c = record {
  so_far = taken_none c.args.store.now c.args.queue.now.items c.args.out.now.items c.args.n c.args.d.now
      c.requires.room.none;
  room = omega (arith, c.requires.room.room, ap length c.requires.room.none, c.args.out.now.ok.0);
  few = omega (arith, ap length c.requires.room.none);
  fewer = λ some. omega (arith, ap length c.requires.room.none);
  unsplit = λ some b. omega (arith, none_tally c.args.out.now.items b c.requires.room.none);
}

pub returns-then-not-names : goal.returns-then-not-names
returns-then-not-names c =
    let first = c.in-Some.first.now in
    let some : 0 < length c.loop-left.queue.items =
    omega (arith, c.in-Some.ensures.variant.0 refl, c.loop-left.queue.ok.0) in
    let barred = asked c.args.store.now.pools c.loop-left.store.pools first.hold.pool c.pool.result c.args.d.now
    c.names.result c.loop-left.invariant.so_far.shares.pools c.pool.ensures c.names.ensures in
    taken_barred c.args.store.now c.loop-left.store c.args.queue.now.items c.loop-left.out.items c.loop-left.queue.items
    c.args.n c.loop-left.left c.args.d.now first
    c.loop-left.invariant.so_far c.loop-left.invariant.few some c.in-Some.ensures.lookup c.loop-left-test.true (barred
    ∙ c.if-not-names.true)

pub take_first-slice-requires : goal.take_first-slice-requires
take_first-slice-requires c = record {
  some = c.loop-left-test.true;
  filled = omega (arith, c.in-Some.ensures.variant.0 refl, c.loop-left.queue.ok.0);
  shared = rest_shared c.args.queue.now.items c.loop-left.out.items c.loop-left.queue.items c.requires.shared
      (c.loop-left.invariant.unsplit c.loop-left-test.true) c.loop-left.invariant.so_far.shares;
}

pub loop-left-preserved : goal.loop-left-preserved
loop-left-preserved c =
    let pools = c.args.store.now.pools in
    let old = c.args.queue.now.items in
    let out = c.loop-left.out.items in
    let moved = c.push_reserved.new.self.items in
    let queue = c.loop-left.queue.items in
    let slice = c.take_first-slice.result in
    let after = c.take_first-slice.new.queue.items in
    let pool = c.take_first-slice.ensures.pool c.in-Some.first.now
    ∙ ap (λ (x : Slice). x.hold.pool) (sym c.in-Some.ensures.lookup) in
    let seen = asked pools c.loop-left.store.pools slice.hold.pool c.pool.result c.args.d.now c.names.result
    c.loop-left.invariant.so_far.shares.pools (c.pool.ensures ∙ sym pool) c.names.ensures in
    record {
      so_far = taken_more c.args.store.now c.loop-left.store c.take_first-slice.new.store old out moved queue after
          c.args.n c.loop-left.left c.args.d.now slice c.loop-left.invariant.so_far c.push_reserved.ensures.items
          c.take_first-slice.ensures.given c.take_first-slice.ensures.cut c.take_first-slice.ensures.len
          c.take_first-slice.ensures.few (seen ∙ c.if-not-names.false) c.take_first-slice.ensures.shares;
      room = omega (
        arith,
        c.loop-left.invariant.room,
        c.push_reserved.ensures.len,
        c.push_reserved.ensures.capacity,
        c.take_first-slice.ensures.fewer,
      );
      few =
          omega (
            arith,
            c.loop-left.invariant.fewer c.loop-left-test.true,
            length-push out moved slice c.push_reserved.ensures.items,
            c.take_first-slice.ensures.few,
          );
      fewer =
          λ more. omega (
            arith,
            c.loop-left.invariant.fewer c.loop-left-test.true,
            length-push out moved slice c.push_reserved.ensures.items,
            c.take_first-slice.ensures.fewer_left (omega (arith, more)),
          );
      unsplit = λ more b. fewer_moved old out queue moved after slice b c.push_reserved.ensures.items
          (c.loop-left.invariant.unsplit c.loop-left-test.true b)
          (c.take_first-slice.ensures.whole (omega (arith, more)) b);
    }

pub returns-in_default : goal.returns-in_default
returns-in_default c =
    taken_empty c.args.store.now c.loop-left.store c.args.queue.now.items c.loop-left.out.items c.loop-left.queue.items
    c.args.n c.loop-left.left c.args.d.now
    c.loop-left.invariant.so_far c.loop-left.invariant.few
    (λ some. cc (c.in_default.ensures.variant.1 (omega (arith, some, c.loop-left.queue.ok.0))))

pub returns : goal.returns
returns c =
    taken_all c.args.store.now c.loop-left.store c.args.queue.now.items c.loop-left.out.items c.loop-left.queue.items
    c.args.n c.loop-left.left c.args.d.now
    c.loop-left.invariant.so_far c.loop-left.invariant.few (omega (arith, c.loop-left-test.false))
