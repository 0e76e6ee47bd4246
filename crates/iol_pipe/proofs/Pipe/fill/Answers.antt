use Rattle.std.proofs.Common.{◌≡◌, true, length, sym, ap, ◌∙◌, take, subst, arith}
use Rattle.std.proofs.lemmas.List.{length-take}
use Rattle.iol_arena.specs.State.{pages_for}
use Rattle.iol_hold.specs.Places.{byte_len}
use Rattle.iol_hold.specs.Room.{has_room}
use Rattle.iol_hold.proofs.Rooms.{room_for_none}
use Rattle.iol_pipe.specs.NewBytes.{AddsBytes}
use Rattle.iol_pipe.specs.Queue.{fitting}
use Rattle.iol_pipe.proofs.Wholes.{length_added, bytes_added, none_added}
use Rattle.iol_pipe.proofs.Pipe.fill.Goals as goal
use Rattle.iol_pipe.proofs.Pipe.fill.Goals.{Then-taken-eq0}

pub add_whole-requires-clause-room : goal.add_whole-requires-clause-room
unfolding pages_for
add_whole-requires-clause-room c =
    omega (
      arith,
      c.in_ok-holds.ensures.few,
      c.div_ceil.ensures,
      c.in_ok-reserve.ensures.ok,
      length-take c.min-taken.result c.args.bytes.now,
      c.min-taken.ensures,
    )

pub invariant_of-self-2 : goal.invariant_of-self-2
invariant_of-self-2 c =
    let taken = take c.min-taken.result c.args.bytes.now in
    let held = c.in_ok-holds.ensures in
    let more = length_added c.args.store.now c.fill.new.self c.reserve.new.self.items c.add_whole.new.queue.items
    c.args.pool taken c.in_ok-holds.holds c.add_whole.ensures held.pool held.value in
    let same = ap byte_len c.reserve.ensures.items in
    let size = length-take c.min-taken.result c.args.bytes.now in
    record {
      len = omega (arith, more, same, size, c.self.invariant.len, c.min-taken.ensures);
      most = omega (arith, more, same, size, c.self.invariant.len, c.self.invariant.most, c.min-taken.ensures);
    }

pub returns-clause-adds : goal.returns-clause-adds
returns-clause-adds c =
    let s = c.args.store.now in
    let t = c.fill.new.self in
    let taken = take c.min-taken.result c.args.bytes.now in
    let held = c.in_ok-holds.ensures in
    let now = c.add_whole.new.queue.items in
    record {
      taken = omega (arith, c.min-taken.ensures, c.self.invariant.len, ap byte_len c.self.view_is);
      added = subst (λ old. AddsBytes s t old now c.args.pool taken) (c.reserve.ensures.items ∙ c.self.view_is)
          (bytes_added s t c.reserve.new.self.items now c.args.pool taken c.in_ok-holds.holds c.add_whole.ensures
          held.pool held.value held.moves held.made_on held.others held.grows held.reclaims held.pools);
    }

-- no byte fits, or none is offered
none : (c : Then-taken-eq0) → fitting c.args.self.now (length c.args.bytes.now) ≡ 0
none c = omega (arith, c.min-taken.ensures, c.if-taken-eq0.true, c.self.invariant.len, ap byte_len c.self.view_is)

pub returns-then-taken-eq0-clause-adds : goal.returns-then-taken-eq0-clause-adds
returns-then-taken-eq0-clause-adds c =
    record {
      taken = sym (none (goal.at.returns-then-taken-eq0-clause-adds c).Then-taken-eq0);
      added =
          none_added c.args.store.now c.args.self.now c.args.pool;
    }

pub returns-then-taken-eq0-clause-room : goal.returns-then-taken-eq0-clause-room
returns-then-taken-eq0-clause-room c = record {
  room =
      subst (λ k. has_room c.args.store.now c.args.pool k ≡ true)
      (sym (none (goal.at.returns-then-taken-eq0-clause-room c).Then-taken-eq0))
      (room_for_none c.args.store.now c.args.pool);
  no_room = λ p is. absurd (cc is);
}
