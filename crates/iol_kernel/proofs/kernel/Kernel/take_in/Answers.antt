use Rattle.std.proofs.Common.{◌∙◌, length}
use Rattle.iol_arena.specs.State.{pages_for}
use Rattle.iol_kernel.specs.Kernel.{state_of}
use Rattle.iol_kernel.proofs.Connections.ArrivalAfterRoom.{arrive_none, arrive_places, conn_now}
use Rattle.iol_kernel.proofs.Queues.QueueSlices.{few_arrived}
use Rattle.iol_kernel.proofs.kernel.Kernel.take_in.Goals as goal

pub make_room_for-requires : goal.make_room_for-requires
make_room_for-requires c = record { sound = c.requires.sound; opened = c.requires.opened }

pub returns-then-not-make_room_for : goal.returns-then-not-make_room_for
returns-then-not-make_room_for c =
    let r = c.make_room_for.ensures in
    record {
      places = arrive_none c.args.conn c.args.bytes.now c.args.pool c.args.count (state_of c.args.self.now)
          (state_of c.make_room_for.new.self) r.made c.requires (r.refused c.if-not-make_room_for.true) (r.fits
          ∙ c.if-not-make_room_for.true);
      slices = tt;
    }

pub fill_conn-requires : goal.fill_conn-requires
fill_conn-requires c = conn_now c.args.conn c.args.bytes.now c.args.pool c.args.count (state_of c.args.self.now)
    (state_of c.make_room_for.new.self) c.make_room_for.ensures.made c.requires

pub returns : goal.returns
returns c =
    let h = state_of c.args.self.now in
    let k = state_of c.make_room_for.new.self in
    let l = state_of c.fill_conn.new.self in
    let r = c.make_room_for.ensures in
    record {
      places = arrive_places c.args.conn c.args.bytes.now c.args.pool c.args.count h k r.made c.requires l
          c.fill_conn.result
          (r.room c.if-not-make_room_for.false) (r.fits ∙ c.if-not-make_room_for.false) c.fill_conn.ensures.fills;
      slices = few_arrived c.args.pool (pages_for c.args.count) h k r.made l c.args.conn (length c.args.bytes.now)
          c.fill_conn.result c.fill_conn.ensures.slices;
    }
