use Rattle.std.proofs.Common.{◌∙◌}
use Rattle.iol_kernel.specs.Kernel.{state_of}
use Rattle.iol_kernel.proofs.Connections.StreamsAfterRoom.{still_there, takes_brought, takes_refuses, takes_serves}
use Rattle.iol_kernel.proofs.Connections.StreamsAfterRoom.{takes_stays}
use Rattle.iol_kernel.proofs.kernel.Kernel.arrive_from.Goals as goal

pub read_in-requires : goal.read_in-requires
read_in-requires g c = record {
  sound = c.make_room_for.ensures.made.sound;
  there =
      still_there c.args.conn c.args.max c.in_ok-pool.pool (state_of c.args.self.now)
      (state_of c.make_room_for.new.self) c.make_room_for.ensures.made c.in_ok-pool.ensures.may.lands
      c.in_ok-pool.ensures.may.there;
}

pub returns : goal.returns
returns g c =
    let h = state_of c.args.self.now in
    let k = state_of c.make_room_for.new.self in
    let l = state_of c.read_in.new.self in
    let left = g.R.Read.remaining c.args.reader.now in
    let after = g.R.Read.remaining c.read_in.new.reader in
    let may = c.in_ok-pool.ensures.may in
    let m = c.make_room_for.ensures in
    let e = c.read_in.ensures in
    record {
      refuses = takes_refuses c.args.conn c.args.max c.in_ok-pool.pool h k m.made may.lands may.passed c.args.reader.now
          c.read_in.new.reader c.read_in.result l (m.room c.if-not-make_room_for.false) (m.fits
          ∙ c.if-not-make_room_for.false) e.takes.refuses e.takes.err e.err_reader;
      brings = takes_brought c.args.conn c.args.max c.in_ok-pool.pool h k m.made may.lands left after c.read_in.result l
          e.takes;
      read = takes_serves c.args.conn c.args.max c.in_ok-pool.pool h k m.made may.lands left after c.read_in.result l
          e.takes;
      sound = e.takes.sound;
      stays = takes_stays c.args.conn c.args.max c.in_ok-pool.pool h k m.made may.lands l e.takes.stays;
    }
