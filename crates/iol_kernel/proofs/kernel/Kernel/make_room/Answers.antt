use Rattle.std.proofs.Common.{ap}
use Rattle.iol_cache.specs.Evictions.{Holding}
use Rattle.iol_cache.specs.Cache.{cached_of}
use Rattle.iol_kernel.specs.Kernel.{state_of}
use Rattle.iol_kernel.proofs.FileCalls.FileNames.{cache_sound}
use Rattle.iol_kernel.proofs.State.Room.{room_made}
use Rattle.iol_kernel.proofs.kernel.Kernel.make_room.Goals as goal

pub make_room-requires-clause-sound : goal.make_room-requires-clause-sound
make_room-requires-clause-sound c = cache_sound (state_of c.args.self.now) c.requires.sound

pub returns : goal.returns
returns c =
    let h = state_of c.args.self.now in
    let e = c.make_room.ensures in
    record {
      made = room_made h c.make_room.new.store (cached_of c.make_room.new.self) c.requires.sound e.sound e.gives_up
          c.args.pool c.args.pages e.victims;
      room = e.room;
      free = e.free;
      refused = λ no. ap (λ (x : Holding). record h { store = x.store; cache = x.cache }) (e.refused no);
    }
