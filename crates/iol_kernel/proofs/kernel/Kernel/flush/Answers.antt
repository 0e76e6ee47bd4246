use Rattle.std.proofs.Common.{ap}
use Rattle.iol_cache.specs.Cache.{cached_of}
use Rattle.iol_kernel.specs.Kernel.{state_of}
use Rattle.iol_kernel.specs.WriteBack.{done_of}
use Rattle.iol_kernel.proofs.FileCalls.Faults.{flush_serves, flushes_one}
use Rattle.iol_kernel.proofs.FileCalls.FileNames.{cache_sound}
use Rattle.iol_kernel.proofs.FileCalls.Overwrites.{counts_lower}
use Rattle.iol_kernel.proofs.kernel.Kernel.flush.Goals as goal

pub flush_one-requires-clause-sound : goal.flush_one-requires-clause-sound
flush_one-requires-clause-sound g c = cache_sound (state_of c.args.self.now) c.requires

pub flush_one-requires-clause-few : goal.flush_one-requires-clause-few
flush_one-requires-clause-few g c = counts_lower (state_of c.args.self.now) c.requires

pub returns-in-Err : goal.returns-in-Err
returns-in-Err g c =
    let h = state_of c.args.self.now in
    let k = cached_of c.flush_one.new.self in
    let disk = g.B.Backing.disk c.args.backing.now in
    let after = g.B.Backing.disk c.flush_one.new.backing in
    let w = c.flush_one.ensures in
    record {
      serves = flush_serves h k disk after c.flush_one.result (ap done_of c.in-Err.is) w.flushes c.requires w.sound
          w.files w.mirrors;
      flushes = flushes_one h k disk after c.flush_one.result (ap done_of c.in-Err.is) w.flushes;
    }

pub returns : goal.returns
returns g c =
    let h = state_of c.args.self.now in
    let k = cached_of c.flush_one.new.self in
    let disk = g.B.Backing.disk c.args.backing.now in
    let after = g.B.Backing.disk c.flush_one.new.backing in
    let w = c.flush_one.ensures in
    record {
      serves = flush_serves h k disk after c.flush_one.result (ap done_of c.in_default.is) w.flushes c.requires w.sound
          w.files w.mirrors;
      flushes = flushes_one h k disk after c.flush_one.result (ap done_of c.in_default.is) w.flushes;
    }
