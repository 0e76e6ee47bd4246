use Rattle.std.proofs.Common.{refl, inl}
use Rattle.iol_core.specs.Calls.Files as calls
use Rattle.iol_cache.specs.Cache.{cached_of}
use Rattle.iol_kernel.specs.Kernel.{state_of}
use Rattle.iol_kernel.specs.Readings.{bytes_over}
use Rattle.iol_kernel.proofs.FileCalls.Faults.{fault_counted, sync_steps}
use Rattle.iol_kernel.proofs.FileCalls.FileNames.{cache_sound}
use Rattle.iol_kernel.proofs.FileCalls.WriteBack.{back_serves, synced_parts}
use Rattle.iol_kernel.proofs.FileCalls.Overwrites.{counts_lower, in_cache}
use Rattle.iol_kernel.proofs.kernel.Kernel.sync.Goals as goal

pub sync-requires-clause-sound : goal.sync-requires-clause-sound
sync-requires-clause-sound g c = cache_sound (state_of c.args.self.now) c.requires.has.sound

pub sync-requires-clause-file : goal.sync-requires-clause-file
sync-requires-clause-file g c =
    in_cache (state_of c.args.self.now) c.args.file c.requires.has.sound c.requires.has.there

pub sync-requires-clause-few : goal.sync-requires-clause-few
sync-requires-clause-few g c = counts_lower (state_of c.args.self.now) c.requires.has.sound

pub returns : goal.returns
returns g c =
    let h = state_of c.args.self.now in
    let d = cached_of c.sync.new.self in
    let x = g.B.Backing.disk c.args.backing.now in
    let y = g.B.Backing.disk c.sync.new.backing in
    let w = c.sync.ensures in
    record {
      serves = back_serves (λ s. calls.fsync s c.args.by c.args.fd) h _ d x y c.sync.result c.requires.has.sound
          (synced_parts h.store c.args.file h.cache d x y w.syncs) w.sound
          (λ stored. sync_steps _ c.args.by c.args.fd c.args.file c.sync.result
          (c.requires.passed (bytes_over stored h.store)) (c.requires.file (bytes_over stored h.store)) w.late)
          w.syncs.honest w.files w.mirrors (cache_sound h c.requires.has.sound) refl;
      syncs = record {
        syncs = w.syncs;
        clean = w.clean;
        writes = inl w.writes;
        counts =
            fault_counted c.args.file x y c.sync.result w.fails w.succeeds w.late;
        same = refl;
      };
    }
