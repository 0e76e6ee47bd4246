use Rattle.std.proofs.Common.{refl, subst}
use Rattle.iol_kernel.specs.Kernel.{state_of}
use Rattle.iol_system.specs.Machine.{SystemState, system_of}
use Rattle.iol_system.specs.Streams.{ServesReader}
use Rattle.iol_system.proofs.Streams.{arrived_comes, arrived_safe, refused_stays}
use Rattle.iol_system.proofs.system.System.arrive_from.Goals as goal

pub invariant_of-self : goal.invariant_of-self
invariant_of-self g c =
    let e = c.arrive_from.ensures in
    arrived_safe (state_of c.self.inside.kernel) (state_of c.arrive_from.new.self)
    (g.B.Backing.disk c.self.inside.backing) c.args.conn _ _ (g.R.Read.remaining c.args.reader.now)
    (g.R.Read.remaining c.arrive_from.new.reader) c.arrive_from.result c.self.invariant e.read e.refuses.err

pub returns : goal.returns
returns g c =
    let e = c.arrive_from.ensures in
    let old = state_of c.self.inside.kernel in
    let k = state_of c.arrive_from.new.self in
    let disk = g.B.Backing.disk c.self.inside.backing in
    let left = g.R.Read.remaining c.args.reader.now in
    let after = g.R.Read.remaining c.arrive_from.new.reader in
    subst (λ (s : SystemState). ServesReader c.args.conn c.args.max s (system_of k disk) c.args.reader.now
    c.arrive_from.new.reader left after c.arrive_from.result) c.self.view_is (record {
      refuses = e.refuses;
      brings = e.brings;
      read = arrived_comes old k disk c.args.conn left after c.arrive_from.result c.self.invariant e.read;
      err_machine = refused_stays old k disk _ _ c.arrive_from.result c.self.invariant e.refuses.err;
      disk = refl;
      safe = arrived_safe old k disk c.args.conn _ _ left after c.arrive_from.result c.self.invariant e.read
          e.refuses.err;
      stays = e.stays;
    })
