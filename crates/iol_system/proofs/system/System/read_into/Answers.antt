use Rattle.std.proofs.Common.{length, min, ◌-◌, ◌^◌}
use Rattle.iol_kernel.specs.FileReads.{first_of}
use Rattle.iol_kernel.specs.Kernel.{state_of}
use Rattle.iol_system.proofs.FileEffects.{copies_does}
use Rattle.iol_system.proofs.Safe.{promises_kept}
use Rattle.iol_system.proofs.system.System.read_into.Goals as goal

pub returns : goal.returns
returns g c =
    let e = c.read.ensures in
    rw (← c.self.view_is) (record {
      step =
          promises_kept _ _ _ _ c.self.invariant
          (copies_does c.args.by c.args.fd (min (length c.args.out.now) (2 ^ 32 - 1))
          (g.B.Backing.disk c.self.inside.backing) (g.B.Backing.disk c.read.new.backing) (state_of c.self.inside.kernel)
          (state_of c.read.new.kernel) (first_of c.read.new.into c.read.result) e.serves e.copies);
      count = e.count;
      len = e.len;
      rest = e.rest;
      err = e.err;
      not_memory = e.not_memory;
    })

pub invariant_of-self : goal.invariant_of-self
invariant_of-self g c = (returns g c).step.safe
