use Rattle.std.proofs.Common.{refl}
use Rattle.iol_kernel.specs.Kernel.{state_of}
use Rattle.iol_system.proofs.Safe.{started_safe}
use Rattle.iol_system.proofs.system.System.new.Goals as goal

pub invariant_of-result : goal.invariant_of-result
invariant_of-result g c =
    started_safe (state_of c.in_ok-kernel.kernel) (g.B.Backing.disk c.args.backing) c.in_ok-kernel.ensures.sound
    c.in_ok-kernel.ensures.new

pub returns : goal.returns
returns g c =
    let e = c.in_ok-kernel.ensures in
    let disk = g.B.Backing.disk c.args.backing in
    record {
      range = (λ bad. absurd (cc bad), λ out. absurd (cc (e.range.1 out)));
      errors = tt;
      new = e.new disk.slots;
      disk = refl;
      entries = e.entries;
      taken = e.taken;
      limit = e.limit;
      sums = e.sums;
      sum_limit = e.sum_limit;
      orders = e.orders;
      safe = started_safe (state_of c.in_ok-kernel.kernel) disk e.sound e.new;
    }
