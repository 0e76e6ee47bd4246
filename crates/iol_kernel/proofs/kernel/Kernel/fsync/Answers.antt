use Rattle.std.proofs.Common.{[], Option, ap, subst, sym}
use Rattle.std.specs.Prelude.{option_map, unwrap_or}
use Rattle.iol_core.specs.Calls.Files.{file_on, open_on}
use Rattle.iol_core.specs.declared.descriptors.Descriptor.{Descriptor}
use Rattle.iol_kernel.specs.Kernel.{state_of}
use Rattle.iol_kernel.specs.KernelState.{machine_of}
use Rattle.iol_kernel.specs.Readings.{bytes_over}
use Rattle.iol_kernel.specs.WriteBack.{SyncsFile}
use Rattle.iol_kernel.proofs.FileCalls.Faults.{refused_sync}
use Rattle.iol_kernel.proofs.FileCalls.Positions.{fsync_refused, no_fault}
use Rattle.iol_kernel.proofs.kernel.Kernel.fsync.Goals as goal

pub returns-in-Err : goal.returns-in-Err
returns-in-Err g c =
    let h = state_of c.args.self.now in
    let disk = g.B.Backing.disk c.args.backing.now in
    let first = c.in-Err.ensures.refused (bytes_over [] h.store) in
    record {
      serves = fsync_refused disk h c.args.by c.args.fd c.in-Err.refusal c.requires first;
      syncs =
          refused_sync (file_on (machine_of [] h) c.args.by c.args.fd) disk h c.in-Err.refusal
          (no_fault disk h c.args.by c.args.fd c.in-Err.refusal c.requires first);
    }

pub returns : goal.returns
returns g c =
    let h = state_of c.args.self.now in
    let x = g.B.Backing.disk c.args.backing.now in
    let y = g.B.Backing.disk c.sync.new.backing in
    record {
      serves = c.sync.ensures.serves;
      syncs =
          subst (λ n. SyncsFile n x h c.sync.result y (state_of c.sync.new.self))
          (sym (ap (λ (o : Option Descriptor). unwrap_or (option_map (λ x. x.0) (open_on o)) 0)
          (c.in-Ok.ensures.found.held.from (bytes_over [] h.store)))) c.sync.ensures.syncs;
    }
