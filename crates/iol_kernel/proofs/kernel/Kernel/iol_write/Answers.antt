use Rattle.std.proofs.Common.{[], ◌∙◌, Err, ap, sym, subst, Option, Some}
use Rattle.std.specs.Prelude.{OnOk}
use Rattle.iol_core.specs.Calls.Writes as calls
use Rattle.iol_core.specs.declared.descriptors.Descriptor.{Descriptor}
use Rattle.iol_kernel.specs.Kernel.{state_of}
use Rattle.iol_kernel.specs.Readings.{bytes_over}
use Rattle.iol_kernel.specs.AggregateWrites.{MayWriteAgg}
use Rattle.iol_kernel.specs.FileWrites.{WritesOn}
use Rattle.iol_kernel.specs.QueueSlices.{QueuesAgg}
use Rattle.iol_core.specs.State.{descriptor}
use Rattle.iol_kernel.specs.KernelState.{machine_of}
use Rattle.iol_kernel.proofs.State.CacheUntouched.{carried_serves}
use Rattle.iol_kernel.proofs.FileCalls.Overwrites.{queued_on, refused_on}
use Rattle.iol_kernel.proofs.Queues.QueueSlices.{on_file}
use Rattle.iol_kernel.proofs.kernel.Kernel.iol_write.Goals as goal

pub returns-in-Err : goal.returns-in-Err
returns-in-Err c =
    let h = state_of c.args.self.now in
    record {
      serves = carried_serves (λ s. calls.iol_write s c.args.by c.args.fd c.args.agg) h h (Err c.in-Err.refusal)
          c.requires c.in-Err.ensures.refused;
      writes =
          refused_on c.args.by c.args.fd c.args.agg h c.in-Err.refusal
          (descriptor (machine_of [] h) c.args.by c.args.fd) c.in-Err.ensures.refused;
      slices = λ no_file. tt;
    }

pub returns : goal.returns
returns c =
    let h = state_of c.args.self.now in
    let k = state_of c.push.new.self in
    let open' = sym (c.in-Ok.ensures.may.held.from (bytes_over [] h.store)) in
    record {
      serves = carried_serves (λ s. calls.iol_write s c.args.by c.args.fd c.args.agg) h k c.push.result c.requires
          c.push.ensures.carries;
      writes = subst (λ (o : Option Descriptor). WritesOn c.args.by c.args.fd c.args.agg o h c.push.result k) open'
          (queued_on c.args.by c.args.fd c.args.agg h k c.push.result c.in-Ok.to c.in_default.not-File
          c.push.ensures.carries);
      slices = λ no_file. subst (λ (o : Option Descriptor). OnOk c.push.result (QueuesAgg c.args.by c.args.agg o h k))
          open' c.push.ensures.slices;
    }

pub returns-in-File : goal.returns-in-File
returns-in-File c =
    let h = state_of c.args.self.now in
    let k = state_of c.write_over.new.self in
    let on' = c.in-Ok.ensures.may.held.from (bytes_over [] h.store) ∙ ap (λ (x : Descriptor). Some x) c.in-File.is in
    record {
      serves = c.write_over.ensures.serves;
      writes = subst (λ (o : Option Descriptor). WritesOn c.args.by c.args.fd c.args.agg o h c.write_over.result k)
          (sym on') c.write_over.ensures.over;
      slices = on_file on';
    }

pub write_over-requires : goal.write_over-requires
write_over-requires c =
    subst (λ (x : Descriptor). MayWriteAgg c.args.by c.args.fd c.args.agg x (state_of c.args.self.now)) c.in-File.is
    c.in-Ok.ensures.may
