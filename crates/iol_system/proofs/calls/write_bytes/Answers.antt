-- The effect of the call, from the kernel's contract.
use Rattle.std.proofs.Common.{refl}
use Rattle.iol_core.specs.declared.events.Call.TheVariants as call
use Rattle.iol_kernel.specs.Kernel.{state_of}
use Rattle.iol_system.proofs.Effects.{as_call}
use Rattle.iol_system.proofs.FileEffects.{puts_does}
use Rattle.iol_system.proofs.calls.write_bytes.Goals as goal

pub returns : goal.returns
returns c =
    λ disk. as_call refl c.count.ensures
    (puts_does c.args.by c.args.fd c.args.bytes.now disk (state_of c.args.kernel.now) (state_of c.write.new.kernel)
    c.write.result (c.write.ensures.serves disk) c.write.ensures.queue c.write.ensures.slices c.write.ensures.room
    c.write.ensures.no_room c.write.ensures.memory c.write.ensures.puts c.write.ensures.lays c.write.ensures.refused)
