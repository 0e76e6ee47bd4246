use Rattle.std.proofs.Common.{◌≡◌, sym, subst}
use Rattle.iol_core.specs.declared.descriptors.Descriptor.{Descriptor}
use Rattle.iol_core.specs.declared.descriptors.Descriptor.TheVariants as on
use Rattle.iol_kernel.specs.Kernel.{state_of}
use Rattle.iol_kernel.specs.ClosedEnds.{Closes, IsLetGo}
use Rattle.iol_kernel.specs.KernelState.{KernelState}
use Rattle.iol_kernel.proofs.Queues.ClosedEnds.{reader_closes, writer_closes}
use Rattle.iol_kernel.proofs.kernel.Kernel.close_end.Goals as goal

-- the same for an equal end
closed_as : (h k : KernelState) (x y : Descriptor) → x ≡ y → (IsLetGo h y → Closes y h k) → IsLetGo h x → Closes x h k
closed_as h k x y is closes free =
    subst (λ (z : Descriptor). Closes z h k) (sym is) (closes (subst (IsLetGo h) is free))

pub returns-in-ReadEnd : goal.returns-in-ReadEnd
returns-in-ReadEnd c =
    let h = state_of c.args.self.now in
    let w = c.close_reader.new in
    closed_as h (record h { store = w.store; pipes = w.self.places }) c.args.end (on.ReadEnd c.in-ReadEnd.pipe)
    c.in-ReadEnd.is (λ free. reader_closes h w.store w.self.places c.in-ReadEnd.pipe free c.close_reader.ensures)
    c.requires

pub returns-in-WriteEnd : goal.returns-in-WriteEnd
returns-in-WriteEnd c =
    let h = state_of c.args.self.now in
    let w = c.close_writer.new in
    closed_as h (record h { store = w.store; pipes = w.self.places }) c.args.end (on.WriteEnd c.in-WriteEnd.pipe)
    c.in-WriteEnd.is (λ free. writer_closes h w.store w.self.places c.in-WriteEnd.pipe free c.close_writer.ensures)
    c.requires
