use Rattle.std.proofs.Common.{Some, subst}
use Rattle.iol_core.specs.declared.descriptors.Descriptor.{Descriptor}
use Rattle.iol_kernel.specs.Kernel.{state_of}
use Rattle.iol_kernel.specs.KernelState.{objects_of, IsOpenEnd}
use Rattle.iol_kernel.proofs.Connections.OneConnection.{open_conn-there}
use Rattle.iol_kernel.proofs.kernel.Kernel.denied_pool.Goals as goal

pub hidden_pool-requires : goal.hidden_pool-requires
hidden_pool-requires c =
    let h = state_of c.args.self.now in
    open_conn-there h.conns c.in-Connection.conn
    (subst (λ (x : Descriptor). IsOpenEnd (objects_of h) (Some x)) c.in-Connection.is c.requires)

pub hidden_file-requires : goal.hidden_file-requires
hidden_file-requires c =
    let h = state_of c.args.self.now in
    let is_open = subst (λ (x : Descriptor). IsOpenEnd (objects_of h) (Some x)) c.in-File.is c.requires in
    is_open.0
