use Rattle.std.proofs.Common.{◌∙◌, ap, List}
use Rattle.iol_hold.specs.declared.slices.Slice.{Slice}
use Rattle.iol_pool.specs.Pools.{Pool}
use Rattle.iol_kernel.specs.Denials.{pool_hidden}
use Rattle.iol_kernel.specs.Kernel.{state_of}
use Rattle.iol_kernel.proofs.AggregateCalls.BarredBytes.{hidden_barred}
use Rattle.iol_kernel.proofs.kernel.Kernel.first_denied.Goals as goal

pub returns : goal.returns
returns c = λ f keeps.
    c.first_hidden.ensures
    ∙ ap (λ (ps : List Pool). pool_hidden ps c.args.to c.slices.result.now) c.pools.ensures
    ∙ ap (λ (xs : List Slice). pool_hidden c.args.self.now.store.pools c.args.to xs) c.slices.ensures
    ∙ hidden_barred f keeps (state_of c.args.self.now) c.args.to c.args.found.now
