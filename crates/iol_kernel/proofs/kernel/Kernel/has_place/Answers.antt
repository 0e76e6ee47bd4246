use Rattle.std.proofs.Common.{ap, rules, sym}
use Rattle.iol_core.specs.Calls.Pools.{has_place}
use Rattle.iol_kernel.specs.Kernel.{state_of}
use Rattle.iol_kernel.proofs.State.ReadOf.{list-read_of}
use Rattle.iol_kernel.proofs.kernel.Kernel.has_place.Goals as goal

pub returns : goal.returns
returns c =
    λ f. (let same = sym (ap (λ list. has_place list c.args.d) (list-read_of f (state_of c.args.self.now) c.args.p)) in
    search (rules, same))
