use Rattle.std.proofs.Common.{◌∙◌, Bool, ap, sym}
use Rattle.std.specs.Prelude.{◌&&◌}
use Rattle.iol_core.specs.State.{is_live}
use Rattle.std.specs.List.{list_all}
use Rattle.iol_kernel.specs.Kernel.{state_of, as_read}
use Rattle.iol_kernel.proofs.State.ReadOf.{all_live-read_of}
use Rattle.iol_kernel.proofs.kernel.Kernel.are_live.Goals as goal

pub returns-then-is_live : goal.returns-then-is_live
returns-then-is_live c = λ f.
    c.are_live.ensures
    ∙ all_live-read_of f (state_of c.args.self.now) c.args.list.now
    ∙ ap (λ (b : Bool). b && list_all (λ d. is_live (as_read f c.args.self.now) d) c.args.list.now)
    (sym c.if-is_live.true ∙ c.is_live.ensures f)
