-- The list that is held is the one that was given.
use Rattle.std.proofs.Common.{ℕ, List, inl, subst}
use Rattle.iol_core.specs.declared.events.Call.TheVariants as call
use Rattle.iol_core.specs.declared.events.Reply.TheVariants as reply
use Rattle.iol_api.specs.Typed.{Answers}
use Rattle.iol_api.proofs.domain.Domain.file_new.Goals as goal

pub returns : goal.returns
returns g c =
    inl
    (subst (λ (b : List ℕ). Answers reply.File c.args.self.now (call.FileNew b c.args.pool) c.new_file.result
    c.new_file.new.self) c.in_ok-name.ensures c.new_file.ensures)
