-- The list that is held is the one that was given.
use Rattle.std.proofs.Common.{ℕ, List, inl, subst}
use Rattle.iol_core.specs.declared.events.Call.TheVariants as call
use Rattle.iol_core.specs.declared.events.Reply.TheVariants as reply
use Rattle.iol_api.specs.Typed.{Answers}
use Rattle.iol_api.proofs.domain.Domain.open_file.Goals as goal

pub returns : goal.returns
returns g c =
    inl
    (subst (λ (b : List ℕ). Answers reply.Fd c.args.self.now (call.OpenFile b c.args.mode) c.open_named.result
    c.open_named.new.self) c.in_ok-name.ensures c.open_named.ensures)
