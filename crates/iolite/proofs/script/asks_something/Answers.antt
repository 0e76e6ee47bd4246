use Rattle.std.proofs.Common.{◌≡◌, ◌↔◌, Bool, subst, sym, true}
use Rattle.iolite.specs.Script.{AsksSomething}
use Rattle.iolite.proofs.Requests.{asks_if_read}
use Rattle.iolite.proofs.script.asks_something.Goals as goal

pub returns : goal.returns
returns c =
    subst (λ (b : Bool). (b ≡ true) ↔ AsksSomething c.args.line.now) (sym c.is_some.ensures)
    (asks_if_read c.read_line-asked.result c.args.line.now c.read_line-asked.ensures.some
    c.read_line-asked.ensures.none)
