use Rattle.std.proofs.Common.{◌≡◌, true, sym, ◌∙◌}
use Rattle.iolite.proofs.Requests.{bad_header}
use Rattle.iolite.proofs.script.Judged.add_line.Goals as goal

pub returns-then-is_header-clause-bad : goal.returns-then-is_header-clause-bad
returns-then-is_header-clause-bad c = λ bad.
    bad_header c.args.self.now.setup (c.args.self.now.has_asked ≡ true) c.args.line.now _ _ c.split_word.ensures.word
    c.split_word.ensures.rest (sym c.is_header.ensures ∙ c.if-is_header.true) (c.add.ensures.none bad)
