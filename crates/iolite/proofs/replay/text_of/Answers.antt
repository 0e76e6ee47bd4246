use Rattle.std.proofs.Common.{ap, arith, length}
use Rattle.std.proofs.lemmas.Str.{IsUtf8-string_bytes}
use Rattle.iolite.proofs.replay.text_of.Goals as goal

-- a `String` is UTF-8
pub returns-in-Ok-clause-script : goal.returns-in-Ok-clause-script
returns-in-Ok-clause-script c =
    (omega (arith, ap (λ v. length v.items) c.in-Ok.ensures.ok), IsUtf8-string_bytes c.in-Ok.text)
