use Rattle.std.proofs.Common.{map, string_bytes, subst, sym}
use Rattle.iolite.specs.Commands.{IsCommand}
use Rattle.iolite.specs.Reads.{Reads}
use Rattle.iolite.proofs.FourWords.{four}
use Rattle.iolite.proofs.commands.read_command.Goals as goal

pub returns-in-len4 : goal.returns-in-len4
returns-in-len4 c =
    let is = four c.args.words.now _ _ _ _ c.in-len4.len_at_least c.in-len4.len_below c.name-item-then-words-lt5.is
    c.port-item.is c.root-item-then-words-lt5.is c.count-item.is in
    subst (λ ws. Reads (IsCommand (map string_bytes ws)) c.read_serve.result) (sym is)
    (rw (
      c.as_str-in-len4.ensures.value,
      c.as_str-in-len4-2.ensures.value,
      c.as_str-in-len4-3.ensures.value,
      c.as_str-in-len4-4.ensures.value,
    ) at c.read_serve.ensures)
