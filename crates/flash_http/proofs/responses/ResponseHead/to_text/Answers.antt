use Rattle.std.proofs.Common.{rules}
use Rattle.flash_http.proofs.responses.ResponseHead.to_text.Goals as goal

pub returns : goal.returns
returns c =
    rw (← c.as_str-media_type.ensures, ← c.allow_line-allow.ensures, ← c.connection_line-connection.ensures)
    (search rules)
