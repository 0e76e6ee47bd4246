use Rattle.std.proofs.Common.{rules}
use Rattle.flash_http.proofs.Digits.{digits_are_text}
use Rattle.flash_http.proofs.ranges.number_of.Goals as goal

pub returns-in-Err : goal.returns-in-Err
returns-in-Err c = absurd (c.in-Err.ensures.cases.0 (digits_are_text c.args.digits.now (search rules)))
