use Rattle.std.proofs.Common.{◌∙◌}
use Rattle.flash_http.proofs.Digits.{number_parsed}
use Rattle.flash_http.proofs.ranges.parse_digits.Goals as goal

pub returns : goal.returns
returns c = c.ok.ensures.value ∙ number_parsed c.args.digits.now c.parse.result c.requires.digits c.requires.short
    c.parse.ensures.value.0
