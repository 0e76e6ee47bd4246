use Rattle.flash_http.proofs.SelectionLaws.{selected-within}
use Rattle.flash_http.proofs.ranges.selections_lie_within.Goals as goal

pub returns : goal.returns
returns c = selected-within
