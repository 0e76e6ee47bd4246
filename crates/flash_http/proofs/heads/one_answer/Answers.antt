use Rattle.flash_http.proofs.OneAnswer.{one_answer}
use Rattle.flash_http.proofs.heads.one_answer.Goals as goal

pub returns : goal.returns
returns c = one_answer
