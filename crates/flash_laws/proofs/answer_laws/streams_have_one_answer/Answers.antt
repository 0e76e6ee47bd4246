use Rattle.flash_laws.proofs.Site.OneAnswer as answers
use Rattle.flash_laws.proofs.answer_laws.streams_have_one_answer.Goals as goal

pub returns : goal.returns
returns c = answers.one_answer c.one_answer.ensures
