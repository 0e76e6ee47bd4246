use Rattle.flash_http.specs.Views.{reading}
use Rattle.flash_http.proofs.HeadLemmas.{asked_of, looked_at}
use Rattle.flash_http.proofs.heads.read_head.Goals as goal

pub returns-in-Ok-Complete : goal.returns-in-Ok-Complete
returns-in-Ok-Complete c = record {
  answer = asked_of c.args.head.now (reading c.parts_of.result) c.ask.result c.parts_of.ensures c.ask.ensures.answer;
  memory = looked_at c.args.head.now (reading c.parts_of.result) c.ask.result c.parts_of.ensures c.ask.ensures.memory
      c.ask.ensures.fragment;
}
