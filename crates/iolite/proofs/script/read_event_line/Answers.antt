use Rattle.std.proofs.Common.{refl}
use Rattle.iolite.specs.Outside.{event_of}
use Rattle.iolite.proofs.Requests.{event_here, event_there}
use Rattle.iolite.proofs.script.read_event_line.Goals as goal

pub returns-in-Some : goal.returns-in-Some
returns-in-Some c = record {
  some = (
    event_of c.in-Some.event,
    event_here _ _ _ _ _ c.split_word.ensures.word c.split_word.ensures.rest
        c.in-Some.ensures.some,
    refl,
  );
  can = c.in-Some.ensures.can;
  none = λ e. absurd (cc e);
}

pub returns-in-None : goal.returns-in-None
returns-in-None c = record {
  some = tt;
  can = tt;
  none =
      λ none x asks. c.in-None.ensures.none refl asks.0
      (event_there _ _ _ _ _ c.split_word.ensures.word c.split_word.ensures.rest asks.1);
}
