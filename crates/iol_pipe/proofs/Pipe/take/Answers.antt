use Rattle.std.proofs.Common.{take, ◌∙◌, refl}
use Rattle.iol_hold.specs.Places.{places}
use Rattle.iol_pipe.proofs.Parts.{take_while-any, left_behind}
use Rattle.iol_pipe.proofs.Pipe.take.Goals as goal

pub returns-clause-cuts : goal.returns-clause-cuts
returns-clause-cuts c =
    let t = c.in_ok-take_off.ensures.takes in
    let given = t.taken ∙ take_while-any c.args.store.now (take c.args.n (places c.args.self.now)) in
    record {
      given = given;
      cut = t.cut refl;
      few = t.few;
      left = t.left;
      rest =
          left_behind c.args.n (places c.in_ok-take_off.field-0) (places c.take_off.new.self) (places c.args.self.now)
          t.whole given;
      shares = t.shares;
    }
