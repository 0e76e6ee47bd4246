use Rattle.std.proofs.Common.{inl, inr, ℕ, List, rules, subst, string_bytes}
use Rattle.std.specs.Prelude.{OnOk}
use Rattle.iolite.specs.Answers.{Begun, BegunWhole, Replayed}
use Rattle.iolite.proofs.ScriptAnswers.{bad_given, bad_input, bad_text, of_given, on_given}
use Rattle.iolite.proofs.replay.replay.Goals as goal

pub returns-in-Err : goal.returns-in-Err
returns-in-Err g c = record {
  untouched = search (rules);
  ok = search (rules);
  bad = bad_input _ (g.R.Read.remaining c.args.input.now) _ c.in-Err.ensures.error c.in-Err.ensures.bad;
  begun = search (rules);
  whole = search (rules);
  replayed = search (rules);
}

pub returns-in-Ok : goal.returns-in-Ok
returns-in-Ok g c =
    let given = g.R.Read.remaining c.args.input.now in
    let held = g.W.Write.contents c.args.output.now in
    let holds = g.W.Write.contents c.replay_text.new.output in
    let text = string_bytes c.in-Ok.text in
    let e = c.replay_text.ensures in
    let is = c.as_str.ensures.value in
    record {
      untouched = e.untouched;
      ok = search (rules);
      bad =
          bad_given c.replay_text.result given text c.in-Ok.ensures.whole
          (subst (λ (t : List ℕ). bad_text c.replay_text.result t) is e.bad);
      begun = elim e.begun [
        | inl same ↦ inl same
        | inr begun ↦
            inr (of_given (λ (t : List ℕ). Begun t held holds) given text c.in-Ok.ensures.whole
            (subst (λ (t : List ℕ). Begun t held holds) is begun))
      ];
      whole = λ wants. elim (e.whole wants) [
        | inl same ↦ inl same
        | inr begun ↦
            inr (of_given (λ (t : List ℕ). BegunWhole t held holds) given text c.in-Ok.ensures.whole
            (subst (λ (t : List ℕ). BegunWhole t held holds) is begun))
      ];
      replayed = on_given c.replay_text.result (λ (t : List ℕ). Replayed t held holds) given text c.in-Ok.ensures.whole
          (subst (λ (t : List ℕ). OnOk c.replay_text.result (Replayed t held holds)) is e.replayed);
    }
