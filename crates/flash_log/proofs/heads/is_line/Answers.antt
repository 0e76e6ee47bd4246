use Rattle.std.proofs.Common.{◌≡◌, ◌≢◌, ◌++◌, List, ℕ, Some, None, subst}
use Rattle.std.proofs.lemmas.Bool.Decides.{Decides-eqb}
use Rattle.std.proofs.lemmas.Slice.Eq.{strip_suffix_is}
use Rattle.flash_log.proofs.HeadLemmas.{is_no_line, is_this_line}
use Rattle.flash_log.proofs.heads.is_line.Goals as goal

pub returns-in-Some : goal.returns-in-Some
returns-in-Some c =
    is_this_line c.args.line.now c.in-Some.text.now c.args.wanted.now _
    (subst (λ (end : List ℕ). c.args.line.now ≡ c.in-Some.text.now ++ end) c.as_slice.ensures
    (strip_suffix_is Decides-eqb c.args.line.now c.as_slice.result.now (Some c.in-Some.text) c.in-Some.ensures.cases))
    c.eq.ensures

pub returns-in-None : goal.returns-in-None
returns-in-None c =
    is_no_line c.args.line.now c.args.wanted.now
    (subst (λ (end : List ℕ). (front : List ℕ) → c.args.line.now ≢ front ++ end) c.as_slice.ensures
    (strip_suffix_is Decides-eqb c.args.line.now c.as_slice.result.now None c.in-None.ensures.cases))
