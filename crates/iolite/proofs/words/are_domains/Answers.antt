use Rattle.std.proofs.Common.{◌≡◌, true, false, Bool, MatchBool, List, ℕ, length, lit<, arith, rules, tests}
use Rattle.std.specs.List.{All, AllWithin}
use Rattle.std.proofs.lemmas.Iterator.{cases_from_all}
use Rattle.std.proofs.lemmas.Iterator.Search.{true_from_All}
use Rattle.std.proofs.lemmas.Iterator.Splits.{YieldsList-from_str_split}
use Rattle.iolite.specs.Words.{IsShort}
use Rattle.iolite.specs.Calls.{parts_of}
use Rattle.iolite.proofs.words.are_domains.Goals as goal

all_if_true : (r : Bool) (xs : List (List ℕ)) (Q : Type 0) → MatchBool r (AllWithin IsShort xs 0 (length xs)) Q
    → r ≡ true → All IsShort xs
all_if_true true xs Q h e = λ k d lt. h k d (omega arith) lt
all_if_true false xs Q h e = cc

pub returns : goal.returns
returns c =
    let parts = parts_of c.args.word.now in
    let road = YieldsList-from_str_split {s = c.split.result} 44 c.args.word.now (lit< tt) c.split.ensures.text
    c.split.ensures.has_more c.split.ensures.pattern in
    let cases =
    cases_from_all _ _ c.all.result IsShort (λ w. ¬ (IsShort w)) c.all.ensures.ran road
    (λ x q k. search (rules, tests)) (λ x q k. search (rules, tests)) in (
      all_if_true c.all.result parts _ cases,
      true_from_All IsShort (λ w. ¬ (IsShort w)) c.all.result parts
          (λ x p q. q p) cases,
    )
