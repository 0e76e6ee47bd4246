-- The results of a script's lines, extended by one.
use Rattle.std.proofs.Common.{◌≡◌, ◌∙◌, inl, inr, true, ℕ, List, [], ◌∷◌, ◌++◌, All, Result, Ok, Err, IfErr, OnOk}
use Rattle.std.proofs.Common.{IfSome, refl, sym, ap, subst, append_assoc, arith}
use Rattle.std.specs.Io.KnownBytes.{Appends}
use Rattle.std.specs.declared.option.Option.{Option}
use Rattle.std.proofs.lemmas.List.{append-nil}
use Rattle.std.proofs.lemmas.List.Concat.{flat_map-append}
use Rattle.std.proofs.lemmas.List.Elements.{All-head, All-tail}
use Rattle.std.proofs.lemmas.Option.{IfSome_then}
use Rattle.iol_system.specs.Machine.{SystemState}
use Rattle.iolite.specs.declared.failure.Failure.{Failure}
use Rattle.iolite.specs.declared.failure.Failure.TheVariants.{BadLine, BadScript, Input, Memory, Output}
use Rattle.iolite.specs.declared.script.Line.{Line}
use Rattle.iolite.specs.declared.replay.Answer.{Answer}
use Rattle.iolite.specs.declared.setup.Setup.{Setup}
use Rattle.iolite.specs.Answers.{Answering, AnswersLine, AreAnswers, Begun, BegunWhole, EndsWanting, EndsWithin}
use Rattle.iolite.specs.Answers.{IsAnswer, IsNew, LosesFirst, Replayed, WritesTo}
use Rattle.iolite.specs.Failure.{IsOfAnswers, IsOfInput, status_of}
use Rattle.iolite.specs.PrintedText.{answer_text, lines_of, newline}
use Rattle.iolite.specs.Script.{AskInOrder, AsksSomething, HasBadLine, IsBadScript, IsJudged, IsScriptText, asking}
use Rattle.iolite.specs.Script.{commands, is_asking, lines, without_blank}
use Rattle.iolite.proofs.Appends.{Appends-more, Appends-none}
use Rattle.iolite.proofs.ScriptWords.{AskInOrder-push, commands-append, is_asking-yes}

AreAnswers-push : (old mid new : SystemState) (ls : List Line) (rs : List Answer) (l : Line) (r : Answer)
    → AreAnswers old ls rs mid → IsAnswer mid l r new → AreAnswers old (ls ++ l ∷ []) (rs ++ r ∷ []) new
AreAnswers-push old mid new [] [] l r answers next =
    (new, subst (λ (h : SystemState). IsAnswer h l r new) answers next, refl)
AreAnswers-push old mid new (a ∷ ls) (b ∷ rs) l r answers next =
    (answers.0, answers.1, AreAnswers-push answers.0 mid new ls rs l r answers.2 next)
AreAnswers-push old mid new [] (b ∷ rs) l r answers next = absurd answers
AreAnswers-push old mid new (a ∷ ls) [] l r answers next = absurd answers

lines_of-push : (answers : List Answer) (a : Answer) → lines_of (answers ++ a ∷ []) ≡ lines_of answers
    ++ (answer_text a ++ newline)
lines_of-push answers a =
    flat_map-append (λ x. answer_text x ++ newline) answers (a ∷ [])
    ∙ ap (λ ys. lines_of answers ++ ys) (append-nil (answer_text a ++ newline))

-- before the first line
pub Answering-none : (s : SystemState) (known : Option (List ℕ)) (pending : List ℕ) → pending ≡ []
    → Answering [] s s known known pending
Answering-none s known pending none = record {
  asked = [];
  answers = [];
  asks = tt;
  each = refl;
  printed = [];
  all = sym none;
  appended = Appends-none known;
}

module _ (ls : List (List ℕ)) (start mid end : SystemState) (old known : Option (List ℕ)) (pending : List ℕ)
    (l : List ℕ) where
  -- one more line with its answer
  pub Answering-line : (text : List ℕ) → Answering ls start mid old known pending → is_asking l ≡ true
      → AnswersLine l mid end text → Answering (ls ++ l ∷ []) start end old known (pending ++ text)
  Answering-line text so asks next =
      let e : asking (without_blank (ls ++ l ∷ [])) ≡ asking (without_blank ls) ++ l ∷ [] = commands-append ls (l ∷ [])
      ∙ ap (λ ys. asking (without_blank ls) ++ ys) (is_asking-yes l asks) in
      let reported = answer_text next.answer ++ newline in record {
        asked = so.asked ++ next.line ∷ [];
        answers = so.answers ++ next.answer ∷ [];
        asks =
            subst (λ ys. AskInOrder ys (so.asked ++ next.line ∷ [])) (sym e)
            (AskInOrder-push (asking (without_blank ls)) so.asked l next.line so.asks next.asks);
        each = AreAnswers-push start mid end so.asked so.answers next.line next.answer so.each next.answered;
        printed = so.printed;
        all = lines_of-push so.answers next.answer
            ∙ (ap (λ ys. ys ++ reported) so.all
            ∙ (append_assoc so.printed pending reported ∙ ap (λ ys. so.printed ++ (pending ++ ys)) (sym next.is)));
        appended = so.appended;
      }

module _ (ls : List (List ℕ)) (start end : SystemState) (old known new : Option (List ℕ)) (pending : List ℕ) where
  -- the pending output is written, or a beginning of it
  pub Answering-written : (left : List ℕ) → Answering ls start end old known pending → WritesTo known new pending left
      → Answering ls start end old new left
  Answering-written left so writes = record {
    asked = so.asked;
    answers = so.answers;
    asks = so.asks;
    each = so.each;
    printed = so.printed ++ writes.front;
    all = so.all ∙ (ap (λ ys. so.printed ++ ys) writes.all ∙ sym (append_assoc so.printed writes.front left));
    appended = Appends-more old known new so.printed writes.front so.appended writes.written;
  }

-- the lines answered so far are a beginning of all lines
pub EndsWithin-here : (all front rest : List (List ℕ)) (start end : SystemState) (old new : Option (List ℕ))
    (left : List ℕ) → all ≡ front ++ rest → Answering front start end old new left → EndsWithin all start old new
EndsWithin-here all front rest start end old new left begins so =
    record { front = front; rest = rest; begins = begins; end = end; left = left; answering = so }

-- if memory ran out for the next line, the lines with printed answers are a beginning of all lines
pub EndsWanting-here : (all front rest : List (List ℕ)) (start before end : SystemState) (old new : Option (List ℕ))
    → all ≡ front ++ rest → Answering front start before old new [] → LosesFirst rest before end
    → EndsWanting all start end old new
EndsWanting-here all front rest start before end old new begins so lost =
    record { front = front; rest = rest; begins = begins; before = before; answering = so; lost = lost }

-- no line had an effect
pub LosesFirst-none : (ls : List (List ℕ)) (s : SystemState) → LosesFirst ls s s
LosesFirst-none [] s = refl
LosesFirst-none (l ∷ ls) s = inl refl

All-middle : (P : List ℕ → Type 0) (xs ys : List (List ℕ)) (y : List ℕ) → All P (xs ++ y ∷ ys) → P y
All-middle P [] ys y each = All-head P y ys each
All-middle P (x ∷ xs) ys y each = All-middle P xs ys y (All-tail P x (xs ++ y ∷ ys) each)

-- the next line of a script, if it is a request, has an action
pub asks_at : (all front rest : List (List ℕ)) (l : List ℕ) → all ≡ front ++ l ∷ rest → is_asking l ≡ true
    → All AsksSomething (asking (without_blank all)) → AsksSomething l
asks_at all front rest l e asks each =
    let here : asking (without_blank all) ≡ asking (without_blank front) ++ (l ∷ asking (without_blank rest)) =
    ap (λ ys. asking (without_blank ys)) e
    ∙ (commands-append front (l ∷ rest)
    ∙ ap (λ ys. asking (without_blank front) ++ ys) (commands-append (l ∷ []) rest
    ∙ ap (λ ys. ys ++ asking (without_blank rest)) (is_asking-yes l asks))) in
    All-middle AsksSomething (asking (without_blank front)) (asking (without_blank rest)) l
    (subst (All AsksSomething) here each)

-- ---- The output printed for a script

pub begun_by : (text : List ℕ) (setup : Setup) (start : SystemState) (old new : Option (List ℕ))
    → IsJudged (commands text) setup → IsNew setup start → EndsWithin (lines text) start old new → Begun text old new
begun_by text setup start old new judged is_new ends =
    let so = ends.answering in record {
      setup = setup;
      judged = judged;
      front = asking (without_blank ends.front);
      rest = asking (without_blank ends.rest);
      begins = ap (λ ys. asking (without_blank ys)) ends.begins ∙ commands-append ends.front ends.rest;
      asked = so.asked;
      asks = so.asks;
      answers = so.answers;
      answered = record { start = start; end = ends.end; new = is_new; each = so.each };
      printed = so.printed;
      left = ends.left;
      all = so.all;
      appended = so.appended;
    }

-- if memory ran out at a line, each earlier answer was printed
pub whole_by : (text : List ℕ) (setup : Setup) (start end : SystemState) (old new : Option (List ℕ))
    → IsJudged (commands text) setup → IsNew setup start → EndsWanting (lines text) start end old new
    → BegunWhole text old new
unfolding begun_by EndsWithin-here
whole_by text setup start end old new judged is_new ends =
    let within = EndsWithin-here (lines text) ends.front ends.rest start ends.before old new [] ends.begins
    ends.answering in
    record { begun = begun_by text setup start old new judged is_new within; whole = refl }

Replayed-from : (text : List ℕ) (setup : Setup) (start end : SystemState) (old new : Option (List ℕ))
    → IsJudged (commands text) setup → IsNew setup start → Answering (lines text) start end old new []
    → Replayed text old new
Replayed-from text setup start end old new judged is_new so = record {
  setup = setup;
  asked = so.asked;
  answers = so.answers;
  says = record {
    headers = judged.headers;
    all = judged.all;
    start = judged.start;
    default = judged.default;
    set_up = judged.set_up;
    asks = so.asks;
  };
  answered = record { start = start; end = end; new = is_new; each = so.each };
  printed = subst (Appends old new) (sym (so.all ∙ append-nil so.printed)) so.appended;
}

pub replayed_by : {A E : Type 0} (r : Result A E) (text : List ℕ) (setup : Setup) (start end : SystemState)
    (old new : Option (List ℕ)) → IsJudged (commands text) setup → IsNew setup start
    → OnOk r (Answering (lines text) start end old new []) → OnOk r (Replayed text old new)
replayed_by (Ok u) text setup start end old new judged is_new so =
    Replayed-from text setup start end old new judged is_new so
replayed_by (Err x) text setup start end old new judged is_new so = so

-- a property of the text is one of the given bytes
pub of_given : (P : List ℕ → Type 0) (known : Option (List ℕ)) (text : List ℕ) → IfSome known (λ given. text ≡ given)
    → P text → IfSome known P
of_given P known text whole holds = IfSome_then known whole (λ given e. subst P e holds)

pub on_given : {A E : Type 0} (r : Result A E) (P : List ℕ → Type 0) (known : Option (List ℕ)) (text : List ℕ)
    → IfSome known (λ given. text ≡ given) → OnOk r (P text) → OnOk r (IfSome known P)
on_given (Ok u) P known text whole holds = of_given P known text whole holds
on_given (Err x) P known text whole holds = holds

-- the same for the given bytes
abbrev pub bad_text : {A : Type 0} → Result A Failure → List ℕ → Type 0
bad_text r text = IfErr r (λ failure. status_of failure ≡ 2 → HasBadLine (commands text))

pub bad_given : {A : Type 0} (r : Result A Failure) (known : Option (List ℕ)) (text : List ℕ)
    → IfSome known (λ given. text ≡ given) → bad_text r text
    → IfErr r (λ failure. status_of failure ≡ 2 → IfSome known IsBadScript)
bad_given (Ok u) known text whole bad = bad
bad_given (Err failure) known text whole bad = λ status. of_given IsBadScript known text whole (inr (bad status))

pub bad_input : (A : Type 0) (known : Option (List ℕ)) (failure : Failure) → IsOfInput failure
    → (◌≡◌ {A = Result A Failure} (Err failure) (Err BadScript) → IfSome known (λ given. ¬ (IsScriptText given)))
    → status_of failure ≡ 2 → IfSome known IsBadScript
bad_input A known BadScript of bad status = IfSome_then known (bad refl) (λ given none. inl none)
bad_input A known (BadLine number) of bad status = absurd of
bad_input A known Input of bad status = absurd (omega (arith, status))
bad_input A known Output of bad status = absurd of
bad_input A known Memory of bad status = absurd (omega (arith, status))

-- an error while lines are answered never has status 2
not_bad : (P : Type 0) (failure : Failure) → IsOfAnswers failure → status_of failure ≡ 2 → P
not_bad P BadScript of status = absurd of
not_bad P (BadLine number) of status = absurd of
not_bad P Input of status = absurd of
not_bad P Output of status = absurd (omega (arith, status))
not_bad P Memory of status = absurd (omega (arith, status))

pub never_bad : {A : Type 0} (r : Result A Failure) (P : Type 0) → IfErr r IsOfAnswers
    → IfErr r (λ failure. status_of failure ≡ 2 → P)
never_bad (Ok u) P of = tt
never_bad (Err failure) P of = not_bad P failure of

pub then_on_ok : {A E P Q : Type 0} (r : Result A E) → (P → Q) → OnOk r P → OnOk r Q
then_on_ok (Ok u) so holds = so holds
then_on_ok (Err e) so holds = tt
