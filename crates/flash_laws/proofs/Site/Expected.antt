-- The expected response is possible, given the known results.
use Rattle.std.proofs.Common.{inl, inr, ◌≡◌, ℕ, List, [], ◌∷◌, ◌++◌, ap, ◌∙◌, refl, sym, subst, Option, Some, None}
use Rattle.std.proofs.Common.{true, false, Bool}
use Rattle.std.specs.Prelude.{is_some, if◌then◌else◌}
use Rattle.iol_core.specs.State.{State}
use Rattle.flash_http.specs.Request.{Answer, serve, refuse, Wanted}
use Rattle.flash_cgi.specs.Outcomes.{outcome_in, outcomes_in}
use Rattle.flash_cgi.specs.Output as script
use Rattle.flash_cgi.specs.Output.{output}
use Rattle.flash_cgi.specs.Script.{script_of}
use Rattle.flash_cgi.specs.declared.line.Line.{Line}
use Rattle.flash_cgi.specs.declared.line.Line.TheVariants as line
use Rattle.flash_laws.specs.Answers.{Outcome, Found, Failed, outcome_of, SiteContents as Files}
use Rattle.flash_laws.specs.Answers.{expected_to as file_expected}
use Rattle.flash_laws.specs.SiteContents.{SiteContents, expected_to, AllMayShow, MayRun, MayAnswerText, MayGive}
use Rattle.flash_laws.specs.SiteContents.{MayBeExpected}
use Rattle.iol_core.specs.declared.refusals.Refusal.{Refusal}
use Rattle.flash_laws.specs.Conn.{status_of, text_of}
use Rattle.flash_laws.specs.declared.phase.Payload.TheVariants.{Error}
use Rattle.flash_laws.specs.Client.{Client, is_for_script}
use Rattle.flash_laws.specs.Client.Fits.{IsScript, made_of, response_to}
use Rattle.flash_laws.specs.SiteContents.Expected.{ExpectedMayCome, Seen, expected, expected_if, expected_of_run}
use Rattle.flash_laws.specs.SiteContents.Expected.{expected_of_script, expected_of_text, outcomes_by}
use Rattle.flash_laws.specs.Client.ResponseState.{Known, OfFile, OfScript, of_text, MayAnswer, MaySendOutput}
use Rattle.flash_laws.specs.Run.Fits.{Ran, Follows, nothing_yet}
use Rattle.flash_laws.specs.Answers.Scripts.{script_response}

file : (scripts : Bool) (site_contents : Files) (seen : Seen) (q : Answer) → is_for_script scripts q ≡ false
    → expected scripts site_contents seen q ≡ file_expected site_contents q
file scripts site_contents seen q is = ap (λ b. expected_if b site_contents seen q) is

-- the expected response to a request for a script, by the outcome for its name
expected_found : (scripts : Bool) (site_contents : Files) (seen : Seen) (w : Wanted) (o : Outcome)
    → is_for_script scripts (serve w) ≡ true → site_contents w.name ≡ o
    → expected scripts site_contents seen (serve w) ≡ expected_of_script seen w o
expected_found scripts site_contents seen w o is found = ap (λ b. expected_if b site_contents seen (serve w)) is
    ∙ ap (λ x. expected_of_script seen w x) found

-- the expected response is possible before the script runs
may_run : (seen : Seen) (w : Wanted) (lines : List Line) (head_only : Bool)
    → MaySendOutput head_only w nothing_yet (expected_of_run head_only seen w lines)
may_run seen w lines true = refl
may_run seen w lines false = (output w.query lines (outcomes_by seen lines), tt, refl)

-- the known part of the response, by the lines of the text: without lines it is the error 500
abbrev of_option : (text : List ℕ) → Option (List Line) → Known
of_option text o = if is_some o then OfScript text nothing_yet else OfFile (Failed 500)

may_read : (seen : Seen) (w : Wanted) (text : List ℕ)
    → MayAnswer (serve w) (of_text text) (expected_of_text seen w (script_of text))
may_read seen w text = by (script_of text) refl
  where
    by : (o : Option (List Line)) → script_of text ≡ o
        → MayAnswer (serve w) (of_text text) (expected_of_text seen w (script_of text))
    by None is = subst (λ (x : Option (List Line)). MayAnswer (serve w) (of_option text x) (expected_of_text seen w x))
        (sym is) refl
    by (Some lines) is =
        subst (λ (x : Option (List Line)). MayAnswer (serve w) (of_option text x) (expected_of_text seen w x)) (sym is)
        (may_run seen w lines w.head_only)

read : (scripts : Bool) (site_contents : Files) (seen : Seen) (w : Wanted) (text : List ℕ)
    → is_for_script scripts (serve w) ≡ true → site_contents w.name ≡ Found text
    → MayAnswer (serve w) (of_text text) (expected scripts site_contents seen (serve w))
read scripts site_contents seen w text is found =
    subst (λ (r : List ℕ). MayAnswer (serve w) (of_text text) r)
    (sym (expected_found scripts site_contents seen w (Found text) is found)) (may_read seen w text)

unread : (scripts : Bool) (site_contents : Files) (seen : Seen) (w : Wanted) (status : ℕ)
    → is_for_script scripts (serve w) ≡ true → site_contents w.name ≡ Failed status
    → MayAnswer (serve w) (OfFile (Failed status)) (expected scripts site_contents seen (serve w))
unread scripts site_contents seen w status is failed =
    expected_found scripts site_contents seen w (Failed status) is failed

while_received : (scripts : Bool) (site_contents : Files) (seen : Seen) (w : Wanted) (text received past more : List ℕ)
    (lines : List Line) (ended : Bool) → is_for_script scripts (serve w) ≡ true
    → site_contents w.name ≡ Found text → script_of text ≡ Some lines → w.head_only ≡ false
    → output w.query lines (outcomes_by seen lines) ≡ received ++ more → Follows ended more
    → MayAnswer (serve w) (OfScript text (Ran received ended past)) (expected scripts site_contents seen (serve w))
while_received scripts site_contents seen w text received past more lines ended is found lines_are gets all follows =
    subst (λ (b : Bool). MaySendOutput b w (Ran received ended past) (expected scripts site_contents seen (serve w)))
    (sym gets) (more, follows, expected_is)
  where
    expected_is : expected scripts site_contents seen (serve w) ≡ script_response w (received ++ more)
    expected_is = expected_found scripts site_contents seen w (Found text) is found
        ∙ (ap (λ (o : Option (List Line)). expected_of_text seen w o) lines_are
        ∙ (ap (λ b. expected_of_run b seen w lines) gets ∙ ap (λ (l : List ℕ). script_response w l) all))

outcomes : (m : State) (d : ℕ) (seen : Seen) (lines : List Line) → ((name : List ℕ) → outcome_in m d name ≡ seen name)
    → outcomes_in m d lines ≡ outcomes_by seen lines
outcomes m d seen [] same = refl
outcomes m d seen (line.Emit text ∷ lines) same = outcomes m d seen lines same
outcomes m d seen (line.Query ∷ lines) same = outcomes m d seen lines same
outcomes m d seen (line.Pause ∷ lines) same = outcomes m d seen lines same
outcomes m d seen (line.Cat name ∷ lines) same =
    ap (λ (os : List script.Outcome). outcome_in m d name ∷ os) (outcomes m d seen lines same)
    ∙ ap (λ (o : script.Outcome). o ∷ outcomes_by seen lines) (same name)
outcomes m d seen (line.Wc name ∷ lines) same =
    ap (λ (os : List script.Outcome). outcome_in m d name ∷ os) (outcomes m d seen lines same)
    ∙ ap (λ (o : script.Outcome). o ∷ outcomes_by seen lines) (same name)

pub expected_may_come : ExpectedMayCome
expected_may_come = record { file = file; read = read; unread = unread; received = while_received; outcomes = outcomes }

-- ---- the expected response is possible, and so is the error after a refused call

module _ (site_contents : SiteContents) where
  pub all-show : (os : List script.Outcome) → AllMayShow site_contents os os
  all-show [] = tt
  all-show (o ∷ os) = (inl refl, all-show os)

  run-may : (b : Bool) (w : Wanted) (lines : List Line)
      → MayRun site_contents b w lines (expected_of_run b site_contents.shows w lines)
  run-may true w lines = refl
  run-may false w lines =
      (outcomes_by site_contents.shows lines, all-show (outcomes_by site_contents.shows lines), refl)

  text-may : (w : Wanted) (o : Option (List Line))
      → MayAnswerText site_contents w o (expected_of_text site_contents.shows w o)
  text-may w (Some lines) = run-may w.head_only w lines
  text-may w None = refl

  script-may : (w : Wanted) (o : Outcome)
      → MayGive site_contents true (serve w) o (expected_of_script site_contents.shows w o)
  script-may w (Found text) = text-may w (script_of text)
  script-may w (Failed status) = refl

  give-may : (b : Bool) (q : Answer)
      → MayGive site_contents b q (outcome_of site_contents.finds q)
      (expected_if b site_contents.finds site_contents.shows q)
  give-may true (serve w) = script-may w (site_contents.finds w.name)
  give-may true (refuse status head_only close) = refl
  give-may false (serve w) = refl
  give-may false (refuse status head_only close) = refl

  pub expected-may : (q : Answer) → MayBeExpected site_contents q (expected_to site_contents q)
  expected-may q = (outcome_of site_contents.finds q, inl refl, give-may (is_for_script site_contents.scripts q) q)

  -- ---- after a refused call: the error, for a file or a script

  give-error : (b : Bool) (w : Wanted) (status : ℕ)
      → MayGive site_contents b (serve w) (Failed status) (text_of (serve w) (Error status))
  give-error true w status = refl
  give-error false w status = refl

  pub error-may : (w : Wanted) (x : Refusal) → site_contents.refuses.of_server x ≡ true
      → MayBeExpected site_contents (serve w) (text_of (serve w) (Error (status_of x)))
  error-may w x may = (
    Failed (status_of x),
    inr (x, may, refl),
    give-error (is_for_script site_contents.scripts (serve w)) w
        (status_of x),
  )

  -- ---- the response of a running script, from its output

  pub shown-may : (x : Client) (w : Wanted) (s : IsScript site_contents x w) (shown : List script.Outcome)
      → AllMayShow site_contents (outcomes_by site_contents.shows s.lines) shown
      → MayBeExpected site_contents (serve w) (response_to w (made_of w s.lines shown))
  shown-may x w s shown may = (Found s.text, inl (sym s.found), gives)
    where
      runs : MayRun site_contents w.head_only w s.lines (response_to w (made_of w s.lines shown))
      runs = subst (λ (b : Bool). MayRun site_contents b w s.lines (response_to w (made_of w s.lines shown)))
          (sym s.get) (shown, may, refl)

      gives : MayGive site_contents (is_for_script site_contents.scripts (serve w)) (serve w) (Found s.text)
          (response_to w (made_of w s.lines shown))
      gives =
          subst
          (λ (b : Bool). MayGive site_contents b (serve w) (Found s.text) (response_to w (made_of w s.lines shown)))
          (sym s.is_for)
          (subst (λ (o : Option (List Line)). MayAnswerText site_contents w o (response_to w (made_of w s.lines shown)))
          (sym s.is_script) runs)

  -- if the outcomes of its files are those of the site contents, this response is the expected one
  pub script-expected : (w : Wanted) (text : List ℕ) (lines : List Line)
      → is_for_script site_contents.scripts (serve w) ≡ true → site_contents.finds w.name ≡ Found text
      → script_of text ≡ Some lines → w.head_only ≡ false
      → expected_to site_contents (serve w) ≡ response_to w (made_of w lines (outcomes_by site_contents.shows lines))
  script-expected w text lines is found lines_are gets =
      expected_found site_contents.scripts site_contents.finds site_contents.shows w (Found text) is found
      ∙ (ap (λ (o : Option (List Line)). expected_of_text site_contents.shows w o) lines_are
      ∙ ap (λ b. expected_of_run b site_contents.shows w lines) gets)

  -- a refusal that is allowed for workers may replace the outcome of a file
  pub show-refused : (there past rest : List script.Outcome) (o : script.Outcome) (x : Refusal)
      → site_contents.refuses.of_workers x ≡ true
      → AllMayShow site_contents there (past ++ o ∷ rest)
      → AllMayShow site_contents there (past ++ script.Failed x ∷ rest)
  show-refused [] [] rest o x may all = absurd all
  show-refused [] (b ∷ past) rest o x may all = absurd all
  show-refused (a ∷ there) [] rest o x may all = (inr (x, may, refl), all.1)
  show-refused (a ∷ there) (b ∷ past) rest o x may all = (all.0, show-refused there past rest o x may all.1)
