-- The response that is expected to a request, with the current files: for a script that runs, the response to its
-- output.
use Rattle.std.specs.Prelude.{◌≡◌, ℕ, Bool, true, false, List, [], ◌∷◌, ◌++◌, Option, Some, None, IsTrue, IsFalse}
use Rattle.iol_core.specs.State.{State}
use Rattle.flash_http.specs.Request.{Answer, serve, refuse, Wanted}
use Rattle.flash_cgi.specs.Outcomes.{outcome_in, outcomes_in}
use Rattle.flash_cgi.specs.Output as script
use Rattle.flash_cgi.specs.Output.{output}
use Rattle.flash_cgi.specs.Script.{script_of}
use Rattle.flash_cgi.specs.declared.line.Line.{Line}
use Rattle.flash_cgi.specs.declared.line.Line.TheVariants as line
use Rattle.flash_laws.specs.Answers.{Outcome, Found, Failed, SiteContents, response, expected_to, script_text}
use Rattle.flash_laws.specs.Client.{is_for_script}
use Rattle.flash_laws.specs.Client.ResponseState.{OfFile, OfScript, of_text, MayAnswer}
use Rattle.flash_laws.specs.Run.Fits.{Ran, Follows}
use Rattle.flash_laws.specs.Answers.Scripts.{script_response}

-- the files that a script sees, by name
abbrev pub Seen : Type 0
Seen = (name : List ℕ) → script.Outcome

-- the outcome of each name in its lines
abbrev pub outcomes_by : Seen → List Line → List script.Outcome
outcomes_by seen [] = []
outcomes_by seen (line.Emit text ∷ lines) = outcomes_by seen lines
outcomes_by seen (line.Query ∷ lines) = outcomes_by seen lines
outcomes_by seen (line.Cat name ∷ lines) = seen name ∷ outcomes_by seen lines
outcomes_by seen (line.Wc name ∷ lines) = seen name ∷ outcomes_by seen lines
outcomes_by seen (line.Pause ∷ lines) = outcomes_by seen lines

-- for HEAD only the head
abbrev pub expected_of_run : (head_only : Bool) → Seen → Wanted → List Line → List ℕ
expected_of_run true seen w lines = script_text w
expected_of_run false seen w lines = script_response w (output w.query lines (outcomes_by seen lines))

-- a text that is no script gets the response 500
abbrev pub expected_of_text : Seen → Wanted → Option (List Line) → List ℕ
expected_of_text seen w (Some lines) = expected_of_run w.head_only seen w lines
expected_of_text seen w None = response (serve w) (Failed 500)

abbrev pub expected_of_script : Seen → Wanted → Outcome → List ℕ
expected_of_script seen w (Found text) = expected_of_text seen w (script_of text)
expected_of_script seen w (Failed status) = response (serve w) (Failed status)

abbrev pub expected_if : (script : Bool) → SiteContents → Seen → Answer → List ℕ
expected_if true site_contents seen (serve w) = expected_of_script seen w (site_contents w.name)
expected_if true site_contents seen (refuse status head_only close) =
    expected_to site_contents (refuse status head_only close)
expected_if false site_contents seen q = expected_to site_contents q

-- The response that is expected, for a server that runs scripts or not.
abbrev pub expected : (scripts : Bool) → SiteContents → Seen → Answer → List ℕ
expected scripts site_contents seen q = expected_if (is_for_script scripts q) site_contents seen q

-- It is a possible response at each time, given the results of the calls for the request so far.
pub record ExpectedMayCome : Type 0 where
  -- for a request of no script it is the only response
  pub file : (scripts : Bool) (site_contents : SiteContents) (seen : Seen) (q : Answer)
      → IsFalse (is_for_script scripts q)
      → expected scripts site_contents seen q ≡ expected_to site_contents q
  -- for a request of a script, once that was read, or could not be
  pub read : (scripts : Bool) (site_contents : SiteContents) (seen : Seen) (w : Wanted) (text : List ℕ)
      → IsTrue (is_for_script scripts (serve w))
      → site_contents w.name ≡ Found text
      → MayAnswer (serve w) (of_text text) (expected scripts site_contents seen (serve w))
  pub unread : (scripts : Bool) (site_contents : SiteContents) (seen : Seen) (w : Wanted) (status : ℕ)
      → IsTrue (is_for_script scripts (serve w))
      → site_contents w.name ≡ Failed status
      → MayAnswer (serve w) (OfFile (Failed status)) (expected scripts site_contents seen (serve w))
  -- while its output is read: the output so far begins it, and at its end is all of it
  pub received : (scripts : Bool) (site_contents : SiteContents) (seen : Seen) (w : Wanted)
      (text received past more : List ℕ) (lines : List Line)
      (ended : Bool) → IsTrue (is_for_script scripts (serve w)) → site_contents w.name ≡ Found text
      → script_of text ≡ Some lines
      → IsFalse w.head_only → output w.query lines (outcomes_by seen lines) ≡ received ++ more → Follows ended more
      → MayAnswer (serve w) (OfScript text (Ran received ended past)) (expected scripts site_contents seen (serve w))
  -- the output of a worker by the files as it sees them
  pub outcomes : (m : State) (d : ℕ) (seen : Seen) (lines : List Line)
      → ((name : List ℕ) → outcome_in m d name ≡ seen name)
      → outcomes_in m d lines ≡ outcomes_by seen lines
