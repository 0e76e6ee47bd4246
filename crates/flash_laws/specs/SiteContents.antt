-- The contents of a site: the response that is expected to each request, by the current files; the responses that are
-- possible if calls are refused; and so the answers to a stream.
pub mod Expected
pub mod OneAnswer
use Rattle.std.specs.Prelude.{◌≡◌, ℕ, ◌⊎◌, Bool, true, false, List, [], ◌∷◌, ◌++◌, Option, Some, None, IsTrue, ⊤}
use Rattle.std.specs.List.{concat}
use Rattle.iol_core.specs.declared.refusals.Refusal.{Refusal}
use Rattle.iol_core.specs.declared.events.Reply.{Reply}
use Rattle.iol_core.specs.declared.events.Reply.TheVariants as reply
use Rattle.iol_laws.specs.Caller.{is_resource_failure}
use Rattle.flash_http.specs.declared.windows.Window.TheVariants.{Wait}
use Rattle.flash_http.specs.Window.{window_in}
use Rattle.flash_http.specs.Request.{Answer, serve, Wanted}
use Rattle.flash_cgi.specs.Output as script
use Rattle.flash_cgi.specs.Output.{output}
use Rattle.flash_cgi.specs.Script.{script_of}
use Rattle.flash_cgi.specs.declared.line.Line.{Line}
use Rattle.flash_laws.specs.Answers.Scripts.{script_response}
use Rattle.flash_laws.specs.Client.{is_for_script}
use Rattle.flash_laws.specs.Conn.{status_of}
use Rattle.flash_laws.specs.Answers.{Outcome, Found, Failed, response, outcome_of, script_text, Reads, last_may_close}
use Rattle.flash_laws.specs.Answers.{last_closes}
use Rattle.flash_laws.specs.SiteContents.Expected.{Seen, expected, outcomes_by}

-- The refusals among TooMany, NoRoom, Fault and Memory that calls for files may get: those of the server, and those of
-- workers.
pub record Refusals : Type 0 where
  pub of_server : Refusal → Bool
  pub of_workers : Refusal → Bool

pub record SiteContents : Type 0 where
  -- the outcome of each name for the server
  pub finds : (name : List ℕ) → Outcome
  -- and for a script
  pub shows : Seen
  -- whether scripts are run
  pub scripts : Bool
  -- the refusals that calls for files may get
  pub refuses : Refusals

-- the response that is expected to a request, if nothing is refused
abbrev pub expected_to : SiteContents → Answer → List ℕ
expected_to site_contents q = expected site_contents.scripts site_contents.finds site_contents.shows q

module _ (site_contents : SiteContents) where
  -- The possible results of the server's calls for a file with this outcome: the outcome, or the status of a refusal
  -- that its calls may get (503, or 500 for a fault).
  abbrev pub MayFind : (there got : Outcome) → Type 0
  MayFind there got = (got ≡ there) ⊎ ((x : Refusal) × IsTrue (site_contents.refuses.of_server x) × (got ≡ Failed (status_of x)))

  -- The possible results of a worker's calls for a file: its outcome, or a refusal that calls of workers may get.
  abbrev pub MayShow : (there got : script.Outcome) → Type 0
  MayShow there got =
      (got ≡ there) ⊎ ((x : Refusal) × IsTrue (site_contents.refuses.of_workers x) × (got ≡ script.Failed x))

  -- the same for each file that it names
  abbrev pub AllMayShow : (there got : List script.Outcome) → Type 0
  AllMayShow [] [] = ⊤
  AllMayShow (o ∷ os) (p ∷ ps) = MayShow o p × AllMayShow os ps
  AllMayShow [] (p ∷ ps) = ⊥
  AllMayShow (o ∷ os) [] = ⊥

  -- the response with a possible output of these lines; for HEAD only the head
  abbrev pub MayRun : (head_only : Bool) → Wanted → List Line → List ℕ → Type 0
  MayRun true w lines r = r ≡ script_text w
  MayRun false w lines r = (os : List script.Outcome) × AllMayShow (outcomes_by site_contents.shows lines) os
      × (r ≡ script_response w (output w.query lines os))

  -- a text that is no script gets the response 500
  abbrev pub MayAnswerText : Wanted → Option (List Line) → List ℕ → Type 0
  MayAnswerText w (Some lines) r = MayRun w.head_only w lines r
  MayAnswerText w None r = r ≡ response (serve w) (Failed 500)

  -- the response with this result of the calls for the request's file
  abbrev pub MayGive : (script : Bool) → Answer → Outcome → List ℕ → Type 0
  MayGive true (serve w) (Found text) r = MayAnswerText w (script_of text) r
  MayGive script q o r = r ≡ response q o

  -- A possible response to a request.
  abbrev pub MayBeExpected : Answer → List ℕ → Type 0
  MayBeExpected q r = (o : Outcome) × MayFind (outcome_of site_contents.finds q) o
      × MayGive (is_for_script site_contents.scripts q) q o r

  -- a possible response to each of these requests, in order
  abbrev pub AllMayBeExpected : List Answer → List (List ℕ) → Type 0
  AllMayBeExpected [] [] = ⊤
  AllMayBeExpected (q ∷ qs) (r ∷ rs) = MayBeExpected q r × AllMayBeExpected qs rs
  AllMayBeExpected [] (r ∷ rs) = ⊥
  AllMayBeExpected (q ∷ qs) [] = ⊥

  -- these bytes are possible responses to these requests, in order
  pub record Responds (qs : List Answer) (bytes : List ℕ) : Type 0 where
    pub responses : List (List ℕ)
    pub each : AllMayBeExpected qs responses
    pub all : bytes ≡ concat responses

-- These bytes begin an answer to the stream: they are a prefix of possible responses to its first requests, in order.
pub record Begins (site_contents : SiteContents) (s bytes : List ℕ) : Type 0 where
  pub qs : List Answer
  pub rest : List ℕ
  pub reads : Reads s qs rest
  pub order : IsTrue (last_may_close qs)
  pub whole : List ℕ
  pub responds : Responds site_contents qs whole
  pub more : List ℕ
  pub all : whole ≡ bytes ++ more

-- These bytes are an answer to the stream: there is no further request, or the connection closes after the last one.
pub record IsAnswer (site_contents : SiteContents) (s bytes : List ℕ) : Type 0 where
  pub qs : List Answer
  pub rest : List ℕ
  pub reads : Reads s qs rest
  pub order : IsTrue (last_may_close qs)
  pub responds : Responds site_contents qs bytes
  pub no_more : (window_in rest ≡ Wait) ⊎ IsTrue (last_closes qs)

-- a reply with TooMany, NoRoom, Fault or Memory is one of these refusals
abbrev pub IsAmong : (refuses : Refusal → Bool) → Reply → Type 0
IsAmong refuses (reply.Refused x) = IsTrue (is_resource_failure (reply.Refused x)) → IsTrue (refuses x)
IsAmong refuses r = ⊤
