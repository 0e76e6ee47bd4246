-- The replies to the lines of a script: events are steps of a system, reports give its resource use.
use Rattle.std.specs.Prelude.{◌≡◌, ◌*◌, ℕ, true, false, List, [], ◌∷◌, ◌⊎◌, Option, Result, Err, IfErr, IfSome, OnOk}
use Rattle.std.specs.Prelude.{◌++◌, replicate, unwrap_or}
use Rattle.std.specs.Io.KnownBytes.{Appends}
use Rattle.iol_core.specs.State.{new_state}
use Rattle.iol_core.specs.declared.configuration.TheConstants.Config.{DEFAULT}
use Rattle.iol_core.specs.declared.limits.TheConstants.{CHUNK_PAGES}
use Rattle.iol_back.specs.Disk.{lengths_of}
use Rattle.iol_system.specs.Machine.{SystemState, machine_of}
use Rattle.iol_system.specs.Prelude.{Counts, no_entry, slots_of}
use Rattle.iol_system.specs.Promises.{Promises}
use Rattle.iolite.specs.declared.failure.Failure.{Failure}
use Rattle.iolite.specs.declared.failure.Failure.TheVariants.{Memory}
use Rattle.iolite.specs.declared.replay.Answer.{Answer}
use Rattle.iolite.specs.declared.replay.Answer.TheVariants as answer
use Rattle.iolite.specs.declared.setup.Setup.{Setup}
use Rattle.iolite.specs.declared.script.Line.{Line}
use Rattle.iolite.specs.declared.script.Line.TheVariants as line
use Rattle.iolite.specs.Failure.{status_of}
use Rattle.iolite.specs.PrintedText.{answer_text, lines_of, newline}
use Rattle.iolite.specs.Script.{Asks, AskInOrder, HasBadLine, IsBadScript, IsJudged, IsScriptText, Says, asking}
use Rattle.iolite.specs.Script.{commands, lines, without_blank}

-- A new system with the setup of a script: only domain 1 exists, no page was ever used, the parameters are the given or
-- default ones, and the store is in memory with the bytes that the script stored. No sum is remembered, and the cache
-- is empty.
pub record IsNew (setup : Setup) (s : SystemState) : Type 0 where
  pub machine : machine_of s ≡ new_state (slots_of setup.slots)
  pub store : s.disk ≡ record { slots = setup.slots; failures = 0; honest = true; reported = lengths_of setup.slots }
  pub entries : s.kernel.store.arena.entries ≡ replicate ((unwrap_or setup.config DEFAULT).chunks * CHUNK_PAGES)
      no_entry
  pub taken : s.kernel.store.arena.taken ≡ replicate (unwrap_or setup.config DEFAULT).chunks false
  pub limit : s.kernel.store.arena.limit ≡ (unwrap_or setup.config DEFAULT).gen_limit
  pub sums : s.kernel.sums.entries ≡ []
  pub sum_limit : s.kernel.sums.limit ≡ (unwrap_or setup.config DEFAULT).sums
  pub orders : s.kernel.cache.orders ≡ []

-- The result of one line, from old to new: an event is a step with all its guarantees, and a report changes nothing.
abbrev pub IsAnswer : SystemState → Line → Answer → SystemState → Type 0
IsAnswer old (line.Event e) (answer.Reply r) new = Promises old e r new
IsAnswer old line.Report (answer.Report r) new = Counts old.kernel r × (new ≡ old)
IsAnswer old (line.Event e) (answer.Report r) new = ⊥
IsAnswer old line.Report (answer.Reply r) new = ⊥

-- The results of these lines, in order, from old to new: one for each line.
abbrev pub AreAnswers : SystemState → List Line → List Answer → SystemState → Type 0
AreAnswers old [] [] new = new ≡ old
AreAnswers old (l ∷ ls) (a ∷ rest) new = (mid : SystemState) × IsAnswer old l a mid × AreAnswers mid ls rest new
AreAnswers old [] (a ∷ rest) new = ⊥
AreAnswers old (l ∷ ls) [] new = ⊥

-- Lines are executed by a new system with this setup.
pub record Answered (setup : Setup) (asked : List Line) (answers : List Answer) : Type 0 where
  pub start : SystemState
  pub end : SystemState
  pub new : IsNew setup start
  pub each : AreAnswers start asked answers end

-- The output of a script: the system that it defines executes each of its lines, and each result is printed, in order.
pub record Replayed (given : List ℕ) (old new : Option (List ℕ)) : Type 0 where
  pub setup : Setup
  pub asked : List Line
  pub answers : List Answer
  pub says : Says (commands given) setup asked
  pub answered : Answered setup asked answers
  pub printed : Appends old new (lines_of answers)

-- The same if it ended early: all lines are commands, a prefix of them was executed, and a prefix of the results was
-- printed.
pub record Begun (given : List ℕ) (old new : Option (List ℕ)) : Type 0 where
  pub setup : Setup
  pub judged : IsJudged (commands given) setup
  pub front : List (List ℕ)
  pub rest : List (List ℕ)
  pub begins : asking (commands given) ≡ front ++ rest
  pub asked : List Line
  pub asks : AskInOrder front asked
  pub answers : List Answer
  pub answered : Answered setup asked answers
  pub printed : List ℕ
  pub left : List ℕ
  pub all : lines_of answers ≡ printed ++ left
  pub appended : Appends old new printed

-- The same if a line ran out of memory: each result of the executed prefix was printed.
pub record BegunWhole (given : List ℕ) (old new : Option (List ℕ)) : Type 0 where
  pub begun : Begun given old new
  pub whole : begun.left ≡ []

-- The result of running a script's text, by the status. If the script is invalid, a line is bad and the output is
-- unchanged. After another failure the output is unchanged or the script has begun; if memory ran out, with all results
-- so far. Otherwise all lines were executed and printed. The contents of the output are known before and after.
pub record ReplaysText {W : Type 0} (text : List ℕ) (held holds : Option (List ℕ)) (output printed : W)
    (r : Result (Unit {0}) Failure) : Type 0 where
  pub untouched : IfErr r (λ failure. status_of failure ≡ 2 → printed ≡ output)
  pub bad : IfErr r (λ failure. status_of failure ≡ 2 → HasBadLine (commands text))
  pub begun : (printed ≡ output) ⊎ Begun text held holds
  pub whole : r ≡ Err Memory → (printed ≡ output) ⊎ BegunWhole text held holds
  pub replayed : OnOk r (Replayed text held holds)

-- The result of running the script of an input, by the status. If the script is invalid, it is a bad script, if the
-- bytes of the input are known, and the output is unchanged. After another failure the output is unchanged or the
-- script has begun; if memory ran out, with all results so far. Otherwise the input is the text of a script, and all
-- lines were executed and printed.
pub record Replays {W : Type 0} (input held holds : Option (List ℕ)) (output printed : W)
    (r : Result (Unit {0}) Failure)
    : Type 0 where
  pub untouched : IfErr r (λ failure. status_of failure ≡ 2 → printed ≡ output)
  pub ok : OnOk r (IfSome input IsScriptText)
  pub bad : IfErr r (λ failure. status_of failure ≡ 2 → IfSome input IsBadScript)
  pub begun : (printed ≡ output) ⊎ IfSome input (λ given. Begun given held holds)
  pub whole : r ≡ Err Memory → (printed ≡ output) ⊎ IfSome input (λ given. BegunWhole given held holds)
  pub replayed : OnOk r (IfSome input (λ given. Replayed given held holds))

-- Of these lines, those with an action were executed, from start to end, and each result was printed or is still
-- buffered.
pub record Answering (ls : List (List ℕ)) (start end : SystemState) (old new : Option (List ℕ)) (left : List ℕ) :
    Type 0 where
  pub asked : List Line
  pub answers : List Answer
  pub asks : AskInOrder (asking (without_blank ls)) asked
  pub each : AreAnswers start asked answers end
  pub printed : List ℕ
  pub all : lines_of answers ≡ printed ++ left
  pub appended : Appends old new printed

-- The lines were executed up to a point, and then the program ended.
pub record EndsWithin (ls : List (List ℕ)) (start : SystemState) (old new : Option (List ℕ)) : Type 0 where
  pub front : List (List ℕ)
  pub rest : List (List ℕ)
  pub begins : ls ≡ front ++ rest
  pub end : SystemState
  pub left : List ℕ
  pub answering : Answering front start end old new left

-- one more line was executed, and its result has this text
pub record AnswersLine (l : List ℕ) (old new : SystemState) (text : List ℕ) : Type 0 where
  pub line : Line
  pub answer : Answer
  pub asks : Asks l line
  pub answered : IsAnswer old line answer new
  pub is : text ≡ answer_text answer ++ newline

-- a line ran out of memory: it had no effect, or its result was lost
abbrev pub LosesLine : List ℕ → (old new : SystemState) → Type 0
LosesLine l old new = (new ≡ old) ⊎ ((text : List ℕ) × AnswersLine l old new text)

-- the first of these lines ran out of memory, or none had an effect
abbrev pub LosesFirst : List (List ℕ) → (old new : SystemState) → Type 0
LosesFirst [] old new = new ≡ old
LosesFirst (l ∷ ls) old new = LosesLine l old new

-- The lines were executed up to a point, and each result was printed; then the next ran out of memory, or memory ran
-- out before the first.
pub record EndsWanting (ls : List (List ℕ)) (start end : SystemState) (old new : Option (List ℕ)) : Type 0 where
  pub front : List (List ℕ)
  pub rest : List (List ℕ)
  pub begins : ls ≡ front ++ rest
  pub before : SystemState
  pub answering : Answering front start before old new []
  pub lost : LosesFirst rest before end

-- The same for the lines of a text.
abbrev pub EndsWantingIn : {W : Type 0} → (known : W → Option (List ℕ)) (text : List ℕ) (start end : SystemState)
    (output printed : W) → Type 0
EndsWantingIn known text start end output printed = EndsWanting (lines text) start end (known output) (known printed)

-- a prefix of the bytes was written, and these are left
pub record WritesTo (old new : Option (List ℕ)) (bytes left : List ℕ) : Type 0 where
  pub front : List ℕ
  pub all : bytes ≡ front ++ left
  pub written : Appends old new front

-- a prefix was written
abbrev pub WritesSome : (old new : Option (List ℕ)) (bytes : List ℕ) → Type 0
WritesSome old new bytes = (left : List ℕ) × WritesTo old new bytes left
