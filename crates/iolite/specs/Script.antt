-- Scripts: valid scripts, the actions of their lines, and invalid ones.
use Rattle.std.specs.Prelude.{◌≡◌, ◌≢◌, ◌⊎◌, ◌<◌, ◌≤◌, ◌==◌, ℕ, Bool, true, not, ◌&&◌, List, [], ◌∷◌, ◌++◌, All}
use Rattle.std.specs.Prelude.{length, codes, IsUtf8, ⊤, IsTrue, IsFalse}
use Rattle.std.specs.List.{filter, slice_split}
use Rattle.iol_core.specs.declared.events.Event.{Event}
use Rattle.iol_core.specs.declared.events.Event.TheVariants as event
use Rattle.iolite.specs.declared.replay.TheConstants.{MAX_SCRIPT_BYTES}
use Rattle.iolite.specs.declared.script.Asked.{Asked}
use Rattle.iolite.specs.declared.script.Asked.TheVariants as asked
use Rattle.iolite.specs.declared.script.Line.{Line}
use Rattle.iolite.specs.declared.script.Line.TheVariants as line
use Rattle.iolite.specs.Outside.{CanHappen, IsEvent, event_of}
use Rattle.iolite.specs.Setup.{IsDefault, SetsUp, SetUp, is_header}
use Rattle.iolite.specs.declared.setup.Setup.{Setup}
use Rattle.iolite.specs.Words.{word, rest_of}

-- within the limit of a script, and UTF-8
abbrev pub IsScriptText : List ℕ → Type 0
IsScriptText bytes = (length bytes ≤ MAX_SCRIPT_BYTES) × IsUtf8 bytes

-- the bytes read are all bytes of the input, or exceed the limit of a script
abbrev pub IsWholeOrTooLong : (read given : List ℕ) → Type 0
IsWholeOrTooLong read given = (read ≡ given) ⊎ ((MAX_SCRIPT_BYTES < length read) × (MAX_SCRIPT_BYTES < length given))

-- the lines of a text
abbrev pub lines : List ℕ → List (List ℕ)
lines text = slice_split (λ b. b == 10) text

-- an empty line or a comment, which is ignored
abbrev pub is_blank : List ℕ → Bool
is_blank [] = true
is_blank (c ∷ rest) = c == 35

-- all other lines
abbrev pub without_blank : List (List ℕ) → List (List ℕ)
without_blank ls = filter (λ l. not (is_blank l)) ls

-- the lines of a script that have a meaning
abbrev pub commands : List ℕ → List (List ℕ)
commands text = without_blank (lines text)

-- those of them that are no headers
abbrev pub asking : List (List ℕ) → List (List ℕ)
asking ls = filter (λ l. not (is_header (word l))) ls

-- whether a line of a script is one of these
abbrev pub is_asking : List ℕ → Bool
is_asking l = not (is_blank l) && not (is_header (word l))

-- a line of one word: a report, or an event of all files
abbrev pub AsksAlone : List ℕ → Line → Type 0
AsksAlone l x =
    ((l ≡ codes "report") × (x ≡ line.Report))
    ⊎ (((l ≡ codes "flush") × (x ≡ line.Event event.Flush))
    ⊎ ((l ≡ codes "drop_clean") × (x ≡ line.Event event.DropClean)))

-- a line with a call of the domain with which it begins, or with an external event
abbrev pub AsksEvent : List ℕ → Line → Type 0
AsksEvent l x = (e : Event) × IsEvent (word l) (rest_of l) e × (x ≡ line.Event e)

-- the action of a line
abbrev pub Asks : List ℕ → Line → Type 0
Asks l x = AsksAlone l x ⊎ AsksEvent l x

-- the action of a parsed line whose texts are still encoded
abbrev pub line_of : Asked → Line
line_of (asked.Event e) = line.Event (event_of e)
line_of asked.Report = line.Report

abbrev pub CanAsk : Asked → Type 0
CanAsk (asked.Event e) = CanHappen e
CanAsk asked.Report = ⊤

abbrev pub AsksSomething : List ℕ → Type 0
AsksSomething l = (x : Line) × Asks l x

abbrev pub AskInOrder : List (List ℕ) → List Line → Type 0
AskInOrder [] [] = ⊤
AskInOrder (l ∷ ls) (x ∷ xs) = Asks l x × AskInOrder ls xs
AskInOrder [] (x ∷ xs) = ⊥
AskInOrder (l ∷ ls) [] = ⊥

-- The meaning of the lines: the first of them are headers, and then each has an action. No line is left out.
pub record Says (ls : List (List ℕ)) (setup : Setup) (asked : List Line) : Type 0 where
  pub headers : List (List ℕ)
  pub all : ls ≡ headers ++ asking ls
  pub start : Setup
  pub default : IsDefault start
  pub set_up : SetUp headers start setup
  pub asks : AskInOrder (asking ls) asked

-- The same without the actions: all lines are commands.
pub record IsJudged (ls : List (List ℕ)) (setup : Setup) : Type 0 where
  pub headers : List (List ℕ)
  pub all : ls ≡ headers ++ asking ls
  pub start : Setup
  pub default : IsDefault start
  pub set_up : SetUp headers start setup
  pub ask : All AsksSomething (asking ls)

-- After lines with this setup, a line is no command: it has no action, and it is no header, or a header after an
-- action, or an invalid header.
abbrev pub IsBadAfter : Setup → (late : Type 0) → List ℕ → Type 0
IsBadAfter setup late l =
    (IsFalse (is_header (word l)) × ((x : Line) → ¬ (Asks l x)))
    ⊎ (IsTrue (is_header (word l)) × (late ⊎ ((new : Setup) → ¬ (SetsUp (word l) (rest_of l) setup new))))

-- the check of one line: it has an action, or is a header before any action
abbrev pub Judges : (old : Setup) (has_asked : Bool) → List ℕ → (new : Setup) (more : Bool) → Type 0
Judges old has_asked l new more =
    (IsFalse (is_header (word l)) × AsksSomething l × (new ≡ old) × IsTrue more)
    ⊎ (IsTrue (is_header (word l)) × SetsUp (word l) (rest_of l) old new × IsFalse has_asked × IsFalse more)

-- The lines include one that is no command, after lines that are.
pub record HasBadLine (ls : List (List ℕ)) : Type 0 where
  pub before : List (List ℕ)
  pub line : List ℕ
  pub after : List (List ℕ)
  pub all : ls ≡ before ++ line ∷ after
  pub setup : Setup
  pub judged : IsJudged before setup
  pub bad : IsBadAfter setup (asking before ≢ []) line

-- the input is no script: too long, not UTF-8, or with a line that is no command
abbrev pub IsBadScript : List ℕ → Type 0
IsBadScript given = ¬ (IsScriptText given) ⊎ HasBadLine (commands given)
