-- The output of a script.
use Rattle.std.specs.Prelude.{ℕ, List, [], ◌∷◌, ◌++◌}
use Rattle.iol_core.specs.declared.refusals.Refusal.{Refusal}
use Rattle.flash_cgi.specs.declared.line.Line.{Line}
use Rattle.flash_cgi.specs.declared.line.Line.TheVariants.{Emit, Query, Cat, Wc, Pause}
use Rattle.flash_cgi.specs.declared.counts.Said.TheVariants.{Refused, Counted}
use Rattle.flash_cgi.specs.WorkerSteps.{line_text, said_text, counts_of}

-- the outcome of opening and reading a file: its bytes, or the refusal
pub data Outcome : Type 0 where
  Found : (bytes : List ℕ) → Outcome
  Failed : (why : Refusal) → Outcome

abbrev pub cat_of : Outcome → List ℕ
cat_of (Found bytes) = bytes
cat_of (Failed why) = said_text (Refused why)

abbrev pub wc_of : Outcome → List ℕ
wc_of (Found bytes) = said_text (Counted (counts_of bytes))
wc_of (Failed why) = said_text (Refused why)

-- the output of the first outcome, followed by that of the others
abbrev pub by_first : (Outcome → List ℕ) → (List Outcome → List ℕ) → List Outcome → List ℕ
by_first text rest [] = []
by_first text rest (o ∷ os) = text o ++ rest os

-- The output of a script with this query, if the files that its lines name have these outcomes, in order: one for each
-- `cat` or `wc`. A line with an outcome that is still to come, and all later lines, have no output yet.
abbrev pub output : (query : List ℕ) → List Line → List Outcome → List ℕ
output query [] os = []
output query (Emit text ∷ lines) os = line_text text ++ output query lines os
output query (Query ∷ lines) os = line_text query ++ output query lines os
output query (Cat name ∷ lines) os = by_first cat_of (output query lines) os
output query (Wc name ∷ lines) os = by_first wc_of (output query lines) os
output query (Pause ∷ lines) os = output query lines os
