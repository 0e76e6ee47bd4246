-- The end of a program that ends early.
use Rattle.std.specs.Fmt.{decimal}
use Rattle.std.specs.Prelude.{◌≤◌, ℕ, List, [], ◌∷◌, ◌++◌, codes, ⊤}
use Rattle.iolite.specs.declared.failure.Failure.{Failure}
use Rattle.iolite.specs.declared.failure.Failure.TheVariants.{BadScript, BadLine, Input, Output, Memory}

-- the exit status
abbrev pub status_of : Failure → ℕ
status_of BadScript = 2
status_of (BadLine number) = 2
status_of Input = 3
status_of Output = 3
status_of Memory = 3

-- its printed text
abbrev pub failure_text : Failure → List ℕ
failure_text BadScript = codes "bad script"
failure_text (BadLine number) = codes "line " ++ decimal number ++ codes ": not a command"
failure_text Input = codes "fault: input"
failure_text Output = codes "fault: output"
failure_text Memory = codes "fault: memory"

-- the line that reports it
abbrev pub failure_line : Failure → List ℕ
failure_line failure = failure_text failure ++ 10 ∷ []

-- a line that is no command
abbrev pub IsBadLine : Failure → Type 0
IsBadLine BadScript = ⊥
IsBadLine (BadLine number) = ⊤
IsBadLine Input = ⊥
IsBadLine Output = ⊥
IsBadLine Memory = ⊥

-- the failures of reading the input
abbrev pub IsOfInput : Failure → Type 0
IsOfInput BadScript = ⊤
IsOfInput (BadLine number) = ⊥
IsOfInput Input = ⊤
IsOfInput Output = ⊥
IsOfInput Memory = ⊤

-- the failures of checking a script's lines, which are counted from 1
abbrev pub IsOfLines : Failure → Type 0
IsOfLines BadScript = ⊥
IsOfLines (BadLine number) = 1 ≤ number
IsOfLines Input = ⊥
IsOfLines Output = ⊥
IsOfLines Memory = ⊤

-- the failures of executing checked lines
abbrev pub IsOfAnswers : Failure → Type 0
IsOfAnswers BadScript = ⊥
IsOfAnswers (BadLine number) = ⊥
IsOfAnswers Input = ⊥
IsOfAnswers Output = ⊤
IsOfAnswers Memory = ⊤
