-- The contents of the head of a response, before it is made: a file within the limit of one read of the server, and an
-- error status of this server. So each head is short.
use Rattle.std.specs.Prelude.{◌≤◌, ◌==◌, ℕ, Bool, [], ◌∷◌, IsTrue, ⊤}
use Rattle.std.specs.List.{list_any}
use Rattle.flash_laws.specs.Conn.{most_read}
use Rattle.flash_laws.specs.declared.phase.FileResult.{FileResult}
use Rattle.flash_laws.specs.declared.phase.FileResult.TheVariants.{File, Length, Fails, Text}
use Rattle.flash_laws.specs.declared.phase.Payload.{Payload}
use Rattle.flash_laws.specs.declared.phase.Payload.TheVariants.{Body, Bare, Error, Script}

-- the statuses of errors (RFC 9110, sections 15.5 and 15.6; RFC 6585, section 5)
abbrev pub is_error_status : (status : ℕ) → Bool
is_error_status status = list_any (λ s. s == status) (400 ∷ 403 ∷ 404 ∷ 405 ∷ 416 ∷ 431 ∷ 500 ∷ 501 ∷ 503 ∷ [])

abbrev pub FileResultIsShort : FileResult → Type 0
FileResultIsShort (File a len) = len ≤ most_read
FileResultIsShort (Length len) = len ≤ most_read
FileResultIsShort (Fails status) = IsTrue (is_error_status status)
FileResultIsShort (Text a runs) = ⊤

abbrev pub ContentIsShort : Payload → Type 0
ContentIsShort (Body a size len) = len ≤ most_read
ContentIsShort (Bare len) = len ≤ most_read
ContentIsShort (Error status) = IsTrue (is_error_status status)
ContentIsShort Script = ⊤
