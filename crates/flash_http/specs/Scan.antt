-- The search for a head byte by byte, as the code does it: not needed to understand the definition of a window.
use Rattle.std.specs.Prelude.{◌≡◌, ℕ, ◌+◌, ◌==◌, Bool, true, false, List, [], ◌∷◌, ◌++◌, length, Option, Some, None}
use Rattle.std.specs.Prelude.{if◌then◌else◌}
use Rattle.flash_http.specs.declared.windows.Window.{Window}
use Rattle.flash_http.specs.declared.scan.Line.{Line}
use Rattle.flash_http.specs.declared.scan.Line.TheVariants.{Fresh, Return, Text}
use Rattle.flash_http.specs.declared.scan.Scan.{Scan}
use Rattle.flash_http.specs.Window.{window_at}

abbrev pub next_line : Line → ℕ → Line
next_line Fresh b = if b == 13 then Return else Text
next_line Return b = Text
next_line Text b = Text

abbrev pub is_text : Line → Bool
is_text Fresh = false
is_text Return = false
is_text Text = true

-- the number of bytes searched
abbrev pub searched : Scan → ℕ
searched s = s.skip + s.len

-- the head found in the remaining bytes
abbrev pub found_from : (begun : Bool) → (skip len : ℕ) → Line → List ℕ → Option (ℕ × ℕ)
found_from begun skip len line [] = None
found_from begun skip len line (b ∷ bytes) =
    if b == 10 then
    (if is_text line then found_from true skip (len + 1) Fresh bytes
    else (if begun then Some (skip, len + 1) else found_from false (skip + (len + 1)) 0 Fresh bytes))
    else found_from begun skip (len + 1) (next_line line b) bytes

-- the window of a stream from a state of the search and the remaining bytes
abbrev pub window_from : Scan → List ℕ → Window
window_from s bytes = window_at (found_from s.begun s.skip s.len s.line bytes) (searched s + length bytes)

-- these bytes determine the window, whatever follows
abbrev pub Finds : Scan → (bytes : List ℕ) → Window → Type 0
Finds s bytes w = (rest : List ℕ) → window_from s (bytes ++ rest) ≡ w

-- the search continues after these bytes
abbrev pub Proceeds : (old : Scan) → (bytes : List ℕ) → (new : Scan) → Type 0
Proceeds old bytes new = (rest : List ℕ) → window_from old (bytes ++ rest) ≡ window_from new rest

-- the search continues with the bytes that are left of these
abbrev pub Passes : (old : Scan) → (bytes : List ℕ) → (new : Scan) → (left : List ℕ) → Type 0
Passes old bytes new left = (rest : List ℕ) → window_from old (bytes ++ rest) ≡ window_from new (left ++ rest)
