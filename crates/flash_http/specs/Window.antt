-- The window of a stream: the position of its next head.
use Rattle.std.specs.Prelude.{ℕ, ◌+◌, ◌<◌, ◌≤◌, ◌==◌, ◌≡◌, ◌≢◌, Bool, true, false, List, [], ◌∷◌, ◌++◌, length, Option}
use Rattle.std.specs.Prelude.{Some, None, option_map, nat_lt, nat_le, if◌then◌else◌}
use Rattle.flash_http.specs.declared.windows.Window.{Window}
use Rattle.flash_http.specs.declared.windows.Window.TheVariants.{Wait, Head, TooLarge}
use Rattle.flash_http.specs.declared.windows.TheConstants.{MAX_HEAD_BYTES}

-- ---- lines (RFC 9112, section 2.2: a line feed ends a line, with or without a carriage return before it)

-- the whole lines of the bytes, each without its line feed; `begun` is the part of the first line before these bytes
abbrev pub lines_from : (begun : List ℕ) → List ℕ → List (List ℕ)
lines_from begun [] = []
lines_from begun (b ∷ bytes) = if b == 10 then begun ∷ lines_from [] bytes else lines_from (begun ++ b ∷ []) bytes

abbrev pub lines : List ℕ → List (List ℕ)
lines stream = lines_from [] stream

-- empty, or only a carriage return
abbrev pub is_empty_line : List ℕ → Bool
is_empty_line [] = true
is_empty_line (b ∷ []) = b == 13
is_empty_line (b ∷ c ∷ line) = false

-- the length of a line including its line feed
abbrev pub line_len : List ℕ → ℕ
line_len line = length line + 1

-- ---- the head (RFC 9112, section 2.1: a start line and field lines, up to an empty line)

-- the bytes of leading empty lines, which a server ignores (section 2.2)
abbrev pub skip_len : List (List ℕ) → ℕ
skip_len [] = 0
skip_len (line ∷ others) = if is_empty_line line then line_len line + skip_len others else 0

-- the lines after those
abbrev pub after_skip : List (List ℕ) → List (List ℕ)
after_skip [] = []
after_skip (line ∷ others) = if is_empty_line line then after_skip others else line ∷ others

-- the bytes up to and including the first empty line, if there is one
abbrev pub head_len : List (List ℕ) → Option ℕ
head_len [] = None
head_len (line ∷ others) =
    if is_empty_line line then Some (line_len line)
    else option_map (λ len. line_len line + len) (head_len others)

-- the number of bytes before the first head, and of that head
abbrev pub head_in : List (List ℕ) → Option (ℕ × ℕ)
head_in ls = option_map (λ len. (skip_len ls, len)) (head_len (after_skip ls))

-- ---- the window

-- count bytes are received, without a head within the limit
abbrev pub no_head : ℕ → Window
no_head count = if nat_lt count MAX_HEAD_BYTES then Wait else TooLarge

abbrev pub window_at : Option (ℕ × ℕ) → (count : ℕ) → Window
window_at None count = no_head count
window_at (Some p) count = if nat_le (p.0 + p.1) MAX_HEAD_BYTES then Head p.0 p.1 else no_head count

-- The window of a stream: its first head, if it ends within the limit.
abbrev pub window_in : List ℕ → Window
window_in stream = window_at (head_in (lines stream)) (length stream)

-- a head is not empty, and is within the stream and the limit
abbrev pub FitsIn : (count : ℕ) → Window → Type 0
FitsIn count Wait = count < MAX_HEAD_BYTES
FitsIn count TooLarge = MAX_HEAD_BYTES ≤ count
FitsIn count (Head skip len) = (0 < len) × (skip + len ≤ count) × (skip + len ≤ MAX_HEAD_BYTES)

-- unless it is Wait, the window does not change when more bytes are received
abbrev pub WindowsStay : Type 0
WindowsStay = (stream more : List ℕ) → window_in stream ≢ Wait → window_in (stream ++ more) ≡ window_in stream

-- a window is within the stream, and a head is not empty
abbrev pub WindowsFit : Type 0
WindowsFit = (stream : List ℕ) → FitsIn (length stream) (window_in stream)
