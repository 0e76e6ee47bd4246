-- The buffered output of a worker: a text, with bytes of files by reference.
use Rattle.std.specs.Prelude.{ℕ, ◌+◌, ◌==◌, ◌&&◌, ◌||◌, not, nat_le, nat_lt, Bool, List, [], ◌∷◌, ◌++◌, length, take}
use Rattle.std.specs.Prelude.{drop, Option, Some, None, is_none, is_some, unwrap_or, if◌then◌else◌}
use Rattle.flash_cgi.specs.declared.line.Line.{Line}
use Rattle.flash_cgi.specs.declared.piece.Place.{Place}
use Rattle.flash_cgi.specs.declared.piece.TheConstants.{MIN_PIECE_BYTES, MAX_COLLECTED_BYTES}

-- A place has the number of bytes of text before a file's bytes, and the number of bytes of all buffered files before
-- them. The last place is the first of the list. A file that is too long follows all other bytes.
pub record Collected : Type 0 where
  pub text : List ℕ
  pub held : Option ℕ
  pub files : ℕ
  pub places : List Place
  pub next : Option ℕ

abbrev pub nothing : Collected
nothing = record { text = []; held = None; files = 0; places = []; next = None }

abbrev pub is_nothing : Collected → Bool
is_nothing x = (length x.text == 0) && (length x.places == 0) && is_none x.held && is_none x.next

-- ---- the whole output

-- the text with the bytes of files inserted, the last first
abbrev pub interleaved : (text : List ℕ) → List Place → (files : List ℕ) → List ℕ
interleaved text [] files = text
interleaved text (p ∷ ps) files = interleaved (take p.at text) ps (take p.from files)
    ++ (drop p.from files ++ drop p.at text)

abbrev pub bytes_of_one : (ℕ → Option (List ℕ)) → Option ℕ → List ℕ
bytes_of_one readable None = []
bytes_of_one readable (Some a) = unwrap_or (readable a) []

-- with this text
abbrev pub collected_in : (ℕ → Option (List ℕ)) → (text : List ℕ) → Collected → List ℕ
collected_in readable text x = interleaved text x.places (bytes_of_one readable x.held) ++ bytes_of_one readable x.next

abbrev pub collected : (ℕ → Option (List ℕ)) → Collected → List ℕ
collected readable x = collected_in readable x.text x

-- ---- when it is written

-- it has at least the minimum number of bytes
abbrev pub is_full : Collected → Bool
is_full x = nat_le MIN_PIECE_BYTES (length x.text + x.files)

-- it is written before this line, or after the last one: it is full, a file follows it, or no line is left
abbrev pub is_expected : Collected → Option Line → Bool
is_expected x (Some l) = is_full x || is_some x.next
is_expected x None = not (is_nothing x)

-- ---- additions and removals

abbrev pub with_text : Collected → List ℕ → Collected
with_text x text = record x { text = x.text ++ text }

abbrev pub with_line : Collected → List ℕ → Collected
with_line x text = with_text x (text ++ 10 ∷ [])

abbrev pub without_text : Collected → Collected
without_text x = record x { text = [] }

-- the place of a file after a text of len bytes, which is not full
abbrev pub place_behind : (len : ℕ) → ℕ
place_behind len = if nat_lt len MAX_COLLECTED_BYTES then len else MAX_COLLECTED_BYTES

-- with len bytes of a file after the from bytes of earlier files
abbrev pub with_file : Collected → (held from len : ℕ) → Collected
with_file x held from len = record x {
  held = Some held;
  files = from + len;
  places = record { at = place_behind (length x.text); from = from } ∷ x.places;
}

abbrev pub with_next : Collected → (next : ℕ) → Collected
with_next x next = record x { next = Some next }

abbrev pub without_next : Collected → Collected
without_next x = record x { next = None }

abbrev pub with_held : Collected → (held : ℕ) → Collected
with_held x held = record x { held = Some held }

abbrev pub last_place : List Place → Option Place
last_place [] = None
last_place (p ∷ ps) = Some p

abbrev pub but_last : List Place → List Place
but_last [] = []
but_last (p ∷ ps) = ps

abbrev pub without_last : Collected → Collected
without_last x = record x { places = but_last x.places }

abbrev pub without_files : Collected → Collected
without_files x = record x { held = None; files = 0; places = [] }
