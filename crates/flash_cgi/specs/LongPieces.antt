-- The minimum length of a worker's writes: all except the last have at least this length.
use Rattle.std.specs.Prelude.{◌≡◌, ◌≢◌, ◌⊎◌, ℕ, ◌≤◌, List, [], ◌∷◌, ◌++◌, length, Option, Some, None, IsTrue}
use Rattle.flash_cgi.specs.Collecting.{Collected, bytes_of_one, collected, is_expected, nothing, with_file, with_text}
use Rattle.flash_cgi.specs.declared.line.Line.{Line}
use Rattle.flash_cgi.specs.declared.piece.Place.{Place}
use Rattle.flash_cgi.specs.declared.piece.TheConstants.{MIN_PIECE_BYTES}

-- the places cover this many bytes: the last are after those of the earlier places
abbrev pub HavePlaces : List Place → (files : ℕ) → Type 0
HavePlaces [] files = files ≡ 0
HavePlaces (p ∷ ps) files = (p.from ≤ files) × HavePlaces ps p.from

-- the bytes of files are counted, and all of them have places
pub record IsCounted (readable : ℕ → Option (List ℕ)) (x : Collected) : Type 0 where
  pub count : x.files ≡ length (bytes_of_one readable x.held)
  pub places : HavePlaces x.places x.files

pub record PiecesAreLong : Type 0 where
  -- the invariant is preserved as texts and files are buffered: a file's bytes are appended to those of earlier files
  pub starts : (readable : ℕ → Option (List ℕ)) → IsCounted readable nothing
  pub texts : (readable : ℕ → Option (List ℕ)) (x : Collected) (text : List ℕ) → IsCounted readable x
      → IsCounted readable (with_text x text)
  pub files : (readable now : ℕ → Option (List ℕ)) (x : Collected) (a : ℕ) (bytes : List ℕ) → IsCounted readable x
      → now a ≡ Some (bytes_of_one readable x.held ++ bytes)
      → IsCounted now (with_file x a (length (bytes_of_one readable x.held)) (length bytes))
  -- a write before a line is long, or a file of its own follows it
  pub long : (readable : ℕ → Option (List ℕ)) (x : Collected) (l : Line) → IsCounted readable x
      → IsTrue (is_expected x (Some l))
      → (MIN_PIECE_BYTES ≤ length (collected readable x)) ⊎ (x.next ≢ None)
