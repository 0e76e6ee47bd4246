-- The header lines of a script: the parameters of its system, the store call that fails, and the contents of the store.
use Rattle.std.specs.Prelude.{◌≡◌, ◌⊎◌, ◌<◌, ◌≤◌, ◌+◌, ◌*◌, ◌++◌, ◌||◌, ℕ, Bool, List, [], ◌∷◌, Some, None, Result, Err}
use Rattle.std.specs.Prelude.{OnOk, length, codes, bytes_eq}
use Rattle.std.specs.List.{repeat}
use Rattle.percent_encoding.specs.Percent.{percent_decode as decoded}
use Rattle.iol_core.specs.Configuration.{IsInRange}
use Rattle.iol_core.specs.declared.configuration.Config.{Config}
use Rattle.iol_back.specs.Disk.{IsSlot, OthersStay, content}
use Rattle.iolite.specs.declared.headers.HeaderError.{HeaderError}
use Rattle.iolite.specs.declared.headers.HeaderError.TheVariants.{NotACommand}
use Rattle.iolite.specs.declared.setup.Setup.{Setup}
use Rattle.iolite.specs.declared.words.TheConstants.{MAX_REPEATED_BYTES}
use Rattle.iolite.specs.Words.{IsLong, IsShort, rest_of, value, word}

-- a line that begins with this word is a header
abbrev pub is_header : List ℕ → Bool
is_header w = bytes_eq w (codes "config")
    || (bytes_eq w (codes "fault") || (bytes_eq w (codes "store") || bytes_eq w (codes "storen")))

-- the parameters of a system, three words
abbrev pub sizes_of : List ℕ → Config
sizes_of words = record {
  chunks = value (word words);
  gen_limit = value (word (rest_of words));
  sums = value (rest_of (rest_of words));
}

-- `CHUNKS GENERATIONS SUMS`, each in its range
pub record AreSizes (words : List ℕ) : Type 0 where
  pub chunks : IsShort (word words)
  pub gen_limit : IsShort (word (rest_of words))
  pub sums : IsShort (rest_of (rest_of words))
  pub in_range : IsInRange (sizes_of words)

-- the parameters are set, if none were given
pub record SetsSizes (words : List ℕ) (old new : Setup) : Type 0 where
  pub sizes : AreSizes words
  pub none : old.config ≡ None
  pub set : new.config ≡ Some (sizes_of words)
  pub fault : new.fault ≡ old.fault
  pub slots : new.slots ≡ old.slots

-- the number of the store call that fails is set, counted from 1, unless it was given before
pub record SetsFault (numeral : List ℕ) (old new : Setup) : Type 0 where
  pub number : IsLong numeral
  pub some : 0 < value numeral
  pub none : old.fault ≡ None
  pub set : new.fault ≡ Some (value numeral)
  pub config : new.config ≡ old.config
  pub slots : new.slots ≡ old.slots

-- bytes are appended to a file of the store, which may exceed the limit of a file by one
pub record StoresBytes (slot bytes : List ℕ) (old new : Setup) : Type 0 where
  pub number : IsShort slot
  pub there : IsSlot (value slot)
  pub fits : length (content old.slots (value slot)) + length bytes ≤ MAX_REPEATED_BYTES
  pub stored : content new.slots (value slot) ≡ content old.slots (value slot) ++ bytes
  pub others : OthersStay (value slot) old.slots new.slots
  pub config : new.config ≡ old.config
  pub fault : new.fault ≡ old.fault

-- a text is appended, as many times as a numeral says
pub record StoresRepeated (slot numeral text : List ℕ) (old new : Setup) : Type 0 where
  pub number : IsShort numeral
  pub short : value numeral * length (decoded text) ≤ MAX_REPEATED_BYTES
  pub stores : StoresBytes slot (repeat (value numeral) (decoded text)) old new

-- the effect of a header, by its first word and its arguments: `config CHUNKS GENERATIONS SUMS`, `fault CALL`,
-- `store SLOT TEXT`, `storen SLOT COUNT TEXT`
abbrev pub SetsUp : (name rest : List ℕ) → (old new : Setup) → Type 0
SetsUp name rest old new =
    ((name ≡ codes "config") × SetsSizes rest old new)
    ⊎ (((name ≡ codes "fault") × SetsFault rest old new)
    ⊎ (((name ≡ codes "store") × StoresBytes (word rest) (decoded (rest_of rest)) old new)
    ⊎ ((name ≡ codes "storen") × StoresRepeated (word rest) (word (rest_of rest)) (rest_of (rest_of rest)) old new)))

-- A header is applied, and then P holds of the new setup; or it is no command here, exactly if P holds of no setup.
pub record Takes {A : Type 0} (P : Setup → Type 0) (now : Setup) (r : Result A HeaderError) : Type 0 where
  pub sets : OnOk r (P now)
  pub none : r ≡ Err NotACommand → (x : Setup) → ¬ (P x)

-- headers applied in order
abbrev pub SetUp : List (List ℕ) → (old new : Setup) → Type 0
SetUp [] old new = new ≡ old
SetUp (l ∷ ls) old new = (mid : Setup) × SetsUp (word l) (rest_of l) old mid × SetUp ls mid new

-- the setup without headers
pub record IsDefault (x : Setup) : Type 0 where
  pub config : x.config ≡ None
  pub fault : x.fault ≡ None
  pub slots : x.slots ≡ []
