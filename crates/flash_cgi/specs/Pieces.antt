-- Invariants of the buffered output of a worker, given the bytes of its domain's aggregates by number.
use Rattle.std.specs.Prelude.{◌≡◌, ◌≢◌, ℕ, ◌≤◌, List, [], ◌∷◌, length, drop, Option, Some, None, ⊤}
use Rattle.flash_cgi.specs.Collecting.{Collected, but_last, bytes_of_one, without_last}
use Rattle.flash_cgi.specs.declared.phase.Phase.{Phase}
use Rattle.flash_cgi.specs.declared.phase.Phase.TheVariants as phase
use Rattle.flash_cgi.specs.declared.piece.Place.{Place}
use Rattle.flash_cgi.specs.WorkerSteps.{bytes_at}

-- places are in order, within a text of this length
abbrev pub AreWithin : ℕ → List Place → Type 0
AreWithin n [] = ⊤
AreWithin n (p ∷ ps) = (p.at ≤ n) × AreWithin p.at ps

abbrev pub IsReadable : (ℕ → Option (List ℕ)) → (a : ℕ) → Type 0
IsReadable readable a = (bytes : List ℕ) × (readable a ≡ Some bytes)

-- the bytes of files exist, if files have places
abbrev pub FilesAreReadable : (ℕ → Option (List ℕ)) → (held : Option ℕ) → List Place → Type 0
FilesAreReadable readable None ps = ps ≡ []
FilesAreReadable readable (Some held) ps = IsReadable readable held

abbrev pub NextIsReadable : (ℕ → Option (List ℕ)) → (held next : Option ℕ) → Type 0
NextIsReadable readable held None = ⊤
NextIsReadable readable held (Some next) = IsReadable readable next × (held ≢ Some next)

-- the buffered output exists, with its places within a text of len bytes
pub record HasPiece (readable : ℕ → Option (List ℕ)) (len : ℕ) (x : Collected) : Type 0 where
  pub files : FilesAreReadable readable x.held x.places
  pub within : AreWithin len x.places
  pub next : NextIsReadable readable x.held x.next

-- this aggregate is not part of the buffered output
abbrev pub IsApart : Collected → (a : ℕ) → Type 0
IsApart x a = (x.held ≢ Some a) × (x.next ≢ Some a)

-- ---- by phase

-- a file may be buffered: no long file waits after it, and the place after its text is defined
pub record Gathers (readable : ℕ → Option (List ℕ)) (x : Collected) : Type 0 where
  pub piece : HasPiece readable (length x.text) x
  pub none_next : x.next ≡ None
  pub short : length x.text ≤ 4096

-- only the file that is too long is left of the buffered output
pub record IsRest (readable : ℕ → Option (List ℕ)) (x : Collected) : Type 0 where
  pub piece : HasPiece readable (length x.text) x
  pub no_text : x.text ≡ []
  pub no_places : x.places ≡ []

pub record Joins (readable : ℕ → Option (List ℕ)) (x : Collected) (held agg from : ℕ) : Type 0 where
  pub gathers : Gathers readable x
  pub held_is : x.held ≡ Some held
  pub is_readable : IsReadable readable agg
  pub from_is : from ≡ length (bytes_of_one readable x.held)

-- this aggregate is made of the text, and the bytes of the last place are to be inserted
pub record Cuts (readable : ℕ → Option (List ℕ)) (x : Collected) (held agg from : ℕ) : Type 0 where
  pub place : Place
  pub is_readable : IsReadable readable agg
  pub piece : HasPiece readable (length (bytes_at readable agg)) x
  pub no_text : x.text ≡ []
  pub held_is : x.held ≡ Some held
  pub places_are : x.places ≡ place ∷ but_last x.places
  pub from_is : place.from ≡ from
  pub apart : IsApart x agg

pub record Replaces (readable : ℕ → Option (List ℕ)) (x : Collected) (agg part at : ℕ) : Type 0 where
  pub is_readable : IsReadable readable agg
  pub parts : IsReadable readable part
  pub piece : HasPiece readable at (without_last x)
  pub within : at ≤ length (bytes_at readable agg)
  pub no_text : x.text ≡ []
  pub apart : IsApart x agg
  pub part_apart : IsApart x part
  pub differ : agg ≢ part

pub record DropsPart (readable : ℕ → Option (List ℕ)) (x : Collected) (part made : ℕ) : Type 0 where
  pub is_readable : IsReadable readable made
  pub piece : HasPiece readable (length (bytes_at readable made)) x
  pub no_text : x.text ≡ []
  pub part_apart : IsApart x part
  pub made_apart : IsApart x made
  pub differ : part ≢ made

pub record DropsText (readable : ℕ → Option (List ℕ)) (x : Collected) (agg part made : ℕ) : Type 0 where
  pub drops : DropsPart readable x part made
  pub apart : IsApart x agg
  pub differ : agg ≢ made

abbrev pub HoldsAt : (ℕ → Option (List ℕ)) → Collected → Phase → Type 0
HoldsAt readable x phase.Waiting = ⊤
HoldsAt readable x (phase.DroppingOther agg) = ⊤
HoldsAt readable x (phase.Aborting agg) = ⊤
HoldsAt readable x phase.Interpreting = HasPiece readable (length x.text) x
HoldsAt readable x (phase.Reading file p) = Gathers readable x
HoldsAt readable x (phase.ClosingCounted file s) = Gathers readable x
HoldsAt readable x (phase.DroppingCounted file agg s) = Gathers readable x × IsApart x agg
HoldsAt readable x (phase.ClosingFile file agg) = Gathers readable x × IsApart x agg
HoldsAt readable x (phase.JoiningFile held agg from len) = Joins readable x held agg from
HoldsAt readable x (phase.CuttingPart held agg from) = Cuts readable x held agg from
HoldsAt readable x (phase.ReplacingPart agg part at) = Replaces readable x agg part at
HoldsAt readable x (phase.DroppingText agg part made) = DropsText readable x agg part made
HoldsAt readable x (phase.DroppingPart part made) = DropsPart readable x part made
HoldsAt readable x (phase.DroppingWritten agg) = IsRest readable x × IsApart x agg
HoldsAt readable x (phase.Writing agg) = IsRest readable x × IsApart x agg
HoldsAt readable x (phase.CuttingRest agg from to) = IsRest readable x × IsApart x agg
HoldsAt readable x (phase.DroppingTaken agg rest) = IsRest readable x × IsApart x agg × IsApart x rest
