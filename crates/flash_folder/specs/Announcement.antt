-- The line that a server prints once it listens.
use Rattle.std.specs.Prelude.{ℕ, List, [], ◌∷◌, ◌++◌, Option, codes}
use Rattle.std.specs.Fmt.{decimal}
use Rattle.std.specs.Io.KnownBytes.{Appends}

abbrev pub announcement : (port : ℕ) → List ℕ
announcement port = codes "listening " ++ decimal port ++ 10 ∷ []

-- this port was announced, on a line of its own
abbrev pub AnnouncesPort : (port : ℕ) → (held now : Option (List ℕ)) → Type 0
AnnouncesPort port held now = Appends held now (announcement port)

-- the port that it has, on a line of its own
pub record Announces (held now : Option (List ℕ)) : Type 0 where
  pub port : ℕ
  pub reported : AnnouncesPort port held now
