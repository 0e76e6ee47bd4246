-- The words of a command, those after the program's name.
use Rattle.std.specs.Prelude.{◌≡◌, ◌⊎◌, ◌<◌, ◌≤◌, ◌^◌, ℕ, List, [], ◌∷◌, codes, length, ⊤}
use Rattle.std.specs.Str.Parse.{IsNumeral}
use Rattle.iolite.specs.Words.{IsShort, value}
use Rattle.iolite.specs.declared.commands.Command.{Command}
use Rattle.iolite.specs.declared.commands.Command.TheVariants.{Replay, Serve, Loop}
use Rattle.iolite.specs.declared.commands.TheConstants.{MAX_COUNT, MAX_PATH_BYTES}

-- a port, in decimal digits only
pub record IsPort (w : List ℕ) : Type 0 where
  pub numeral : IsNumeral 10 w
  pub fits : value w < 2 ^ 16

-- the number of connections, in decimal digits only
pub record IsCount (w : List ℕ) : Type 0 where
  pub number : IsShort w
  pub some : 1 ≤ value w
  pub most : value w ≤ MAX_COUNT

-- the arguments of a command
abbrev pub IsGivenNothing : Command → Type 0
IsGivenNothing Replay = ⊤
IsGivenNothing c = ⊥

abbrev pub ServesWith : (port : ℕ) → (root : List ℕ) → (count : ℕ) → Command → Type 0
ServesWith port root count (Serve p r n) = (p ≡ port) × (r.now ≡ root) × (n ≡ count)
ServesWith port root count c = ⊥

abbrev pub LoopsWith : (root path : List ℕ) → Command → Type 0
LoopsWith root path (Loop r p) = (r.now ≡ root) × (p.now ≡ path)
LoopsWith root path c = ⊥

-- `replay`
pub record IsReplay (name : List ℕ) (c : Command) : Type 0 where
  pub named : name ≡ codes "replay"
  pub given : IsGivenNothing c

-- `serve PORT ROOT COUNT`
pub record IsServe (name port root count : List ℕ) (c : Command) : Type 0 where
  pub named : name ≡ codes "serve"
  pub on : IsPort port
  pub times : IsCount count
  pub given : ServesWith (value port) root (value count) c

-- `loop ROOT PATH`
pub record IsLoop (name root path : List ℕ) (c : Command) : Type 0 where
  pub named : name ≡ codes "loop"
  pub short : length path ≤ MAX_PATH_BYTES
  pub given : LoopsWith root path c

-- the command of these words
abbrev pub IsCommand : (words : List (List ℕ)) → Command → Type 0
IsCommand (name ∷ []) c = IsReplay name c
IsCommand (name ∷ root ∷ path ∷ []) c = IsLoop name root path c
IsCommand (name ∷ port ∷ root ∷ count ∷ []) c = IsServe name port root count c
IsCommand words c = ⊥

abbrev pub IsNoCommand : (words : List (List ℕ)) → Type 0
IsNoCommand words = (c : Command) → ¬ (IsCommand words c)

-- Words for which the status may be that of an invalid command or script: they are no command, or `replay`, whose
-- script may be invalid.
abbrev pub MayBeBad : (words : List (List ℕ)) → Type 0
MayBeBad words = IsNoCommand words ⊎ IsCommand words Replay
