-- What a source reads, and its state afterwards.
use Rattle.std.specs.Prelude.{◌≡◌, ◌≤◌, ◌⊎◌, ℕ, ◌+◌, Bool, false, List, Option, None, Some, Result, Ok, Err, ⊤, length, nat_le}
use Rattle.std.specs.Option.{option_map_or}
use Rattle.iol_proc.specs.World.{WorldState}
use Rattle.iol_system.specs.Machine.{SystemState}
use Rattle.iol_tree.specs.Index.{IndexedFiles}
use Rattle.flash_cgi.specs.declared.worker.Worker.{Worker}
use Rattle.flash_laws.specs.World.Consistency.{Actor}
use Rattle.flash_site.specs.World.{BeginsSiteAmong}
use Rattle.flash_site.specs.declared.source.Summary.{Summary}

-- Unless the site was read, the state is unchanged: a change of the folder that was not read is still to be read.
abbrev pub StaysUnlessRead : {S L E : Type 0} → Result (Option L) E → (old new : S) → Type 0
StaysUnlessRead (Ok (Some loaded)) old new = ⊤
StaysUnlessRead (Ok None) old new = new ≡ old
StaysUnlessRead (Err e) old new = new ≡ old

-- a fact about the site, if it was read
abbrev pub IfRead : {L E : Type 0} → Result (Option L) E → (L → Type 0) → Type 0
IfRead (Ok (Some loaded)) fact = fact loaded
IfRead (Ok None) fact = ⊤
IfRead (Err e) fact = ⊤

-- this number of bytes is within the limit, if there is one, of what is read into memory
abbrev pub is_within : (limit : Option ℕ) → (bytes : ℕ) → Bool
is_within limit bytes = option_map_or (λ most. nat_le bytes most) limit false

-- The files that were found in the folder when its site was read: the site has some of them, and each of the others
-- counts as an entry that is not served.
pub record IsFound (root : List ℕ) (summary : Summary) (world : WorldState SystemState (Actor Worker))
    (found : IndexedFiles) : Type 0 where
  pub root-is : found.root ≡ root
  pub served : BeginsSiteAmong found.names world
  pub counted : length found.names ≤ summary.files + summary.skipped

-- the source remembers them
abbrev pub Remembers : (root : List ℕ) → Summary → WorldState SystemState (Actor Worker)
    → (found : Option IndexedFiles) → Type 0
Remembers root summary world None = ⊥
Remembers root summary world (Some found) = IsFound root summary world found

-- It remembers them, unless the folder changed while it was read: then it remembers none, and nothing is in memory.
abbrev pub MayRemember : (root : List ℕ) → Summary → WorldState SystemState (Actor Worker)
    → (found : Option IndexedFiles) → Type 0
MayRemember root summary world found =
    Remembers root summary world found ⊎ ((found ≡ None) × (summary.is_in_memory ≡ false))
