-- A system that C makes.
use Rattle.std.specs.Prelude.{◌≡◌, ◌⊎◌, ℕ, ℤ, List, [], Option, None, Some, Result, Ok, Err, Box, IsTrue}
use Rattle.std.specs.Global.{Global}
use Rattle.iol_back.specs.Disk.{Disk}
use Rattle.iol_core.specs.declared.configuration.Config.{Config}
use Rattle.iol_core.specs.declared.refusals.Refusal.{Refusal}
use Rattle.iol_system.specs.Machine.{SystemState}
use Rattle.iol_system.specs.NewSystem.{MakesSystem}
use Rattle.iol_ffi.specs.Replies.{number_of}
use Rattle.iol_ffi.specs.Store.{disk_of}
use Rattle.iol_ffi.specs.declared.Machine.{Machine}
use Rattle.iol_ffi.specs.declared.store.HostStore.TheVariants as store
use Rattle.iol_ffi.specs.declared.store.OpenFiles.{OpenFiles}

-- the sizes that C passed
abbrev pub sizes : (chunks generations sums : ℕ) → Config
sizes chunks generations sums = record { chunks = chunks; gen_limit = generations; sums = sums }

-- the system of a boxed machine
abbrev pub system_in : Result (Box Machine Global) Refusal → Result SystemState Refusal
system_in (Ok b) = Ok b.value.system
system_in (Err e) = Err e

-- a new system of these sizes over a store, or why there is none
abbrev pub IsCreated : Config → Disk → Result (Box Machine Global) Refusal → Type 0
IsCreated config under r = MakesSystem config under (system_in r)

-- the number that C gets, and the machine that is then in its handle
abbrev pub IsHanded : Result (Box Machine Global) Refusal → (number : ℕ) → Option Machine → Type 0
IsHanded (Ok b) n new = (n ≡ 0) × (new ≡ Some b.value)
IsHanded (Err e) n new = (n ≡ number_of e) × (new ≡ None)

-- An empty handle gets a new system over a store, and C gets 0. Or it stays empty, and C gets the refusal's number.
pub record Creates (config : Config) (under : Disk) (number : ℕ) (new : Option Machine) : Type 0 where
  pub outcome : Result (Box Machine Global) Refusal
  pub created : IsCreated config under outcome
  pub handed : IsHanded outcome number new

-- the same over an empty store in memory
pub record CreatesInMemory (config : Config) (number : ℕ) (new : Option Machine) : Type 0 where
  pub under : Disk
  pub honest : IsTrue under.honest
  pub empty : under.slots ≡ []
  pub creates : Creates config under number new

-- the same over files at these descriptors, of these lengths: file N of the store is descriptor N - 1
pub record CreatesOverFiles (config : Config) (fds : List ℤ) (lens : List ℕ) (number : ℕ) (new : Option Machine) :
    Type 0 where
  pub files : OpenFiles
  pub has_fds : files.fds.items ≡ fds
  pub has_lens : files.lens.items ≡ lens
  pub unfailed : files.failures ≡ 0
  pub creates : Creates config (disk_of (store.Opened files)) number new

-- the same, or there was no memory for the lists of descriptors and lengths
abbrev pub CreatesOver : Config → (fds : List ℤ) → (lens : List ℕ) → (number : ℕ) → (new : Option Machine) → Type 0
CreatesOver config fds lens n new = CreatesOverFiles config fds lens n new ⊎ ((n ≡ 17) × (new ≡ None))
