-- The world of a site of files.
use Rattle.std.specs.Prelude.{◌≡◌, ℕ, ◌-◌, ◌^◌, All, Bool, Contains, List, [], IsFalse, IsTrue, length, min, sum}
use Rattle.iol_back.specs.Disk.{Disk, content, length_reported}
use Rattle.iol_core.specs.declared.configuration.Config.{Config}
use Rattle.iol_core.specs.declared.configuration.TheConstants.Config.{DEFAULT}
use Rattle.iol_core.specs.declared.events.Reply.{Reply}
use Rattle.iol_proc.specs.World.{WorldState}
use Rattle.iol_system.specs.Machine.{SystemState}
use Rattle.flash_cgi.specs.declared.worker.Worker.{Worker}
use Rattle.flash_laws.specs.World.Consistency.{Actor}
use Rattle.flash_lite.specs.HostedSite.{HostsIfHonest, HostsOver}
use Rattle.flash_lite.specs.Prelude.{AreFilesOf}
use Rattle.flash_lite.specs.declared.site.Site.{Site}

-- The world of a site of these files over a store, before its first turn: it was set up in a new system with these
-- parameters, without any other event. Over an honest store it is the site's world in the copying machine, to which
-- the server's laws apply.
pub record IsWorldWith (config : Config) (names : List (List ℕ)) (store : Disk)
    (world : WorldState SystemState (Actor Worker)) : Type 0 where
  pub site : Site
  pub files : AreFilesOf names site.files.items
  pub replies : List Reply
  pub idle : Bool
  pub over : HostsOver config store site [] replies 0 idle world
  pub honest : HostsIfHonest store site [] replies 0 idle world

-- the same with the default parameters
abbrev pub IsWorldOf : (names : List (List ℕ)) (store : Disk) (world : WorldState SystemState (Actor Worker)) → Type 0
IsWorldOf names store world = IsWorldWith DEFAULT names store world

-- A world of some site over some store, before its first turn, with any parameters.
pub record IsSiteWorld (world : WorldState SystemState (Actor Worker)) : Type 0 where
  pub config : Config
  pub names : List (List ℕ)
  pub store : Disk
  pub is : IsWorldWith config names store world

abbrev pub BeginsSite : (world : WorldState SystemState (Actor Worker)) → Type 0
BeginsSite world = ∥ IsSiteWorld world ∥₁

-- The files of a store have this number of bytes together, at most 2^64 - 1 of them counted: by their bytes in an honest
-- store, by their reported lengths in any other.
pub record HasBytes (store : Disk) (bytes : ℕ) : Type 0 where
  pub lengths : List ℕ
  pub honest : IsTrue store.honest → (f : ℕ) → length (content store.slots f) ≡ length_reported lengths f
  pub reported : IsFalse store.honest → store.reported ≡ lengths
  pub total : bytes ≡ min (sum lengths) (2 ^ 64 - 1)

-- The world of a site of this number of files over some store, in which they have this number of bytes, before its first
-- turn, with the default parameters.
pub record IsSiteOf (count bytes : ℕ) (world : WorldState SystemState (Actor Worker)) : Type 0 where
  pub names : List (List ℕ)
  pub store : Disk
  pub is : IsWorldOf names store world
  pub count-is : length names ≡ count
  pub bytes-are : HasBytes store bytes

abbrev pub BeginsSiteOf : (count bytes : ℕ) → (world : WorldState SystemState (Actor Worker)) → Type 0
BeginsSiteOf count bytes world = ∥ IsSiteOf count bytes world ∥₁

-- The world of a site of some of these files over some store, before its first turn, with the default parameters.
pub record IsSiteAmong (found : List (List ℕ)) (world : WorldState SystemState (Actor Worker)) : Type 0 where
  pub names : List (List ℕ)
  pub store : Disk
  pub is : IsWorldOf names store world
  pub among : All (λ name. Contains found name) names

abbrev pub BeginsSiteAmong : (found : List (List ℕ)) → (world : WorldState SystemState (Actor Worker)) → Type 0
BeginsSiteAmong found world = ∥ IsSiteAmong found world ∥₁

-- A world of a site over an honest store, if the site is to be in memory.
pub record BeginsSiteIn (in_memory : Bool) (world : WorldState SystemState (Actor Worker)) : Type 0 where
  pub site : BeginsSite world
  pub honest : IsTrue in_memory → IsTrue world.machine.disk.honest
