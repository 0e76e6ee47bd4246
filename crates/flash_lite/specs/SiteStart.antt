-- The world of a site before its first turn, and the reasons for its refusal, over any store.
use Rattle.std.specs.Prelude.{◌≡◌, ◌⊎◌, ◌*◌, [], replicate, false, IsFalse}
use Rattle.iol_back.specs.Disk.{Disk}
use Rattle.iol_core.specs.Configuration.{IsInRange}
use Rattle.iol_core.specs.State.{new_state}
use Rattle.iol_core.specs.declared.configuration.Config.{Config}
use Rattle.iol_core.specs.declared.limits.TheConstants.{CHUNK_PAGES}
use Rattle.iol_core.specs.declared.refusals.Refusal.{Refusal}
use Rattle.iol_core.specs.declared.refusals.Refusal.TheVariants.{BadRange, Memory}
use Rattle.iol_system.specs.Prelude.{no_entry, slots_of}
use Rattle.iol_proc.specs.World.{WorldState}
use Rattle.iol_system.specs.Machine.{SystemState, machine_of}
use Rattle.iol_system.specs.Safe.{IsSafe}
use Rattle.flash_cgi.specs.declared.worker.Worker.{Worker}
use Rattle.flash_laws.specs.World.Consistency.{Actor}
use Rattle.flash_lite.specs.NewWorld.{AreInSlots}
use Rattle.flash_lite.specs.Setup.{IsMade, IsRefused, is_in_range}
use Rattle.flash_lite.specs.SiteState.{IsSetUp}
use Rattle.flash_lite.specs.declared.site.Site.{Site}

-- A new system with these parameters over this store: none of its pages was used, no sum is remembered, and no file is
-- cached.
pub record IsNewSystem (config : Config) (store : Disk) (s : SystemState) : Type 0 where
  pub machine : machine_of s ≡ new_state (slots_of store.slots)
  pub disk : s.disk ≡ store
  pub entries : s.kernel.store.arena.entries ≡ replicate (config.chunks * CHUNK_PAGES) no_entry
  pub taken : s.kernel.store.arena.taken ≡ replicate config.chunks false
  pub limit : s.kernel.store.arena.limit ≡ config.gen_limit
  pub sums : s.kernel.sums.entries ≡ []
  pub sum_limit : s.kernel.sums.limit ≡ config.sums
  pub orders : s.kernel.cache.orders ≡ []
  pub safe : IsSafe s

-- The world of a site on such a system, which executed the calls of the site, none refused: it is set up, and each
-- process has Done as its last reply.
pub record Starts (config : Config) (store : Disk) (s : Site) (w : WorldState SystemState (Actor Worker)) : Type 0 where
  pub begun : SystemState
  pub new : IsNewSystem config store begun
  pub made : IsMade s begun w.machine
  pub site : IsSetUp s (machine_of w.machine)
  pub process_slots : AreInSlots s w.process_slots
  pub failure_free : IsFalse w.resource_failure

-- parameters, or a site, outside their limits
abbrev pub IsOutOfRange : Config → Site → Type 0
IsOutOfRange config s = (¬ IsInRange config) ⊎ IsFalse (is_in_range s)

-- such a system executes the calls of the site, and this is the first refusal
pub record IsRefusedNew (config : Config) (store : Disk) (s : Site) (x : Refusal) : Type 0 where
  pub begun : SystemState
  pub after : SystemState
  pub new : IsNewSystem config store begun
  pub refused : IsRefused s x begun after

-- the reason for which there is no world: something is outside its limits, memory ran out, or a call of the site is
-- refused
abbrev pub WhyNone : Config → (store : Disk) → Site → Refusal → Type 0
WhyNone config store s x = ((x ≡ BadRange) × IsOutOfRange config s) ⊎ (x ≡ Memory) ⊎ IsRefusedNew config store s x
