-- Writing back dirty extents, and the state it leaves in addition to its meaning.
use Rattle.std.specs.Prelude.{◌≡◌, ◌⊎◌, ℕ, [], length, None, Result, Ok, Err, OnOk, ◌≢◌}
use Rattle.iol_core.specs.Meaning.{first}
use Rattle.iol_core.specs.Calls.Files.{fsync}
use Rattle.iol_core.specs.Calls.Outside as outside
use Rattle.iol_core.specs.Prelude.{file_on}
use Rattle.iol_core.specs.declared.refusals.Refusal.{Refusal}
use Rattle.iol_core.specs.declared.refusals.Refusal.TheVariants.{Fault}
use Rattle.iol_back.specs.Disk.{Disk}
use Rattle.iol_extent.specs.Extents.{dirty_in}
use Rattle.iol_hold.specs.Pages.{KeepsPages}
use Rattle.iol_cache.specs.CacheState.{extents_in}
use Rattle.iol_cache.specs.Evictions.{AllDirty, EvictsPools}
use Rattle.iol_cache.specs.KeptCover.{KeepsDirty}
use Rattle.iol_cache.specs.ReadResults.{FaultCounts}
use Rattle.iol_cache.specs.WriteBack as cache
use Rattle.iol_cache.specs.declared.sync.Flushed.{Flushed}
use Rattle.iol_kernel.specs.FileCalls.{Serves, holding_of}
use Rattle.iol_kernel.specs.FileLengths.{HasFile}
use Rattle.iol_kernel.specs.KernelState.{KernelState, machine_of, read_of}
use Rattle.iol_kernel.specs.Readings.{Reading}

-- Between two events: an fsync by this descriptor passes its tests, and the descriptor is open on the file in slot f.
pub record MaySync (d fd f : ℕ) (h : KernelState) : Type 0 where
  pub has : HasFile h f
  pub passed : (g : Reading) → first (fsync (read_of g h) d fd).refusals ≡ None
  pub file : (g : Reading) → f ≡ file_on (read_of g h) d fd

-- The first dirty extents of the file in slot f were written back and are clean: all of them, or those before the one
-- at which the store failed. Each entered the order of eviction as a new one. Fault is returned exactly when one more
-- failure was counted. Nothing else changed; a refusal before the store was asked changed nothing.
pub record SyncsFile {A : Type 0} (f : ℕ) (disk : Disk) (old : KernelState) (r : Result A Refusal) (after : Disk)
    (new : KernelState) : Type 0 where
  pub syncs : cache.Syncs old.store f old.cache new.cache disk after
  pub clean : OnOk r (dirty_in (extents_in new.cache.files f) ≡ None)
  pub writes : cache.WritesDirty old.store f old.cache new.cache disk after r
      ⊎ (((g : ℕ) → r ≢ Err (Fault g)) × (new ≡ old) × (after ≡ disk))
  pub counts : FaultCounts disk after r
  pub same : new ≡ record old { cache = new.cache }

-- The result of an fsync by this descriptor, which is open on the file in slot f: its meaning, and the state it leaves.
pub record SyncsBack (d fd f : ℕ) (disk : Disk) (old : KernelState) (r : Result (Unit {0}) Refusal) (after : Disk)
    (new : KernelState) : Type 0 where
  pub serves : Serves (λ s. fsync s d fd) disk old r after new
  pub syncs : SyncsFile f disk old r after new

-- the result of a flush, without the file's number
abbrev pub done_of : Result Flushed Refusal → Result (Unit {0}) Refusal
done_of (Ok x) = Ok tt
done_of (Err x) = Err x

-- The dirty extent of least file and offset was written back and is clean, unless no extent was dirty or the store
-- failed. Fault is returned exactly when one more failure was counted. Nothing else changed.
pub record FlushesOne (disk : Disk) (old : KernelState) (r : Result (Unit {0}) Refusal) (after : Disk)
    (new : KernelState) : Type 0 where
  pub flushed : Result Flushed Refusal
  pub reported : r ≡ done_of flushed
  pub flushes : cache.Flushes old.store old.cache new.cache disk after flushed
  pub counts : FaultCounts disk after r
  pub same : new ≡ record old { cache = new.cache }

-- The result of an fsync by this descriptor, for the file that the descriptor is open on.
abbrev pub SyncsOpen : (d fd : ℕ) → Disk → (old : KernelState) → Result (Unit {0}) Refusal → Disk → (new : KernelState)
    → Type 0
SyncsOpen d fd disk old r after new = SyncsBack d fd (file_on (machine_of [] old) d fd) disk old r after new

-- The result of a flush: its meaning, and the state it leaves.
pub record FlushesBack (disk : Disk) (old : KernelState) (r : Result (Unit {0}) Refusal) (after : Disk)
    (new : KernelState) : Type 0 where
  pub serves : Serves outside.flush disk old r after new
  pub flushes : FlushesOne disk old r after new

-- All clean extents were evicted, pool by pool, in the order of eviction: the machine's step, over any store. Dirty
-- ones keep their places, and no page's generation is incremented. Only pages and the extents of files in memory
-- changed.
pub record DropsClean (old new : KernelState) : Type 0 where
  pub serves : (disk : Disk) → Serves outside.drop_clean disk old (Ok tt) disk new
  pub pages : KeepsPages old.store new.store []
  pub none : (f : ℕ) → AllDirty (extents_in new.cache.files f)
  pub victims : EvictsPools (length old.cache.orders) (holding_of old) (holding_of new)
  pub rest : new ≡ record old { store = new.store; cache = new.cache }
  pub keeps : KeepsDirty old.cache new.cache
