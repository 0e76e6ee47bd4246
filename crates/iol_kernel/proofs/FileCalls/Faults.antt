-- Faults of the store, in calls that write back.
use Rattle.std.proofs.Common.{◌≡◌, ℕ, List, length, ap, sym, refl, subst, arith, true, inr, Option, None}
use Rattle.std.specs.Prelude.{Result, Ok, Err, OnOk, OnErr, IfErr, MatchOption}
use Rattle.iol_core.specs.NumberedLists.{is_numbered}
use Rattle.iol_core.specs.State.{State}
use Rattle.iol_core.specs.Meaning.{Step, first, FaultOf}
use Rattle.iol_core.specs.Calls.Files as calls
use Rattle.iol_core.specs.Calls.Files.{file_on}
use Rattle.iol_core.specs.Calls.Outside as outside
use Rattle.iol_core.specs.declared.refusals.Refusal.{Refusal}
use Rattle.iol_core.specs.declared.refusals.Refusal.TheVariants.{Fault}
use Rattle.iol_back.specs.Disk.{Disk, raised}
use Rattle.iol_hold.specs.StoreState.{Stored}
use Rattle.iol_cache.specs.CacheState.{Cached}
use Rattle.iol_cache.specs.ReadResults.{FaultCounts}
use Rattle.iol_cache.specs.Sound as cache
use Rattle.iol_cache.specs.WriteBack.{Flushes, KeepsBytes, KeepsStored}
use Rattle.iol_cache.specs.declared.sync.Flushed.{Flushed}
use Rattle.iol_cache.specs.declared.sync.Flushed.TheVariants.{Nothing, Wrote}
use Rattle.iol_cache.proofs.Extents.FileEntries.{numbered_bounds, numbered_yes}
use Rattle.iol_cache.proofs.RangeWrites.WriteBack.{syncs_none}
use Rattle.iol_kernel.specs.FileCalls.{Serves}
use Rattle.iol_kernel.specs.KernelState.{KernelState, IsSound, machine_of}
use Rattle.iol_kernel.specs.Readings.{bytes_over}
use Rattle.iol_kernel.specs.WriteBack.{FlushesOne, SyncsFile, done_of}
use Rattle.iol_kernel.proofs.FileCalls.FileNames.{as_many, cache_sound, files-read_of}
use Rattle.iol_kernel.proofs.FileCalls.WriteBack.{back_serves, dirty_there, flush_parts}

-- of one file

pub fault_counted : (f : ℕ) (x y : Disk) (r : Result (Unit {0}) Refusal) → OnErr r (y.failures ≡ raised x.failures)
    → OnOk r (y.failures ≡ x.failures) → IfErr r (FaultOf f) → FaultCounts x y r
fault_counted f x y (Ok u) fails succeeds late = succeeds
fault_counted f x y (Err (Fault g)) fails succeeds late = fails
fault_counted f x y (Err z) fails succeeds late = absurd late

pub sync_steps : (s : State) (by fd f : ℕ) (r : Result (Unit {0}) Refusal) → first (calls.fsync s by fd).refusals ≡ None
    → f ≡ file_on s by fd → IfErr r (FaultOf f) → Step (calls.fsync s by fd) s r s
sync_steps s by fd f (Ok u) passed is late = (passed, refl, refl)
sync_steps s by fd f (Err x) passed is late = (
  subst (λ (o : Option Refusal). MatchOption o (FaultOf (file_on s by fd) x) (λ y. x ≡ y)) (sym passed)
      (subst (λ n. FaultOf n x) is late),
  refl,
)

-- a refusal before the store was asked
pub refused_sync : (f : ℕ) (disk : Disk) (h : KernelState) (x : Refusal) → ((g : ℕ) → x ≡ Fault g → ⊥)
    → SyncsFile {A = Unit {0}} f disk h (Err x) disk h
refused_sync f disk h x other =
    record {
      syncs = syncs_none h.store f h.cache disk;
      clean = tt;
      writes =
          inr ((λ g e. other g (let y : x ≡ Fault g = cc in y)), refl, refl);
      counts = none x other;
      same = refl;
    }
  where
    none : (y : Refusal) → ((g : ℕ) → y ≡ Fault g → ⊥) → FaultCounts {A = Unit {0}} disk disk (Err y)
    none (Fault g) other = absurd (other g refl)
    none y other = refl

-- of the file whose extent is flushed

flush_counted : (s : Stored) (c d : Cached) (x y : Disk) (r : Result Flushed Refusal) → Flushes s c d x y r
    → FaultCounts x y (done_of r)
flush_counted s c d x y (Ok Nothing) m = ap (λ (z : Disk). z.failures) m.2
flush_counted s c d x y (Ok (Wrote f)) m = m.1.counts.0
flush_counted s c d x y (Err (Fault f)) m = m.1.counts
flush_counted s c d x y (Err z) m = absurd m

-- the machine has a file that is in the cache
there : (h : KernelState) (f : ℕ) (stored : List (List ℕ)) → IsSound h → is_numbered h.cache.files f ≡ true
    → is_numbered (machine_of stored h).files f ≡ true
there h f stored sound is =
    let b = numbered_bounds h.cache.files f is in
    numbered_yes (machine_of stored h).files f b.0
    (omega (arith, b.1, as_many h sound.filed, ap length (files-read_of (bytes_over stored h.store) h)))

flush_steps : (h : KernelState) (d : Cached) (x y : Disk) (r : Result Flushed Refusal) → IsSound h
    → Flushes h.store h.cache d x y r → (stored : List (List ℕ))
    → Step (outside.flush (machine_of stored h)) (machine_of stored h) (done_of r) (machine_of stored h)
flush_steps h d x y (Ok z) sound m stored = (refl, refl, refl)
flush_steps h d x y (Err (Fault f)) sound m stored =
    (there h f stored sound (dirty_there h.cache.files f m.1.extent m.1.first), refl)
flush_steps h d x y (Err z) sound m stored = absurd m

-- the flush, with the answer of the call
module _ (h : KernelState) (d : Cached) (x y : Disk) (r : Result Flushed Refusal) {q : Result (Unit {0}) Refusal}
    (is : done_of r ≡ q) (m : Flushes h.store h.cache d x y r) where
  abbrev next : KernelState
  next = record h { cache = d }

  pub flush_serves : IsSound h → cache.IsSound h.store d → KeepsBytes h.store h.cache d x y
      → KeepsStored h.store h.cache d x y → Serves outside.flush x h q y next
  flush_serves sound after bytes stored =
      let parts = flush_parts h.store h.cache d x y r m in
      subst (λ (z : Result (Unit {0}) Refusal). Serves outside.flush x h z y next) is
      (back_serves outside.flush h next d x y (done_of r) sound parts.0 after (flush_steps h d x y r sound m) parts.1
      bytes stored (cache_sound h sound) refl)

  pub flushes_one : FlushesOne x h q y next
  flushes_one = record {
    flushed = r;
    reported = sym is;
    flushes = m;
    counts = subst (λ (z : Result (Unit {0}) Refusal). FaultCounts x y z) is (flush_counted h.store h.cache d x y r m);
    same = refl;
  }
