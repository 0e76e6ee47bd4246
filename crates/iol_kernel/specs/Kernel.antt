-- The fields of the kernel as a `KernelState`, and the contracts' predicates on kernels.
use Rattle.std.specs.Prelude.{◌≡◌, ℕ, List, [], length, Result, IfOk, OnErr}
use Rattle.iol_core.specs.State.{State}
use Rattle.iol_core.specs.Text.{Text}
use Rattle.iol_core.specs.Meaning.{Meaning}
use Rattle.iol_core.specs.Calls.Files.{file_new}
use Rattle.iol_core.specs.declared.descriptors.Descriptor.{Descriptor}
use Rattle.iol_core.specs.declared.refusals.Refusal.{Refusal}
use Rattle.iol_hold.specs.declared.slices.Slice.{Slice}
use Rattle.iol_desc.specs.Tables.{domains_of}
use Rattle.iol_back.specs.Disk.{Disk}
use Rattle.iol_cache.specs.Cache.{cached_of}
use Rattle.iol_kernel.specs.FileCalls as backed
use Rattle.iol_kernel.specs.Calls as calls
use Rattle.iol_kernel.specs.ReadsByCopy as copying
use Rattle.iol_kernel.specs.Room as making
use Rattle.iol_kernel.specs.OpenDescriptors as opened
use Rattle.iol_kernel.specs.QueueEnds as ends
use Rattle.iol_kernel.specs.FileReads as files
use Rattle.iol_kernel.specs.FileReads.{FileRead, read_at}
use Rattle.iol_kernel.specs.KernelState.{KernelState, read_of, machine_of}
use Rattle.iol_kernel.specs.Readings.{Reading}
use Rattle.iol_kernel.specs.WriteBack as back
use Rattle.iol_kernel.specs.declared.kernel.Kernel.{Kernel}
use Rattle.iol_kernel.specs.declared.open_file.OpenFile.{OpenFile}

abbrev pub state_of : Kernel → KernelState
state_of k = record {
  store = k.store;
  domains = domains_of k.domains;
  pipes = k.pipes.places;
  conns = k.conns.conns;
  next_conn = k.conns.next;
  sums = k.sums;
  files = k.files.table.files;
  cache = cached_of k.files.cache;
}

-- the copying machine's state, with the bytes in memory, over an empty store
abbrev pub machine : Kernel → State
machine k = machine_of [] (state_of k)

-- the copying machine's state with the content that f reads at each place
abbrev pub as_read : Reading → Kernel → State
as_read f k = read_of f (state_of k)

abbrev pub CarriesOut : {A : Type 0} → (State → Meaning A) → Kernel → Result A Refusal → Kernel → Type 0
CarriesOut m old r new = calls.CarriesOut m (state_of old) r (state_of new)

abbrev pub KeepsPlaces : {A : Type 0} → (State → Meaning A) → Kernel → Result A Refusal → Kernel → Type 0
KeepsPlaces m old r new = calls.KeepsPlaces m (state_of old) r (state_of new)

abbrev pub Answers : {A : Type 0} → (State → Meaning A) → Kernel → A → Kernel → Type 0
Answers m old a new = calls.Answers m (state_of old) a (state_of new)

abbrev pub Attempts : {A E : Type 0} → (State → Meaning A) → Kernel → Result A E → Kernel → Type 0
Attempts m old r new = calls.Attempts m (state_of old) r (state_of new)

abbrev pub Leaves : (State → State) → Kernel → Kernel → Type 0
Leaves after old new = calls.Leaves after (state_of old) (state_of new)

abbrev pub Steps : {A : Type 0} → (State → Meaning A) → Kernel → Result A Refusal → Kernel → Type 0
Steps m old r new = calls.Steps m (state_of old) r (state_of new)

abbrev pub Names : {A : Type 0} → Disk → (State → Meaning A) → Kernel → Result A Refusal → Kernel → Type 0
Names disk m old r new = calls.Names disk m (state_of old) r (state_of new)

-- the next slot of the store under the files is given this name and this pool
abbrev pub NamesNext : Disk → (d : ℕ) → (name : List ℕ) → (p : ℕ) → Kernel → Result ℕ Refusal → Kernel → Type 0
NamesNext disk d name p old r new = Names disk (λ s. file_new s d name p) old r new

abbrev pub Serves : {A : Type 0} → (State → Meaning A) → (disk : Disk) → Kernel → Result A Refusal
    → (after : Disk) → Kernel → Type 0
Serves m disk old r after new = backed.Serves m disk (state_of old) r after (state_of new)

abbrev pub LooksUp : {A : Type 0} → (State → Meaning A) → Disk → Kernel → Result A Refusal → Kernel → Type 0
LooksUp m disk old r new = backed.LooksUp m disk (state_of old) r (state_of new)

-- the result of a read by copying from the file that was found open
abbrev pub CopiesFile : (d fd : ℕ) → OpenFile → (n : ℕ) → Disk → Kernel → Result (List ℕ) Refusal → Disk → Kernel
    → Type 0
CopiesFile d fd found n disk old r after new =
    files.CopiesFromFile (read_at d fd found n) disk (state_of old) r after (state_of new)

-- the result of a read into a memory from the file that was found open
abbrev pub CopiesFileInto : (d fd : ℕ) → OpenFile → (memory filled : List ℕ) → Disk → Kernel → Result ℕ Refusal → Disk
    → Kernel
    → Type 0
CopiesFileInto d fd found memory filled disk old r after new =
    files.CopiesInto (read_at d fd found (length memory)) memory filled disk (state_of old) r after (state_of new)

abbrev pub ReadsList : (d fd n : ℕ) → Disk → Kernel → Result (List ℕ) Refusal → Disk → Kernel → Type 0
ReadsList d fd n disk old r after new = copying.ReadsList d fd n disk (state_of old) r after (state_of new)

abbrev pub SyncsBack : (d fd f : ℕ) → Disk → Kernel → Result (Unit {0}) Refusal → Disk → Kernel → Type 0
SyncsBack d fd f disk old r after new = back.SyncsBack d fd f disk (state_of old) r after (state_of new)

abbrev pub SyncsOpen : (d fd : ℕ) → Disk → Kernel → Result (Unit {0}) Refusal → Disk → Kernel → Type 0
SyncsOpen d fd disk old r after new = back.SyncsOpen d fd disk (state_of old) r after (state_of new)

abbrev pub FlushesBack : Disk → Kernel → Result (Unit {0}) Refusal → Disk → Kernel → Type 0
FlushesBack disk old r after new = back.FlushesBack disk (state_of old) r after (state_of new)

abbrev pub IsOpenOn : Kernel → (d fd : ℕ) → Descriptor → Type 0
IsOpenOn k d fd end = opened.IsOpenOn (state_of k) d fd end

abbrev pub IsOpenAt : Kernel → FileRead → Type 0
IsOpenAt k x = files.IsOpenAt (state_of k) x

abbrev pub TakesFromFile : FileRead → Disk → Kernel → Result ℕ Refusal → Disk → Kernel → Type 0
TakesFromFile x disk old r after new = files.TakesFromFile x disk (state_of old) r after (state_of new)

abbrev pub Reads : (d fd n : ℕ) → Disk → Kernel → Result ℕ Refusal → Disk → Kernel → Type 0
Reads d fd n disk old r after new = files.Reads d fd n disk (state_of old) r after (state_of new)

abbrev pub Shows : (d a : ℕ) → List ℕ → Kernel → Type 0
Shows d a bytes k = calls.Shows d a bytes (state_of k)

abbrev pub ShowsSoMany : (d a n : ℕ) → Kernel → Type 0
ShowsSoMany d a n k = calls.ShowsSoMany d a n (state_of k)

abbrev pub Transmits : (c max : ℕ) → Kernel → Result (List ℕ × ℕ) Refusal → Kernel → Type 0
Transmits c max old r new = calls.Transmits c max (state_of old) r (state_of new)

abbrev pub IsFound : Kernel → (d a : ℕ) → List Slice → Type 0
IsFound k d a xs = calls.IsFound (state_of k) d a xs

abbrev pub IsSoLong : Kernel → (d a n : ℕ) → Type 0
IsSoLong k d a n = calls.IsSoLong (state_of k) d a n

abbrev pub IsMissing : Kernel → (d a : ℕ) → Refusal → Type 0
IsMissing k d a x = calls.IsMissing (state_of k) d a x

abbrev pub IsUnopened : Kernel → (d fd : ℕ) → Refusal → Type 0
IsUnopened k d fd x = calls.IsUnopened (state_of k) d fd x

abbrev pub IsSource : Kernel → Descriptor → Type 0
IsSource k end = ends.IsSource (state_of k) end

abbrev pub GivesFront : Descriptor → (d n : ℕ) → Kernel → Kernel → List Slice → Type 0
GivesFront end d n old new slices = ends.GivesFront end d n (state_of old) (state_of new) slices

-- The front of a queue was taken off it, or there was no memory and nothing changed. The table of domains is unchanged.
pub record TakesOff {E : Type 0} (end : Descriptor) (d n : ℕ) (old : Kernel) (r : Result (List Slice) E)
    (new : Kernel) : Type 0 where
  pub given : IfOk r (λ a. GivesFront end d n old new a)
  pub table : new.domains ≡ old.domains
  pub err : OnErr r (state_of new ≡ state_of old)

abbrev pub Places : {A : Type 0} → (State → Meaning A) → (State → Text → State) → (pool n : ℕ) → Kernel
    → Result A Refusal → Kernel → Type 0
Places m put pool n old r new = making.Places m put pool n (state_of old) r (state_of new)
