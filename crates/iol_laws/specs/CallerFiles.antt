-- The effect of file calls for their caller, a live domain with a known file and position of its descriptor. So each
-- definition also lists the possible refusals.
use Rattle.std.specs.Prelude.{◌≡◌, ℕ, ◌+◌, ◌<◌, ◌≤◌, List, ◌++◌, length, take, drop, Some, None, IsTrue}
use Rattle.std.specs.Prelude.{IsFalse}
use Rattle.iol_core.specs.NumberedLists.{is_numbered}
use Rattle.iol_core.specs.State.{State, descriptor, content, file, may_read, is_live}
use Rattle.iol_core.specs.Positions.{ArePlaced}
use Rattle.iol_core.specs.Calls.Files.{file_called}
use Rattle.iol_core.specs.Calls.Reads.{reads}
use Rattle.iol_core.specs.Calls.Writes.{writes}
use Rattle.iol_core.specs.Run.{StepsTo}
use Rattle.iol_core.specs.declared.limits.TheConstants.{MAX_FILE_BYTES}
use Rattle.iol_core.specs.declared.descriptors.Mode.{Mode}
use Rattle.iol_core.specs.declared.descriptors.Descriptor.TheVariants as on
use Rattle.iol_core.specs.declared.refusals.Refusal.TheVariants.{NoFile, BadRange, TooLong, Denied, Fault}
use Rattle.iol_core.specs.declared.events.Call.TheVariants as call
use Rattle.iol_core.specs.declared.events.Event.TheVariants as event
use Rattle.iol_core.specs.declared.events.Reply.{Reply}
use Rattle.iol_core.specs.declared.events.Reply.TheVariants as reply
use Rattle.iol_laws.specs.Order.{IsOrderly}
use Rattle.iol_laws.specs.Caller.{readable_at, is_resource_failure}

-- the next file has this name and pool, and the bytes of its slot
pub record NamesFile (s : State) (d : ℕ) (name : List ℕ) (p f : ℕ) (t : State) : Type 0 where
  pub new : IsFalse (is_numbered s.files f)
  pub unknown : file_called s name ≡ None
  pub found : file_called t name ≡ Some f
  pub pool_is : (file t f).pool ≡ p
  pub bytes_are : content t f ≡ content s f
  pub may : IsTrue (may_read s d p)

abbrev pub MakesFile : State → (d : ℕ) → (name : List ℕ) → (p : ℕ) → Reply → State → Type 0
MakesFile s d name p (reply.File f) t = NamesFile s d name p f t
MakesFile s d name p (reply.Refused x) t = t ≡ s
MakesFile s d name p r t = ⊥

-- the file of this name is open at position 0, under a new number
pub record OpensFile (s : State) (d : ℕ) (name : List ℕ) (mode : Mode) (fd : ℕ) (t : State) : Type 0 where
  pub file_is : ℕ
  pub found : file_called s name ≡ Some file_is
  pub may : IsTrue (may_read s d (file s file_is).pool)
  pub open_on : descriptor t d fd ≡ Some (on.File file_is 0 mode)
  pub new : descriptor s d fd ≡ None

-- the pool of the file of this name is one that the domain may not read
pub record IsBarred (s : State) (d : ℕ) (name : List ℕ) (p : ℕ) : Type 0 where
  pub file_is : ℕ
  pub found : file_called s name ≡ Some file_is
  pub pool_is : (file s file_is).pool ≡ p
  pub may_not : IsFalse (may_read s d p)

abbrev pub Opening : State → (d : ℕ) → (name : List ℕ) → Mode → Reply → State → Type 0
Opening s d name mode (reply.Fd fd) t = OpensFile s d name mode fd t
Opening s d name mode (reply.Refused NoFile) t = (file_called s name ≡ None) × (t ≡ s)
Opening s d name mode (reply.Refused (Denied p)) t = IsBarred s d name p × (t ≡ s)
Opening s d name mode (reply.Refused x) t = IsTrue (is_resource_failure (reply.Refused x)) × (t ≡ s)
Opening s d name mode r t = ⊥

-- the position is the requested one, which is at most the file's length
abbrev pub Seeks : State → (d fd f at : ℕ) → Mode → Reply → State → Type 0
Seeks s d fd f at mode reply.Done t = (at ≤ length (content s f)) × (descriptor t d fd ≡ Some (on.File f at mode))
Seeks s d fd f at mode (reply.Refused x) t = (x ≡ BadRange) × (length (content s f) < at) × (t ≡ s)
Seeks s d fd f at mode r t = ⊥

-- the reply is this number, and nothing changes; the call is never refused
abbrev pub Reports : State → ℕ → Reply → State → Type 0
Reports s n (reply.Count k) t = (k ≡ n) × (t ≡ s)
Reports s n r t = ⊥

-- nothing changes; the call is refused only if the store fails at this file
abbrev pub Syncs : State → (f : ℕ) → Reply → State → Type 0
Syncs s f reply.Done t = t ≡ s
Syncs s f (reply.Refused x) t = (x ≡ Fault f) × (t ≡ s)
Syncs s f r t = ⊥

-- these bytes of a file are returned as aggregate n, and the position moves past them
pub record FileIsReadable (s : State) (d fd f at : ℕ) (mode : Mode) (bytes : List ℕ) (n : ℕ) (t : State) : Type 0 where
  pub is_readable : readable_at t d n ≡ Some bytes
  pub new : readable_at s d n ≡ None
  pub moves : descriptor t d fd ≡ Some (on.File f (at + length bytes) mode)

abbrev pub ReadsFile : State → (d fd f at : ℕ) → Mode → List ℕ → Reply → State → Type 0
ReadsFile s d fd f at mode bytes (reply.Agg n) t = FileIsReadable s d fd f at mode bytes n t
ReadsFile s d fd f at mode bytes (reply.Refused x) t = IsTrue (is_resource_failure (reply.Refused x)) × (t ≡ s)
ReadsFile s d fd f at mode bytes r t = ⊥

-- bytes that replace those of a list from a position on, or extend it
abbrev pub laid_over : List ℕ → (at : ℕ) → List ℕ → List ℕ
laid_over was at bytes = take at was ++ bytes ++ drop (at + length bytes) was

-- all of these bytes are in the file from its position on, which moves past them
pub record PutsInFile (s : State) (d fd f at : ℕ) (mode : Mode) (bytes : List ℕ) (k : ℕ) (t : State) : Type 0 where
  pub all : k ≡ length bytes
  pub bytes_are : content t f ≡ laid_over (content s f) at bytes
  pub now_at : descriptor t d fd ≡ Some (on.File f (at + length bytes) mode)

abbrev pub WritesFile : State → (d fd f at : ℕ) → Mode → List ℕ → Reply → State → Type 0
WritesFile s d fd f at mode bytes (reply.Count k) t = PutsInFile s d fd f at mode bytes k t
WritesFile s d fd f at mode bytes (reply.Refused TooLong) t = (MAX_FILE_BYTES < at + length bytes) × (t ≡ s)
WritesFile s d fd f at mode bytes (reply.Refused x) t = IsTrue (is_resource_failure (reply.Refused x)) × (t ≡ s)
WritesFile s d fd f at mode bytes r t = ⊥

-- Each call on a file. The invariant of positions is a premise only if bytes are written.
pub record FileCallsServeTheirDomain : Type 0 where
  pub makes : (s t : State) (d : ℕ) (name : List ℕ) (p : ℕ) (r : Reply)
      → StepsTo s (event.Call d (call.FileNew name p)) r t
      → MakesFile s d name p r t
  pub opens : (s t : State) (d : ℕ) (name : List ℕ) (mode : Mode) (r : Reply) → IsTrue (is_live s d)
      → StepsTo s (event.Call d (call.OpenFile name mode)) r t → Opening s d name mode r t
  pub seeks : (s t : State) (d fd f was at : ℕ) (mode : Mode) (r : Reply) → IsTrue (is_live s d)
      → descriptor s d fd ≡ Some (on.File f was mode) → StepsTo s (event.Call d (call.Seek fd at)) r t
      → Seeks s d fd f at mode r t
  pub measures : (s t : State) (d fd f at : ℕ) (mode : Mode) (r : Reply) → IsTrue (is_live s d)
      → descriptor s d fd ≡ Some (on.File f at mode) → StepsTo s (event.Call d (call.Length fd)) r t
      → Reports s (length (content s f)) r t
  pub syncs : (s t : State) (d fd f at : ℕ) (mode : Mode) (r : Reply) → IsTrue (is_live s d)
      → descriptor s d fd ≡ Some (on.File f at mode) → StepsTo s (event.Call d (call.Fsync fd)) r t → Syncs s f r t
  pub reads_file : (s t : State) (d fd f at n : ℕ) (mode : Mode) (r : Reply) → IsOrderly s → IsTrue (is_live s d)
      → IsTrue (may_read s d (file s f).pool) → IsTrue (reads mode) → descriptor s d fd ≡ Some (on.File f at mode)
      → StepsTo s (event.Call d (call.IolRead fd n)) r t
      → ReadsFile s d fd f at mode (take n (drop at (content s f))) r t
  pub writes_file : (s t : State) (d fd f at a : ℕ) (mode : Mode) (bytes : List ℕ) (r : Reply) → ArePlaced s
      → IsTrue (is_live s d) → IsTrue (writes mode) → descriptor s d fd ≡ Some (on.File f at mode)
      → readable_at s d a ≡ Some bytes
      → StepsTo s (event.Call d (call.IolWrite fd a)) r t → WritesFile s d fd f at mode bytes r t
