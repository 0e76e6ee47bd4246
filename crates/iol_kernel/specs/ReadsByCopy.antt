-- The effect of reads by copying on the state of the system, and aggregates that are shown in a memory.
use Rattle.std.specs.Prelude.{◌≡◌, ◌<◌, ◌≤◌, ◌++◌, ℕ, min, List, [], length, drop, Option, Some, None}
use Rattle.std.specs.Prelude.{Result, Err, IfErr, IfOk, OnErr, OnOk, IsTrue, ◌≢◌}
use Rattle.iol_core.specs.State.{is_live, descriptor}
use Rattle.iol_core.specs.Text.{bytes_of}
use Rattle.iol_core.specs.Calls.Reads.{can_read, read, read_text, unread}
use Rattle.iol_core.specs.Prelude.{Never, open_on}
use Rattle.iol_core.specs.declared.descriptors.Descriptor.{Descriptor}
use Rattle.iol_core.specs.declared.descriptors.Descriptor.TheVariants as on
use Rattle.iol_core.specs.declared.refusals.Refusal.{Refusal}
use Rattle.iol_core.specs.declared.refusals.Refusal.TheVariants.{NoRoom}
use Rattle.iol_back.specs.Disk.{Disk}
use Rattle.iol_hold.specs.Pages.{KeepsPages}
use Rattle.iol_sock.specs.Refusals.{IsPassed, IsRefused}
use Rattle.iol_kernel.specs.FileCalls.{Serves}
use Rattle.iol_kernel.specs.Calls.{Leaves, RefusesShow, Shows}
use Rattle.iol_kernel.specs.FileReads.{CopiesFileAs, file_read, held_by}
use Rattle.iol_kernel.specs.KernelState.{KernelState, IsSound, read_of, machine_of}
use Rattle.iol_kernel.specs.Readings.{Reading, KeepsPools}

-- Between two events: the descriptor is not open on a file.
pub record IsOnNoFile (h : KernelState) (d fd : ℕ) : Type 0 where
  pub sound : IsSound h
  pub no_file : (f : Reading) → open_on (held_by (read_of f h) d fd) ≡ None

-- The machine's `read` of n bytes of a queue, over each store: the remaining bytes keep their places, pages may be
-- freed, and the extents of files in memory are unchanged. A refusal changes nothing.
pub record ReadsOut (by fd n : ℕ) (old : KernelState) (r : Result (List ℕ) Refusal) (new : KernelState) : Type 0 where
  pub serves : (disk : Disk) → Serves (λ s. read s by fd n) disk old r disk new
  pub places : OnOk r ((f : Reading) → KeepsPools f → read_of f new ≡ (read (read_of f old) by fd n).after)
  pub roomy : (p : ℕ) → r ≢ Err (NoRoom p)
  pub pages : KeepsPages old.store new.store []
  pub cache : new.cache ≡ old.cache
  pub refused : OnErr r (new ≡ old)

-- the effect of a read of n bytes by copying, by the descriptor's object
abbrev pub CopiesOn : (by fd n : ℕ) → Option Descriptor → Disk → KernelState → Result (List ℕ) Refusal → Disk
    → KernelState → Type 0
CopiesOn by fd n (Some (on.File f at mode)) disk old r after new =
    CopiesFileAs (file_read by fd f at mode n) disk old r after new
CopiesOn by fd n _ disk old r after new = ReadsOut by fd n old r new × (after ≡ disk)

abbrev pub Copies : (by fd n : ℕ) → Disk → KernelState → Result (List ℕ) Refusal → Disk → KernelState → Type 0
Copies by fd n disk old r after new = CopiesOn by fd n (held_by (machine_of [] old) by fd) disk old r after new

-- Up to n bytes were read as a separate list: the machine's step, and the effect, by the descriptor's object.
pub record ReadsList (by fd n : ℕ) (disk : Disk) (old : KernelState) (r : Result (List ℕ) Refusal) (after : Disk)
    (new : KernelState) : Type 0 where
  pub serves : Serves (λ s. read s by fd n) disk old r after new
  pub copies : Copies by fd n disk old r after new

-- The result of asking how many of n bytes are queued for reading: their number, at most n. It succeeds only if a read
-- of n passes its tests, so that the domain is live and its descriptor readable, and is refused as that read is.
pub record CountsWaiting (d fd n : ℕ) (h : KernelState) (r : Result ℕ Refusal) : Type 0 where
  pub passed : OnOk r (IsPassed (read (machine_of [] h) d fd n).refusals)
  pub live : OnOk r (IsTrue (is_live (machine_of [] h) d))
  pub readable : OnOk r (IsTrue (can_read (descriptor (machine_of [] h) d fd)))
  pub refused : IfErr r (IsRefused (read (machine_of [] h) d fd n).refusals Never)
  pub some : IfOk r (λ many. (f : Reading)
      → many ≡ min n (length (unread (read_of f h) (descriptor (read_of f h) d fd))))

-- Between two events: the domain is live, and its descriptor is open on a queue, for reading.
pub record MayTakeInto (d fd : ℕ) (h : KernelState) : Type 0 where
  pub queue : IsOnNoFile h d fd
  pub live : IsTrue (is_live (machine_of [] h) d)
  pub readable : IsTrue (can_read (descriptor (machine_of [] h) d fd))

-- The answer of the machine's read, of as many bytes as a memory has room for, was moved from the queue to the front of
-- the memory: n bytes. The rest of the memory is unchanged, and the system is in the state that the read leaves.
pub record TakesInto (d fd : ℕ) (memory filled : List ℕ) (old : KernelState) (n : ℕ) (new : KernelState) : Type 0 where
  pub copied : filled ≡ (read (machine_of [] old) d fd (length memory)).answer ++ drop n memory
  pub count : n ≡ length (read (machine_of [] old) d fd (length memory)).answer
  pub left : Leaves (λ s. (read s d fd (length memory)).after) old new

-- The first bytes of a queue that the domain may read, as many as a memory has room for, were copied to its front: n
-- bytes. The rest of the memory is unchanged.
pub record CopiesFrontOf (end : Descriptor) (d : ℕ) (h : KernelState) (memory filled : List ℕ) (n : ℕ) : Type 0 where
  pub copied : filled ≡ bytes_of (read_text (machine_of [] h) d (Some end) (length memory)) ++ drop n memory
  pub count : (f : Reading) → KeepsPools f → n ≡ length (read_text (read_of f h) d (Some end) (length memory))

-- The bytes of a domain's aggregate were copied to the front of a memory, if it has room for all of them, and the rest
-- of it is unchanged; otherwise all of it is. Their number is returned either way. They are those that the machine's
-- `show` returns. It is refused exactly as `show` is, but never for lack of memory, and a refusal leaves the memory
-- unchanged.
pub record ShowsInto (d a : ℕ) (memory filled : List ℕ) (h : KernelState) (r : Result ℕ Refusal) : Type 0 where
  pub bytes : List ℕ
  pub shows : OnOk r (Shows d a bytes h)
  pub refused : IfErr r (λ x. RefusesShow d a x h)
  pub count : IfOk r (λ n. n ≡ length bytes)
  pub fits : OnOk r (length bytes ≤ length memory → filled ≡ bytes ++ drop (length bytes) memory)
  pub full : OnOk r (length memory < length bytes → filled ≡ memory)
  pub err : OnErr r (filled ≡ memory)
