-- The effect of closing an end on a pipe, on the pipes, and on the state of the system.
use Rattle.std.specs.Prelude.{◌≡◌, ℕ, ◌+◌, ◌≤◌, false, fold, ◌||◌, if◌then◌else◌, List, [], Option, Some, None}
use Rattle.std.specs.List.{AllByRecursion}
use Rattle.std.specs.Prelude.{slice_set}
use Rattle.iol_core.specs.State.{Domain}
use Rattle.iol_core.specs.Calls.Descriptors.{closed_on}
use Rattle.iol_core.specs.declared.descriptors.Descriptor.{Descriptor}
use Rattle.iol_hold.specs.Releases.{Releases}
use Rattle.iol_hold.specs.StoreState.{Stored}
use Rattle.iol_hold.specs.declared.slices.Slice.{Slice}
use Rattle.iol_kernel.specs.Views.{Pipe, Objects}
use Rattle.iol_kernel.specs.Calls.{Leaves}
use Rattle.iol_kernel.specs.EndCounts.{same_end, ends_on, all_ends_on}
use Rattle.iol_kernel.specs.KernelState.{KernelState, objects_of, queue_at, IsOpenEnd, IsSound}

-- a pipe whose read end is closed: its queue is empty
abbrev pub without_reader : Pipe (List Slice) → Pipe (List Slice)
without_reader x = record { queue = []; reading = false; writing = x.writing }

-- a pipe whose write end is closed: if its read end is closed too, its queue is empty
abbrev pub without_writer : Pipe (List Slice) → Pipe (List Slice)
without_writer x = record { queue = if x.reading then x.queue else []; reading = x.reading; writing = false }

-- a pipe became x, which holds a part of the buffers held before
pub record Becomes (s t : Stored) (old new x : Pipe (List Slice)) : Type 0 where
  pub pipe : new ≡ x
  pub releases : Releases s t old.queue new.queue

-- the pipes with x in a slot; a pipe whose ends are both closed is removed
abbrev pub with_pipe_in : List (Option (Pipe (List Slice))) → (p : ℕ) → Pipe (List Slice)
    → List (Option (Pipe (List Slice)))
with_pipe_in pipes p x = slice_set pipes p (if x.reading || x.writing then Some x else None)

-- An end of the pipe p was closed: the pipe became the one that `closed` gives, and holds a part of the buffers held
-- before.
pub record ClosesEnd (s t : Stored) (old new : List (Option (Pipe (List Slice)))) (p : ℕ)
    (closed : Pipe (List Slice) → Pipe (List Slice)) : Type 0 where
  pub pipes : new ≡ with_pipe_in old p (closed (queue_at old p))
  pub releases : Releases s t (queue_at old p).queue (closed (queue_at old p)).queue

-- the objects that a domain's descriptors were open on: each end is open, and in no other descriptor
pub record AreTaken (domains : List (Domain (List Slice))) (objects : Objects (List Slice))
    (ends : List (Option Descriptor)) : Type 0 where
  pub opened : AllByRecursion (IsOpenEnd objects) ends
  pub once : (x : Descriptor) → all_ends_on x domains + ends_on x ends ≤ 1

-- all ends except one stay open
pub record KeepsEnds (end : Descriptor) (old new : Objects (List Slice)) : Type 0 where
  pub each : (e : Descriptor) → same_end end e ≡ 0 → IsOpenEnd old (Some e) → IsOpenEnd new (Some e)

-- An end is still open, and no descriptor is open on it.
pub record IsLetGo (h : KernelState) (end : Descriptor) : Type 0 where
  pub sound : IsSound h
  pub opened : IsOpenEnd (objects_of h) (Some end)
  pub free : all_ends_on end h.domains ≡ 0

-- An end was closed. No domain changed, and all other ends stay open.
pub record Closes (end : Descriptor) (old new : KernelState) : Type 0 where
  pub closed : Leaves (λ s. closed_on s (Some end)) old new
  pub domains : new.domains ≡ old.domains
  pub others : KeepsEnds end (objects_of old) (objects_of new)

-- Ends that were taken from a domain: each is still open, and, unless it is a file, no descriptor is open on it.
pub record AreLetGo (h : KernelState) (ends : List (Option Descriptor)) : Type 0 where
  pub sound : IsSound h
  pub taken : AreTaken h.domains (objects_of h) ends

-- Ends were closed one after another, and no domain changed.
pub record ClosesAll (ends : List (Option Descriptor)) (old new : KernelState) : Type 0 where
  pub closed : Leaves (λ s. fold closed_on s ends) old new
  pub domains : new.domains ≡ old.domains
