-- The object that a descriptor is open on, for reading.
use Rattle.std.specs.Prelude.{◌≡◌, ℕ, ◌<◌, List, [], Option, Some, option_map, IsTrue, IsFalse}
use Rattle.std.specs.List.{slice_get}
use Rattle.iol_core.specs.Text.{Text}
use Rattle.iol_core.specs.Calls.Aggregates.{too_many_aggs}
use Rattle.iol_core.specs.Calls.Reads.{can_read, iol_read, read_denied, unread}
use Rattle.iol_core.specs.Calls.Writes.{is_file}
use Rattle.iol_core.specs.declared.descriptors.Descriptor.{Descriptor}
use Rattle.iol_core.specs.declared.limits.TheConstants.{MAX_AGGREGATES}
use Rattle.iol_core.specs.declared.refusals.Refusal.TheVariants.{Denied}
use Rattle.iol_hold.specs.declared.slices.Slice.{Slice}
use Rattle.iol_desc.specs.Tables.{domain_in, live_aggs_in, with_agg_in}
use Rattle.iol_kernel.specs.Calls.{Answers}
use Rattle.iol_kernel.specs.KernelState.{KernelState, objects_of, IsOpenEnd, IsSound, machine_of, read_of}
use Rattle.iol_kernel.specs.OpenDescriptors.{IsOpenOn}
use Rattle.iol_kernel.specs.QueueSlices.{DividesFront, unread_slices}
use Rattle.iol_kernel.specs.Readings.{Reading, KeepsPools}

-- the pool of a text's first byte
abbrev pub pool_of_first : Text → Option ℕ
pool_of_first t = option_map (λ b. b.1) (slice_get t 0)

-- this is the pool of the first byte queued for reading, or None if the queue is empty
abbrev pub IsFirstPool : Descriptor → KernelState → Option ℕ → Type 0
IsFirstPool end h r = (f : Reading) → KeepsPools f → r ≡ pool_of_first (unread (read_of f h) (Some end))

-- this is the pool for which the domain is denied a read of n bytes, or None if it is not denied
abbrev pub IsBarredPool : (d : ℕ) → Descriptor → (n : ℕ) → KernelState → Option ℕ → Type 0
IsBarredPool d end n h r = (f : Reading) → KeepsPools f
    → option_map (λ p. Denied p) r ≡ read_denied (read_of f h) d (Some end) n

-- Between two events: the descriptor is open, and a queue is read through it.
pub record IsSource (h : KernelState) (end : Descriptor) : Type 0 where
  pub sound : IsSound h
  pub opened : IsOpenEnd (objects_of h) (Some end)
  pub readable : IsTrue (can_read (Some end))
  pub no_file : IsFalse (is_file (Some end))

-- The domain may take the front of a queue, by this descriptor, as one more aggregate.
pub record MayTake (d fd : ℕ) (end : Descriptor) (h : KernelState) : Type 0 where
  pub held : IsOpenOn h d fd end
  pub source : IsSource h end
  pub few : IsFalse (too_many_aggs (machine_of [] h) d 1 0)

-- Of the first n bytes of a queue the prefix that the domain may see was taken off it, as these slices. Added to the
-- domain, they answer its read.
pub record GivesFront (end : Descriptor) (d n : ℕ) (old new : KernelState) (slices : List Slice) : Type 0 where
  pub answers : (fd : ℕ) → IsOpenOn old d fd end → live_aggs_in old.domains < MAX_AGGREGATES
      → Answers (λ s. iol_read s d fd n) old (domain_in old.domains d).next_agg
      (record new { domains = with_agg_in old.domains d slices })
  pub divides : DividesFront slices (unread_slices (objects_of old) (Some end))
      (unread_slices (objects_of new) (Some end))
