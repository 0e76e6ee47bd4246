-- The effect of an event on pages and chunks: the pages on which it makes buffers, and the chunks of a new pool.
use Rattle.std.specs.Prelude.{◌≡◌, ℕ, [], Option, Some, ⊤}
use Rattle.iol_core.specs.State.{State, descriptor}
use Rattle.iol_core.specs.Text.{Text}
use Rattle.iol_core.specs.Calls.Aggregates.{with_agg}
use Rattle.iol_core.specs.Calls.Writes.{written}
use Rattle.iol_core.specs.Calls.Pools.{distinct}
use Rattle.iol_core.specs.declared.descriptors.Descriptor.{Descriptor}
use Rattle.iol_core.specs.declared.descriptors.Descriptor.TheVariants as on
use Rattle.iol_core.specs.declared.events.Call.{Call}
use Rattle.iol_core.specs.declared.events.Call.TheVariants as call
use Rattle.iol_core.specs.declared.events.Event.{Event}
use Rattle.iol_core.specs.declared.events.Event.TheVariants as event
use Rattle.iol_core.specs.declared.events.Reply.{Reply}
use Rattle.iol_core.specs.declared.events.Reply.TheVariants as reply
use Rattle.iol_hold.specs.Pages.{KeepsPages}
use Rattle.iol_hold.specs.Room.{lowest_of}
use Rattle.iol_hold.specs.StoreState.{Stored}
use Rattle.iol_cache.specs.PageChanges.{FillsLowest}
use Rattle.iol_kernel.specs.Calls.{AddsEmpty, MakesBytes, with_incoming, with_reader}
use Rattle.iol_kernel.specs.Room.{AfterRoom}
use Rattle.iol_kernel.specs.FileWrites.{pool_of_file}
use Rattle.iol_pool.specs.Pools.{AddsPool}
use Rattle.iol_kernel.specs.FileReads.{held_by}
use Rattle.iol_kernel.specs.KernelState.{KernelState}
use Rattle.iol_system.specs.Machine.{tables_of}
use Rattle.iol_system.specs.Wants.{Wants, for_arrived, for_made, for_written}

-- Room was made for bytes in a pool, and then they were placed and stored where `put` says. Their buffers are on the
-- lowest pages that were free then, whose generation was incremented, and no other page was filled. Nothing else
-- changed: so no more extents of files were evicted.
abbrev pub Makes : (put : State → Text → State) → Wants → (old new : KernelState) → Type 0
Makes put w old new = AfterRoom w.pool w.count old (λ roomy. MakesBytes put w.pool w.count roomy new)

-- Room was made for bytes in a pool, and the lowest of the pages that were free then were filled: the generation of
-- each was incremented, and no other page was filled. This applies to a `write` to a file, which then puts the bytes in
-- place of the file's (`SharesPut`).
abbrev pub Fills : Wants → (old new : KernelState) → Type 0
Fills w old new =
    AfterRoom w.pool w.count old (λ roomy. KeepsPages roomy.store new.store (lowest_of roomy.store w.pool w.count))

-- bytes are written by copying
abbrev pub Puts : (by fd : ℕ) → Wants → Option Descriptor → (old new : KernelState) → Type 0
Puts by fd w (Some (on.File f at mode)) old new = Fills w old new
Puts by fd w o old new = Makes (λ s t. written s by fd (descriptor s by fd) t) w old new

-- a call on a file makes buffers on the lowest pages of its pool that are free after room is made; on anything else it
-- makes none
abbrev pub FillsForFile : KernelState → Option Descriptor → KernelState → Type 0
FillsForFile old (Some (on.File f at mode)) new = FillsLowest (pool_of_file old f) old.store new.store
FillsForFile old o new = KeepsPages old.store new.store []

-- `agg_make` makes buffers in the caller's default pool, and `write` in that of a file, or to anything else in the
-- caller's
abbrev pub CallPublishes : KernelState → (by : ℕ) → Call → KernelState → Type 0
CallPublishes old by (call.AggMake bytes) new = Makes (λ s t. with_agg s by t) (for_made old by bytes) old new
CallPublishes old by (call.IolRead fd n) new = FillsForFile old (held_by (tables_of old) by fd) new
CallPublishes old by (call.IolWrite fd a) new = FillsForFile old (descriptor (tables_of old) by fd) new
CallPublishes old by (call.Read fd n) new = FillsForFile old (held_by (tables_of old) by fd) new
CallPublishes old by (call.Write fd bytes) new =
    Puts by fd (for_written old by fd bytes) (descriptor (tables_of old) by fd) old new
CallPublishes old by c new = KeepsPages old.store new.store []

-- A call makes buffers as `CallPublishes` says, and an arrival makes some in the connection's pool, for the bytes
-- taken. Any other event makes none.
abbrev pub Publishes : KernelState → Event → KernelState → Type 0
Publishes old (event.Call by c) new = CallPublishes old by c new
Publishes old (event.Arrive c bytes) new = Makes (with_incoming c) (for_arrived old c bytes) old new
Publishes old e new = KeepsPages old.store new.store []

-- no page was published or freed, and no pool changed
pub record SamePages (old new : Stored) : Type 0 where
  pub arena : new.arena ≡ old.arena
  pub pools : new.pools ≡ old.pools

-- A file was added, with no extent in memory. Nothing else changed: no page and no other table, and no extent or height
-- of other files.
pub record CreatesFile (old new : KernelState) : Type 0 where
  pub same : new ≡ record old { files = new.files; cache = new.cache }
  pub added : AddsEmpty old.cache new.cache

-- The objects that a call creates. A new pool has as many chunks as were requested, the lowest free ones, and the other
-- pools keep theirs. A pool to which a domain was admitted names it, and nothing else changed. A new file has no extent
-- in memory.
abbrev pub CallCreates : KernelState → Call → Reply → KernelState → Type 0
CallCreates old (call.PoolCreate chunks list) (reply.Pool p) new =
    AddsPool old.store.arena new.store.arena old.store.pools new.store.pools chunks (distinct list)
CallCreates old (call.PoolAdmit p d) reply.Done new = new ≡ with_reader old p d
CallCreates old (call.FileNew name p) (reply.File f) new = CreatesFile old new
CallCreates old c r new = ⊤

-- the objects that an event creates: a call as `CallCreates` says; for any other event this says nothing
abbrev pub Creates : KernelState → Event → Reply → KernelState → Type 0
Creates old (event.Call by c) r new = CallCreates old c r new
Creates old e r new = ⊤
