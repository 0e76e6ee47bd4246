-- A step leaves an open pool its chunks, and a closed one all of them or none.
use Rattle.std.proofs.Common.{inl, inr, ◌≡◌, ◌∙◌, ℕ, true, false, List, Option, Some, refl, sym, ap}
use Rattle.iol_core.specs.State.{State}
use Rattle.iol_core.specs.Run.{meaning, outcome}
use Rattle.iol_core.specs.Text.{Text}
use Rattle.iol_core.specs.Calls.Writes.{is_file}
use Rattle.iol_core.specs.declared.descriptors.Descriptor.{Descriptor}
use Rattle.iol_core.specs.declared.descriptors.Descriptor.TheVariants as on
use Rattle.iol_core.specs.declared.events.Call.{Call}
use Rattle.iol_core.specs.declared.events.Call.TheVariants as call
use Rattle.iol_core.specs.declared.events.Event.{Event}
use Rattle.iol_core.specs.declared.events.Event.TheVariants as event
use Rattle.iol_core.specs.declared.events.Reply.TheVariants as reply
use Rattle.iol_core.specs.declared.refusals.Refusal.{Refusal}
use Rattle.iol_arena.proofs.Good.{bool_cases}
use Rattle.iol_back.specs.Disk.{Disk}
use Rattle.iol_pool.specs.Pools.{pool_in}
use Rattle.iol_hold.specs.Moves.{SameLists}
use Rattle.iol_hold.specs.Pages.{KeepsPages}
use Rattle.iol_hold.specs.StoreState.{Stored}
use Rattle.iol_hold.specs.declared.slices.Slice.{Slice}
use Rattle.iol_hold.proofs.PageChanges.{keeps_pages_frees, keeps_pages_same, same_closed}
use Rattle.iol_hold.proofs.Releases.{all_or_none}
use Rattle.iol_cache.specs.Evictions.{Holding}
use Rattle.iol_cache.specs.Overwrites.{OnlyMakesRoom}
use Rattle.iol_cache.proofs.RangeReads.PageChanges.{pages_kept, refused_pages, unwritten_pages}
use Rattle.iol_kernel.specs.FileCalls.{StepsBeside, holding_of}
use Rattle.iol_kernel.specs.FileReads.{FileRead, LeavesAtRefusal, file_read}
use Rattle.iol_kernel.specs.KernelState.{KernelState}
use Rattle.iol_kernel.specs.Room.{MakesRoom, MayHaveEvicted}
use Rattle.iol_kernel.specs.FileWrites.{GivesUpNew, LeavesUnlaid, LeavesUnwritten, over_pages}
use Rattle.iol_system.specs.StoreCalls.{uses_cache}
use Rattle.iol_system.specs.Late.{CallLeaves, CopyLeaves, LeavesLate, PutLeaves, ReadLeaves, WriteLeaves}
use Rattle.iol_system.specs.Laws.{EachStepKeepsChunks, KeepsChunks}
use Rattle.iol_system.specs.Machine.{SystemState, tables_of}
use Rattle.iol_system.specs.Wants.{Wants, for_arrived, for_made, for_written}
use Rattle.iol_system.specs.PagesAndChunks.{CallPublishes, Fills, FillsForFile, Makes, Publishes, Puts}
use Rattle.iol_system.specs.Still.{keeps_store}
use Rattle.iol_system.proofs.PagesAndChunks.{keeps_then_frees}

-- One step after another.

by_pages : {s t : Stored} {placed : List ℕ} → KeepsPages s t placed → KeepsChunks s t
by_pages x = record { opens = x.chunks; closes = x.returned }

nothing_changed : (s t : Stored) → t ≡ s → KeepsChunks s t
nothing_changed s t is =
    by_pages (keeps_pages_same s t (ap (λ (x : Stored). x.arena) is) (ap (λ (x : Stored). x.pools) is))

and_then : (a b c : Stored) → SameLists a b → KeepsChunks a b → KeepsChunks b c → KeepsChunks a c
and_then a b c same m n = record {
  opens = λ p was is. (let between = same_closed a b same p ∙ was in n.opens p between is ∙ m.opens p was between);
  closes = λ p is. elim (bool_cases (pool_in b.pools p).closed) [
    | inl shut ↦ all_or_none a b c p (m.closes p shut) (n.closes p is)
    | inr yet ↦ all_or_none a b c p (inl (m.opens p (sym (same_closed a b same p) ∙ yet) yet)) (n.closes p is)
  ];
}

room_made : (pool n : ℕ) (h k : KernelState) → MakesRoom pool n h k → KeepsChunks h.store k.store
room_made pool n h k x = by_pages (keeps_pages_frees x.gives_up.frees)

room_then : (pool n : ℕ) (h k : KernelState) (t : Stored) → MakesRoom pool n h k → KeepsChunks k.store t
    → KeepsChunks h.store t
room_then pool n h k t x y = and_then h.store k.store t x.gives_up.lists (room_made pool n h k x) y

-- The effect of events that succeed.

made : (put : State → Text → State) (w : Wants) (h k : KernelState) → Makes put w h k → KeepsChunks h.store k.store
made put w h k x = room_then w.pool _ h x.roomy k.store x.room (by_pages x.then.pages)

filled : (w : Wants) (h k : KernelState) → Fills w h k → KeepsChunks h.store k.store
filled w h k x = room_then w.pool _ h x.roomy k.store x.room (by_pages x.then)

filled_for : (h : KernelState) (o : Option Descriptor) (k : KernelState) → FillsForFile h o k
    → KeepsChunks h.store k.store
filled_for h (Some (on.File f at mode)) k x = by_pages (pages_kept x)
filled_for h o k x = by_pages x

put_on : (by fd : ℕ) (w : Wants) (o : Option Descriptor) (h k : KernelState) → Puts by fd w o h k
    → KeepsChunks h.store k.store
put_on by fd w (Some (on.File f at mode)) h k x = filled w h k x
put_on by fd w o h k x = made _ w h k x

call_done : (h : KernelState) (by : ℕ) (c : Call) (k : KernelState) → CallPublishes h by c k
    → KeepsChunks h.store k.store
call_done h by (call.AggMake bytes) k x = made _ (for_made h by bytes) h k x
call_done h by (call.IolRead fd n) k x = filled_for h _ k x
call_done h by (call.IolWrite fd a) k x = filled_for h _ k x
call_done h by (call.Read fd n) k x = filled_for h _ k x
call_done h by (call.Write fd bytes) k x = put_on by fd (for_written h by fd bytes) _ h k x
call_done h by c k x = by_pages x

event_done : (h : KernelState) (e : Event) (k : KernelState) → Publishes h e k → KeepsChunks h.store k.store
event_done h (event.Call by c) k x = call_done h by c k x
event_done h (event.Arrive c bytes) k x = made _ (for_arrived h c bytes) h k x
event_done h e k x = by_pages x

-- The state after late refusals.

same_store : (h k : KernelState) → k ≡ h → KeepsChunks h.store k.store
same_store h k is = nothing_changed h.store k.store (ap (λ (x : KernelState). x.store) is)

may_evict : (pool n : ℕ) (h k : KernelState) (y : Refusal) → MayHaveEvicted pool n h k y → KeepsChunks h.store k.store
may_evict pool n h k y (inl same) = same_store h k same
may_evict pool n h k y (inr late) = room_made pool _ h k late.room

read_pages : (x : FileRead) (disk after : Disk) (h k : KernelState) (y : Refusal) → LeavesAtRefusal x disk h after k y
    → (placed : List ℕ) × KeepsPages h.store k.store placed
read_pages x disk after h k y (inl early) = (
  _,
  keeps_pages_same h.store k.store (ap (λ (z : KernelState). z.store.arena) early.1)
      (ap (λ (z : KernelState). z.store.pools) early.1),
)
read_pages x disk after h k y (inr late) =
    (_, pages_kept (refused_pages x.file x.at x.count disk (holding_of h) (holding_of k) y late.1))

only_room : (pool n : ℕ) (a b : Holding) → OnlyMakesRoom pool n a b
    → (placed : List ℕ) × KeepsPages a.store b.store placed
only_room pool n a b x = (_, pages_kept (unwritten_pages pool n a b x))

unwritten : (f : ℕ) (xs : List Slice) (h k : KernelState) (y : Refusal) → LeavesUnwritten f xs h k y
    → KeepsChunks h.store k.store
unwritten f xs h k y (inl same) = same_store h k same
unwritten f xs h k y (inr late) = by_pages (only_room _ _ (holding_of h) (holding_of k) late.1).1

given_up : (pool : ℕ) (bytes : List ℕ) (h k : KernelState) → GivesUpNew pool bytes h k → KeepsChunks h.store k.store
given_up pool bytes h k x =
    let gone = keeps_then_frees x.lists (only_room pool 0 (over_pages x.placed h) (over_pages x.left k) x.room).1
    x.frees in
    and_then h.store x.placed k.store x.places.lists (by_pages x.places.pages) (by_pages gone)

unlaid : (pool : ℕ) (bytes : List ℕ) (h k : KernelState) (y : Refusal) → LeavesUnlaid pool bytes h k y
    → KeepsChunks h.store k.store
unlaid pool bytes h k y (inl same) = same_store h k same
unlaid pool bytes h k y (inr late) = room_then pool _ h late.left.roomy k.store late.left.room (elim late.left.then [
  | inl same ↦ same_store late.left.roomy k same
  | inr gone ↦ given_up pool bytes late.left.roomy k gone
])

module _ (old new : SystemState) (y : Refusal) where
  abbrev Kept : Type 0
  Kept = KeepsChunks old.kernel.store new.kernel.store

  same : new ≡ old → Kept
  same is = same_store old.kernel new.kernel (ap (λ (s : SystemState). s.kernel) is)

  read_on : (by fd n : ℕ) (o : Option Descriptor) → ReadLeaves by fd n old o (reply.Refused y) new
      → (is_file o ≡ false → new ≡ old) → Kept
  read_on by fd n (Some (on.File f at mode)) late unused =
      by_pages (read_pages (file_read by fd f at mode n) old.disk new.disk old.kernel new.kernel y late.1).1
  read_on by fd n o late unused = same (unused refl)

  copy_on : (by fd n : ℕ) (o : Option Descriptor) → CopyLeaves by fd n old o (reply.Refused y) new
      → (is_file o ≡ false → new ≡ old) → Kept
  copy_on by fd n (Some (on.File f at mode)) late unused =
      by_pages
      (keeps_then_frees late.lists (read_pages (file_read by fd f at mode n) old.disk new.disk old.kernel
      (record new.kernel { store = late.mid }) y late.leaves).1 late.frees)
  copy_on by fd n o late unused = same (unused refl)

  write_on : (xs : List Slice) (o : Option Descriptor) → WriteLeaves old.kernel o xs (reply.Refused y) new.kernel
      → (is_file o ≡ false → new ≡ old) → Kept
  write_on xs (Some (on.File f at mode)) late unused = unwritten f xs old.kernel new.kernel y late.1
  write_on xs o late unused = same (unused refl)

  copied_to : (w : Wants) (bytes : List ℕ) (o : Option Descriptor)
      → PutLeaves w bytes old.kernel o (reply.Refused y) new.kernel → Kept
  copied_to w bytes (Some (on.File f at mode)) late = unlaid w.pool bytes old.kernel new.kernel y late
  copied_to w bytes o late = may_evict w.pool w.count old.kernel new.kernel y late

  call_refused : (by : ℕ) (c : Call) → CallLeaves old by c (reply.Refused y) new
      → (uses_cache (tables_of old.kernel) (event.Call by c) ≡ false → new ≡ old)
      → (keeps_store (event.Call by c) ≡ true → new.kernel.store ≡ old.kernel.store) → Kept
  call_refused by (call.AggMake bytes) late unused keeps = may_evict _ _ old.kernel new.kernel y late
  call_refused by (call.IolRead fd n) late unused keeps = read_on by fd n _ late unused
  call_refused by (call.IolWrite fd a) late unused keeps = write_on _ _ late unused
  call_refused by (call.Read fd n) late unused keeps = copy_on by fd n _ late unused
  call_refused by (call.Write fd bytes) late unused keeps = copied_to (for_written old.kernel by fd bytes) bytes _ late
  call_refused by (call.Fsync fd) late unused keeps = nothing_changed old.kernel.store new.kernel.store (keeps refl)
  call_refused by c late unused keeps = same (unused refl)

  event_refused : (e : Event) → LeavesLate old e (reply.Refused y) new
      → (uses_cache (tables_of old.kernel) e ≡ false → new ≡ old)
      → (keeps_store e ≡ true → new.kernel.store ≡ old.kernel.store)
      → StepsBeside (λ s. meaning s e) old.kernel (outcome (reply.Refused y)) new.kernel → Kept
  event_refused (event.Call by c) late unused keeps beside = call_refused by c late unused keeps
  event_refused (event.Arrive c bytes) late unused keeps beside = may_evict _ _ old.kernel new.kernel y late
  event_refused event.Flush late unused keeps beside = nothing_changed old.kernel.store new.kernel.store (keeps refl)
  event_refused event.DropClean late unused keeps beside = absurd beside.step.0
  event_refused e late unused keeps beside = same (unused refl)

pub keeps_chunks : EachStepKeepsChunks
keeps_chunks old new e (reply.Refused y) x =
    event_refused old new y e x.late (λ unused. x.refused unused tt) x.store x.beside
keeps_chunks old new e r x = event_done old.kernel e new.kernel (x.publishes tt)
