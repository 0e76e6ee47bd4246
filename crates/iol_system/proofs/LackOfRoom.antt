-- An event that is refused for lack of room evicts nothing, and leaves each buffer its count.
use Rattle.std.proofs.Common.{inl, inr, ◌≡◌, ◌∙◌, ℕ, ◌+◌, ◌<◌, ◌≤◌, false, List, [], ◌∷◌, Option, Some, sum_by, refl}
use Rattle.std.proofs.Common.{sym, ap, arith, subst}
use Rattle.iol_core.specs.declared.descriptors.Descriptor.{Descriptor}
use Rattle.iol_core.specs.declared.descriptors.Descriptor.TheVariants as on
use Rattle.iol_core.specs.declared.events.Call.{Call}
use Rattle.iol_core.specs.declared.events.Call.TheVariants as call
use Rattle.iol_core.specs.declared.events.Event.{Event}
use Rattle.iol_core.specs.declared.events.Event.TheVariants as event
use Rattle.iol_core.specs.declared.events.Reply.TheVariants as reply
use Rattle.iol_core.specs.declared.refusals.Refusal.{Refusal}
use Rattle.iol_core.specs.declared.refusals.Refusal.TheVariants.{Memory, NoRoom}
use Rattle.iol_back.specs.Disk.{Disk}
use Rattle.iol_evict.specs.Order.{Ranking, entry_at}
use Rattle.iol_evict.specs.declared.entry.Entry.{Entry}
use Rattle.iol_extent.specs.Extents.{Extent, extent_over}
use Rattle.iol_extent.specs.Spans.{AreInOrder}
use Rattle.iol_extent.specs.declared.spans.Span.{Span}
use Rattle.iol_core.specs.declared.numbers.BufId.{BufId}
use Rattle.iol_hold.specs.Moves.{Counts, Moves, tally}
use Rattle.iol_hold.specs.Releases.{FreesOnly}
use Rattle.iol_hold.specs.StoreState.{Stored, count_of}
use Rattle.iol_hold.specs.Texts.{bufs_of}
use Rattle.iol_hold.specs.declared.slices.Slice.{Slice}
use Rattle.iol_hold.proofs.Counts.{tally_none}
use Rattle.iol_hold.proofs.Releases.{frees_none, frees_trans}
use Rattle.iol_cache.proofs.RangeReads.PageChanges.{frees_shares}
use Rattle.iol_kernel.specs.HoldCounts.{all_uses, conn_uses, domain_uses, pipe_uses}
use Rattle.iol_system.specs.Promises.{Promises}
use Rattle.iol_cache.specs.CacheState.{Cached, extents_in, file_in, held, order_in}
use Rattle.iol_cache.specs.Evictions.{Holding}
use Rattle.iol_cache.specs.ReadSteps.{CountsHits}
use Rattle.iol_cache.specs.RangeReads.{SameButRoom, hits_counted}
use Rattle.iol_cache.specs.ReadResults.{GivesBack, LeavesRange}
use Rattle.iol_kernel.specs.FileReads.{FileRead, LeavesAtRefusal, file_read}
use Rattle.iol_kernel.specs.KernelState.{KernelState, IsSound, objects_of}
use Rattle.iol_kernel.specs.Room.{MayHaveEvicted}
use Rattle.iol_kernel.specs.FileWrites.{LeavesUnlaid, LeavesUnwritten}
use Rattle.iol_system.specs.StoreCalls.{uses_cache}
use Rattle.iol_system.specs.Late.{CallLeaves, CopyLeaves, LeavesLate, PutLeaves, ReadLeaves, SameTables, WriteLeaves}
use Rattle.iol_system.specs.Laws.{EvictsNothing, IsMet, IsRead, NoRoomEvictsNothing}
use Rattle.iol_system.specs.InPlace.{IsInRange}
use Rattle.iol_system.specs.Machine.{SystemState, tables_of}
use Rattle.iol_system.proofs.Hits.{AreHit, BeginAt, hit_then, hits_leave, others_stay}
use Rattle.iol_system.specs.Wants.{Wants, for_written}
use Rattle.iol_system.specs.Room.{CallLacksRoom, LacksRoomFor, LacksRoomToRead, LacksRoomToWrite}

-- Each buffer has the same count, and a page that was freed has no buffer that is held.
pub record HeldAlike (s t : Stored) : Type 0 where
  pub counts : (b : BufId) → count_of t b ≡ count_of s b
  pub frees : FreesOnly s t

same_pages : (s t : Stored) → t ≡ s → HeldAlike s t
same_pages s t is = subst (HeldAlike s) (sym is) (record { counts = λ b. refl; frees = frees_none s s refl refl refl })

-- each buffer has the same count if tables and extents have the same buffers
held_alike : (h k : KernelState) → SameTables h k → held k.cache.files ≡ held h.cache.files → IsSound h → IsSound k
    → (b : BufId) → count_of k.store b ≡ count_of h.store b
held_alike h k same extents was now b =
    now.counted.each b
    ∙ ap (λ (x : KernelState). all_uses x.domains (objects_of x) b) same
    ∙ ap (λ (bs : List BufId). sum_by (domain_uses b) h.domains + sum_by (pipe_uses b) h.pipes + sum_by (conn_uses b)
    h.conns + tally b bs) extents
    ∙ sym (was.counted.each b)

rises : (from to : ℕ) (ss : List Span) → AreInOrder from to ss → from ≤ to
rises from to [] order = order
rises from to (s ∷ ss) order = omega (arith, order.0, order.1, rises s.to to ss order.2)

-- Files in memory, for an event that reads some of their bytes.

module _ (Read : (f i : ℕ) → Type 0) where
  pub same_cache : (a b : Cached) → b ≡ a → EvictsNothing Read a b
  same_cache a b is = record {
    extents = λ f. ap (λ (c : Cached). extents_in c.files f) is;
    low = λ p. ap (λ (c : Cached). (order_in c.orders p).low) is;
    order = λ p f at. inl (ap (λ (c : Cached). entry_at (order_in c.orders p).entries f at) is);
    unread = λ p f at un. ap (λ (c : Cached). entry_at (order_in c.orders p).entries f at) is;
  }

  -- Files in memory, and buffers if the kernel is sound before and after.
  abbrev pub LeavesBoth : (h k : KernelState) → Type 0
  LeavesBoth h k = EvictsNothing Read h.cache k.cache × (IsSound h → IsSound k → HeldAlike h.store k.store)

  same_kernel : (h k : KernelState) → k ≡ h → LeavesBoth h k
  same_kernel h k is = (
    same_cache h.cache k.cache (ap (λ (x : KernelState). x.cache) is),
    λ was now. same_pages h.store k.store (ap (λ (x : KernelState). x.store) is),
  )

  pub only_reserved : (a b : Cached) → SameButRoom a b → EvictsNothing Read a b
  only_reserved a b x = record {
    extents = x.extents;
    low = x.low;
    order = λ p f at. inl (ap (λ (es : List Entry). entry_at es f at) (x.entries p));
    unread = λ p f at un. ap (λ (es : List Entry). entry_at es f at) (x.entries p);
  }

  met_before : (a b : Cached) → ((f : ℕ) → extents_in b.files f ≡ extents_in a.files f) → (f at : ℕ) → IsMet Read b f at
      → IsMet Read a f at
  met_before a b same f at met = record {
    byte = met.byte;
    read = met.read;
    extent = met.extent;
    over = subst (λ (es : List Extent). extent_over es met.byte ≡ Some met.extent) (same f) met.over;
    begins = met.begins;
  }

  and_then : (a b c : Cached) → EvictsNothing Read a b → EvictsNothing Read b c → EvictsNothing Read a c
  and_then a b c x y = record {
    extents = λ f. y.extents f ∙ x.extents f;
    low = λ p. y.low p ∙ x.low p;
    order = λ p f at. hit_then (order_in a.orders p).low (order_in b.orders p).low _ _ _ (x.low p) (x.order p f at)
        (y.order p f at);
    unread = λ p f at un. y.unread p f at (λ met. un (met_before a b x.extents f at met)) ∙ x.unread p f at un;
  }

  -- the extents that are hit by a read of a range contain bytes of the range
  met_by : (c : Cached) (f from to : ℕ) (ss : List Span) → AreInOrder from to ss
      → ((i : ℕ) → from ≤ i → i < to → Read f i) → BeginAt (IsMet Read c f) (extents_in c.files f) ss
  met_by c f from to [] order read = tt
  met_by c f from to (s ∷ ss) order read = (
    λ e over. record {
      byte = s.from;
      read = read s.from order.0 (omega (arith, order.1, rises s.to to ss order.2));
      extent = e;
      over = over;
      begins = refl;
    },
    met_by c f s.to to ss order.2 (λ i low high. read i (omega (arith, order.0, order.1, low)) high),
  )

  only_counted : (f from to : ℕ) (hits : List Span) (a b : Cached) → AreInOrder from to hits
      → ((i : ℕ) → from ≤ i → i < to → Read f i) → CountsHits f hits a b → EvictsNothing Read a b
  only_counted f from to hits a b order read x = record {
    extents = λ g. ap (λ fs. extents_in fs g) x.files;
    low = λ q. (stays q).low;
    order = λ q. (stays q).order;
    unread = λ q g at un. (stays q).others g at (λ both. un (subst (λ k. IsMet Read a k at) (sym both.0) both.1));
  }
    where
      stays : (q : ℕ) → AreHit f (IsMet Read a f) (order_in a.orders q) (order_in b.orders q)
      stays q =
          let p = (file_in a.files f).pool in
          let met = met_by a f from to hits order read in
          subst (λ (os : List Ranking). AreHit f (IsMet Read a f) (order_in a.orders q) (order_in os q)) (sym x.orders)
          (others_stay f (IsMet Read a f) a.orders p (hits_counted (order_in a.orders p) f (extents_in a.files f) hits)
          q
          (hits_leave (order_in a.orders p) f (IsMet Read a f) (extents_in a.files f) hits met))

  -- Refusals for lack of room, from the state that they leave.

  -- a refused read of a range, after which only its hits were counted
  pub only_hit : (f from to : ℕ) (old new : Holding) (y : Refusal) → ((i : ℕ) → from ≤ i → i < to → Read f i)
      → (x : GivesBack f from to old new y) → x.undone.full ≡ x.hit → EvictsNothing Read old.cache new.cache
  only_hit f from to old new y read x same =
      let a = x.pinned in
      and_then old.cache a.reserved new.cache (only_reserved old.cache a.reserved a.rooms)
      (and_then a.reserved x.hit.cache new.cache
      (only_counted f from to a.hits a.reserved x.hit.cache a.tile.hits read a.counted)
      (same_cache x.hit.cache new.cache (x.undone.cache ∙ ap (λ (h : Holding). h.cache) same)))

  -- the state after a refused read of a range: the extents have the same buffers, and each buffer its count
  abbrev RangeLeft : (old new : Holding) → Type 0
  RangeLeft old new = EvictsNothing Read old.cache new.cache × HeldAlike old.store new.store
      × (held new.cache.files ≡ held old.cache.files)

  range_left : (f from to p : ℕ) (old new : Holding) → ((i : ℕ) → from ≤ i → i < to → Read f i)
      → LeavesRange f from to old new (NoRoom p) → RangeLeft old new
  range_left f from to p old new read (inl (is, x)) = absurd (let e : ◌≡◌ {A = Refusal} (NoRoom p) Memory = is in cc)
  range_left f from to p old new read (inr x) =
      let a = x.pinned in
      let same = x.undone.kept p refl in
      let last : new.cache ≡ x.hit.cache = x.undone.cache ∙ ap (λ (h : Holding). h.cache) same in
      let released : Moves x.hit.store new.store (bufs_of x.pins) [] =
      subst (λ (h : Holding). Moves h.store new.store (bufs_of x.pins) []) same x.undone.released in
      let frees : FreesOnly x.hit.store new.store =
      subst (λ (h : Holding). FreesOnly h.store new.store) same x.undone.frees in (
        only_hit f from to old new (NoRoom p) read x same,
        record {
          counts = λ b. omega (arith, a.shares.counts.each b, released.counts.each b, tally_none b);
          frees = frees_trans (frees_shares a.shares) frees released.counts;
        },
        ap (λ (c : Cached). held c.files) last ∙ ap held a.counted.files ∙ a.rooms.held,
      )

  read_left : (x : FileRead) (disk after : Disk) (p : ℕ) (h k : KernelState)
      → ((i : ℕ) → x.at ≤ i → i < x.at + x.count → Read x.file i) → LeavesAtRefusal x disk h after k (NoRoom p)
      → RangeLeft (record { store = h.store; cache = h.cache }) (record { store = k.store; cache = k.cache })
  read_left x disk after p h k read (inl early) = absurd early.0
  read_left x disk after p h k read (inr late) =
      let range = late.1.range in
      range_left x.file range.from range.to p (record { store = h.store; cache = h.cache })
      (record { store = k.store; cache = k.cache })
      (λ i low high. read i (omega (arith, low, high, range.begins, range.stops)) (omega (arith, high, range.stops)))
      late.1.leaves

  -- a read by copying, after which pages may have been freed
  copy_left : (h k : KernelState) (mid : Stored)
      → RangeLeft (record { store = h.store; cache = h.cache }) (record { store = mid; cache = k.cache })
      → FreesOnly mid k.store → SameTables h k → LeavesBoth h k
  copy_left h k mid left frees same = (
    left.0,
    λ was now.
        let counts = held_alike h k same left.2 was now in
        let here : Counts mid k.store [] [] = record { each = λ b. omega (arith, counts b, left.1.counts b) } in
        record { counts = counts; frees = frees_trans left.1.frees frees here },
  )

  room_left : (pool n p : ℕ) (h k : KernelState) → MayHaveEvicted pool n h k (NoRoom p) → LeavesBoth h k
  room_left pool n p h k (inl same) = same_kernel h k same
  room_left pool n p h k (inr late) = absurd (let e : ◌≡◌ {A = Refusal} (NoRoom p) Memory = late.memory in cc)

  write_left : (f p : ℕ) (xs : List Slice) (h k : KernelState) → LeavesUnwritten f xs h k (NoRoom p) → LeavesBoth h k
  write_left f p xs h k (inl same) = same_kernel h k same
  write_left f p xs h k (inr late) =
      (only_reserved h.cache k.cache (late.2 p refl).same, λ was now. same_pages h.store k.store (late.2 p refl).store)

  put_left : (pool p : ℕ) (bytes : List ℕ) (h k : KernelState) → LeavesUnlaid pool bytes h k (NoRoom p) → LeavesBoth h k
  put_left pool p bytes h k (inl same) = same_kernel h k same
  put_left pool p bytes h k (inr late) = absurd (let e : ◌≡◌ {A = Refusal} (NoRoom p) Memory = late.memory in cc)

-- For each object of a descriptor.

module _ (old new : SystemState) (p : ℕ) where
  abbrev Kept : ((f i : ℕ) → Type 0) → Type 0
  Kept Read = LeavesBoth Read old.kernel new.kernel

  read_on : (by fd n : ℕ) (o : Option Descriptor) → ReadLeaves by fd n old o (reply.Refused (NoRoom p)) new
      → LacksRoomToRead old o n → Kept (IsInRange o n)
  read_on by fd n (Some (on.File f at mode)) late lacks =
      (let left = read_left (IsInRange (Some (on.File f at mode)) n) (file_read by fd f at mode n) old.disk new.disk p
      old.kernel new.kernel (λ i low high. (refl, low, high)) late.1 in (left.0, λ was now. left.1))
  read_on by fd n o late lacks = absurd lacks

  copy_on : (by fd n : ℕ) (o : Option Descriptor) → CopyLeaves by fd n old o (reply.Refused (NoRoom p)) new
      → LacksRoomToRead old o n → Kept (IsInRange o n)
  copy_on by fd n (Some (on.File f at mode)) late lacks =
      copy_left (IsInRange (Some (on.File f at mode)) n) old.kernel new.kernel late.mid
      (read_left (IsInRange (Some (on.File f at mode)) n) (file_read by fd f at mode n) old.disk new.disk p old.kernel
      (record new.kernel { store = late.mid }) (λ i low high. (refl, low, high)) late.leaves) late.frees late.same
  copy_on by fd n o late lacks = absurd lacks

  write_on : (xs : List Slice) (o : Option Descriptor)
      → WriteLeaves old.kernel o xs (reply.Refused (NoRoom p)) new.kernel → LacksRoomToWrite old.kernel o xs
      → Kept (λ f i. ⊥)
  write_on xs (Some (on.File f at mode)) late lacks = write_left (λ f i. ⊥) f p xs old.kernel new.kernel late.1
  write_on xs o late lacks = absurd lacks

  put_on : (w : Wants) (bytes : List ℕ) (o : Option Descriptor)
      → PutLeaves w bytes old.kernel o (reply.Refused (NoRoom p)) new.kernel → Kept (λ f i. ⊥)
  put_on w bytes (Some (on.File f at mode)) late = put_left (λ f i. ⊥) w.pool p bytes old.kernel new.kernel late
  put_on w bytes o late = room_left (λ f i. ⊥) w.pool w.count p old.kernel new.kernel late

  call_left : (by : ℕ) (c : Call) → CallLeaves old by c (reply.Refused (NoRoom p)) new → CallLacksRoom old by c
      → (uses_cache (tables_of old.kernel) (event.Call by c) ≡ false → new ≡ old)
      → Kept (IsRead (tables_of old.kernel) (event.Call by c))
  call_left by (call.AggMake bytes) late lacks unused = room_left (λ f i. ⊥) _ _ p old.kernel new.kernel late
  call_left by (call.PoolCreate chunks list) late lacks unused =
      same_kernel (λ f i. ⊥) old.kernel new.kernel (ap (λ (s : SystemState). s.kernel) (unused refl))
  call_left by (call.IolRead fd n) late lacks unused = read_on by fd n _ late lacks
  call_left by (call.IolWrite fd a) late lacks unused = write_on _ _ late lacks
  call_left by (call.Read fd n) late lacks unused = copy_on by fd n _ late lacks
  call_left by (call.Write fd bytes) late lacks unused = put_on (for_written old.kernel by fd bytes) bytes _ late
  call_left by c late lacks unused = absurd lacks

  event_left : (e : Event) → LeavesLate old e (reply.Refused (NoRoom p)) new → LacksRoomFor old e
      → (uses_cache (tables_of old.kernel) e ≡ false → new ≡ old) → Kept (IsRead (tables_of old.kernel) e)
  event_left (event.Call by c) late lacks unused = call_left by c late lacks unused
  event_left (event.Arrive c bytes) late lacks unused = room_left (λ f i. ⊥) _ _ p old.kernel new.kernel late
  event_left e late lacks unused = absurd lacks

pub no_room_left : (old new : SystemState) (e : Event) (p : ℕ) → Promises old e (reply.Refused (NoRoom p)) new
    → LeavesBoth (IsRead (tables_of old.kernel) e) old.kernel new.kernel
no_room_left old new e p x = event_left old new p e x.late (x.no_room tt) (λ unused. x.refused unused tt)

pub no_room_evicts : NoRoomEvictsNothing
no_room_evicts old new e p x = (no_room_left old new e p x).0
