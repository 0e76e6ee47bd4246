-- New bytes at the end of a queue that a domain writes to.
use Rattle.std.proofs.Common.{◌≡◌, ℕ, zero, suc, ◌-◌, ◌<◌, ◌≤◌, ◌||◌, Bool, List, [], ◌∷◌, ◌++◌, length, map, take, ap}
use Rattle.std.specs.List.{AllByRecursion}
use Rattle.std.proofs.Common.{◌∙◌, refl, sym, subst, arith, Option, Some, None, true, false, inr}
use Rattle.std.specs.Prelude.{slice_set, min, unwrap_or, MatchOption, Result, Ok, Err, IfErr, IfOk, OnErr, OnOk}
use Rattle.std.proofs.lemmas.List.{length-take}
use Rattle.iol_core.specs.Text.{Text, labelled}
use Rattle.iol_core.specs.NumberedLists.{lookup, changed, in_place}
use Rattle.iol_core.specs.State as machine
use Rattle.iol_core.specs.State.{State, Domain, Connection}
use Rattle.iol_core.specs.Meaning.{WantOfRoom}
use Rattle.iol_core.specs.Calls.Writes as writing
use Rattle.iol_core.specs.declared.descriptors.Descriptor.{Descriptor}
use Rattle.iol_core.specs.declared.descriptors.Descriptor.TheVariants as on
use Rattle.iol_core.specs.declared.limits.TheConstants.{MAX_QUEUE_BYTES}
use Rattle.iol_core.specs.declared.refusals.Refusal.{Refusal}
use Rattle.iol_core.specs.declared.refusals.Refusal.TheVariants.{NoRoom}
use Rattle.iol_pool.specs.Pools.{Pool}
use Rattle.iol_hold.specs.StoreState.{Stored}
use Rattle.iol_hold.specs.Moves.{pool_meant}
use Rattle.iol_hold.specs.Places.{byte_len}
use Rattle.iol_hold.specs.Room.{ReportsRoom, has_room}
use Rattle.iol_hold.specs.Texts.{text_of, AllReadable}
use Rattle.iol_hold.specs.declared.slices.Slice.{Slice}
use Rattle.iol_hold.proofs.AtPlaces.{read-append}
use Rattle.iol_hold.proofs.ReadSlices.{readable_none}
use Rattle.iol_pipe.specs.NewBytes.{AddsBytes, AddsFitting}
use Rattle.iol_pipe.specs.Queue.{fitting}
use Rattle.iol_sock.specs.Calls.{QueuesNew}
use Rattle.iol_sock.specs.Connections.{Conn, conn_view}
use Rattle.iol_sock.specs.Refusals.{queue_refusals, IsRefused}
use Rattle.iol_sock.specs.Table.{conn_in}
use Rattle.iol_sock.proofs.MachineConns.{conn_at-is, queues_meant, fits_meant}
use Rattle.iol_kernel.specs.Calls.{MakesBytes, Steps}
use Rattle.iol_kernel.specs.HoldCounts.{IsCounted}
use Rattle.iol_kernel.specs.WritesByCopy.{FillsQueue, MayPut, lands_in, written_to}
use Rattle.iol_kernel.specs.Queues.{with_queue_of}
use Rattle.iol_kernel.specs.Views.{Pipe, pipe_view, state_view}
use Rattle.iol_kernel.specs.KernelState as held
use Rattle.iol_kernel.specs.KernelState.{KernelState, objects_of, AreReadable, IsPipeReadable, IsOpenEnd, IsSound}
use Rattle.iol_kernel.specs.KernelState.{read_of, machine_of, queue_at}
use Rattle.iol_kernel.specs.Readings.{Reading, read, bytes_over}
use Rattle.iol_kernel.proofs.Connections.OneConnection.{conn_found, turned, turned-read}
use Rattle.iol_kernel.proofs.Connections.ConnQueues.{open_held, found_held, with_on}
use Rattle.iol_kernel.proofs.Connections.GrownQueue.{grown-sound}
use Rattle.iol_kernel.proofs.State.NewBytes.{added-read, added-sound, added_queue, added_readable, added_uses}
use Rattle.iol_kernel.proofs.State.NewBytes.{fitted_short}
use Rattle.iol_kernel.proofs.State.AfterRoom.{fills_none, fills_some, late_step}
use Rattle.iol_kernel.proofs.Queues.EndCounts.{ends_queued, there_if_open}
use Rattle.iol_kernel.proofs.Queues.PassedTests.{passed_last}
use Rattle.iol_kernel.proofs.State.NumberedEntries.{each_found}
use Rattle.iol_kernel.proofs.State.Pools.{pools_pooled}
use Rattle.iol_kernel.proofs.Queues.SoundPipes.{queue_limits, queue_short, writing_held}
use Rattle.iol_kernel.proofs.State.ReadOf.{pipe_at-read_of, length_queue-read_of}
use Rattle.iol_kernel.proofs.State.Sound.{each-get, each-set, each-weaker}
use Rattle.iol_kernel.proofs.State.Uses.{uses-set_pipe}
use Rattle.iol_kernel.proofs.State.Views.{with_pipe-view}

-- a pipe that is borrowed

set_there : {A : Type 0} (xs : List (Option A)) (n : ℕ) (x y : A) → in_place xs n ≡ Some x
    → in_place (slice_set xs n (Some y)) n ≡ Some y
set_there [] n x y there = absurd (cc there)
set_there (z ∷ xs) zero x y there = refl
set_there (z ∷ xs) (suc n) x y there = set_there xs n x y there

abbrev closed_pipe : Pipe (List Slice)
closed_pipe = record { queue = []; reading = false; writing = false }

pub lent_was : (rs qs : List (Option (Pipe (List Slice)))) (n p : ℕ) (x : Pipe (List Slice)) → qs ≡ rs → n ≡ p
    → in_place qs n ≡ Some x → queue_at rs p ≡ x
lent_was rs qs n p x same is there =
    ap (λ (o : Option (Pipe (List Slice))). unwrap_or o closed_pipe)
    (ap (λ (ys : List (Option (Pipe (List Slice)))). in_place ys p) (sym same) ∙ ap (in_place qs) (sym is) ∙ there)

pub lent_is : (qs : List (Option (Pipe (List Slice)))) (n p : ℕ) (x y : Pipe (List Slice)) → n ≡ p
    → in_place qs n ≡ Some x → queue_at (slice_set qs n (Some y)) p ≡ y
lent_is qs n p x y is there =
    ap (λ (o : Option (Pipe (List Slice))). unwrap_or o closed_pipe) (ap (in_place (slice_set qs n (Some y))) (sym is)
    ∙ set_there qs n x y there)

pub lent_set : (rs qs : List (Option (Pipe (List Slice)))) (n p : ℕ) (x : Pipe (List Slice)) (q : List Slice) → qs ≡ rs
    → n ≡ p → in_place qs n ≡ Some x
    → slice_set qs n (Some (record x { queue = q }))
    ≡ with_queue_of rs p (slice_set qs n (Some (record x { queue = q })))
lent_set rs qs n p x q same is there =
    let y : Pipe (List Slice) = record x { queue = q } in
    ap (λ (ys : List (Option (Pipe (List Slice)))). slice_set ys n (Some y)) same
    ∙ ap (λ i. slice_set rs i (Some y)) is
    ∙ ap (λ (z : Pipe (List Slice)). slice_set rs p (Some (record z { queue = q })))
    (sym (lent_was rs qs n p x same is there))
    ∙ ap (λ (z : Pipe (List Slice)). slice_set rs p (Some (record (queue_at rs p) { queue = z.queue })))
    (sym (lent_is qs n p x y is there))

-- At the end of a connection's output.

module _ (h : KernelState) (t : Stored) (c pool : ℕ) (x : Conn (List Slice)) (q : List Slice) (bytes : List ℕ)
    (sound : IsSound h) (found : lookup h.conns c ≡ Some x) (adds : AddsBytes h.store t x.outgoing q pool bytes)
    (short : byte_len q ≤ MAX_QUEUE_BYTES) where
  abbrev longer : Conn (List Slice)
  longer = record x { outgoing = q }

  abbrev sending : KernelState
  sending = turned h t c x longer sound found

  sending-sound : IsSound sending
  sending-sound =
      grown-sound h t c pool x longer x.outgoing q bytes sound found adds (λ b. omega arith)
      (λ was more. (was.0, more was.1)) (λ was. record { incoming = was.incoming; outgoing = short; waits = was.waits })
      refl (λ open'. open')

  sending-read : x.accepted ≡ true → x.closed ≡ false → (d fd : ℕ) (f : Reading)
      → machine.descriptor (read_of f h) d fd ≡ Some (on.Connection c)
      → read_of f sending ≡ written_to d fd (read_of f h) (read f adds.slices)
  sending-read accepted' closed' d fd f to =
      let s : State = read_of f h in
      let is : machine.conn_at s c ≡ conn_view (read f) x = conn_at-is f.at s c x (conn_found f h c x found) in
      let w : Text → Connection = λ u. record (conn_view (read f) x) { outgoing = u } in
      turned-read h t c x longer sound found (ap (map pool_meant) adds.pools) f
      ∙ ap (λ (u : Text). record s { conns = changed s.conns c (w u) }) (ap (read f) adds.added
      ∙ read-append f.at x.outgoing adds.slices)
      ∙ sym (with_on s c (w (read f x.outgoing ++ read f adds.slices)) accepted' closed')
      ∙ ap (λ (y : Connection). machine.with_conn s c (record y { outgoing = y.outgoing ++ read f adds.slices }))
      (sym is)
      ∙ ap (λ (o : Option Descriptor). writing.written s d fd o (read f adds.slices)) (sym to)

-- At the end of a pipe's queue.

right_true : (a b : Bool) → b ≡ true → (a || b) ≡ true
right_true true b e = refl
right_true false b e = e

module _ (h : KernelState) (t : Stored) (p pool : ℕ) (q : List Slice) (bytes : List ℕ) (sound : IsSound h)
    (writing' : (queue_at h.pipes p).writing ≡ true)
    (adds : AddsBytes h.store t (queue_at h.pipes p).queue q pool bytes) (short : byte_len q ≤ MAX_QUEUE_BYTES) where
  abbrev fuller : Pipe (List Slice)
  fuller = record (queue_at h.pipes p) { queue = q }

  abbrev more : List (Option (Pipe (List Slice)))
  more = slice_set h.pipes p (Some fuller)

  abbrev filling : KernelState
  filling = record h { store = t; pipes = more }

  there : p < length h.pipes
  there = there_if_open h.pipes p (inr writing')

  rest_good : AreReadable t (objects_of h)
  rest_good = added_readable h t (queue_at h.pipes p).queue q pool bytes sound adds

  queue_good : AllReadable t (queue_at h.pipes p).queue
  queue_good = pick (in_place h.pipes p) (each-get (IsPipeReadable t) h.pipes p None rest_good.pipes tt)
    where
      pick : (o : Option (Pipe (List Slice))) → IsPipeReadable t o
          → AllReadable t (unwrap_or o (record { queue = []; reading = false; writing = false })).queue
      pick None r = readable_none t
      pick (Some x) r = r

  filling-counted : IsCounted t h.domains (record (objects_of h) { pipes = more })
  filling-counted =
      record {
        each =
            λ b. omega (
              arith,
              sound.counted.each b,
              added_uses h t (queue_at h.pipes p).queue q pool bytes sound adds b,
              uses-set_pipe b h.pipes p fuller there,
            );
      }

  filling-sound : IsSound filling
  filling-sound = added-sound h t (queue_at h.pipes p).queue q pool bytes sound adds more h.conns
      (record {
        pipes =
            each-set (IsPipeReadable t) h.pipes p (Some fuller) rest_good.pipes
            (added_queue h t (queue_at h.pipes p).queue q pool bytes sound adds queue_good);
        conns = rest_good.conns;
        files = rest_good.files;
      })
      (each-weaker (λ (z : Domain (List Slice)). AllByRecursion (IsOpenEnd (objects_of h)) z.fds)
      (λ (z : Domain (List Slice)). AllByRecursion (IsOpenEnd (record (objects_of h) { pipes = more })) z.fds) h.domains
      (λ z e. ends_queued (objects_of h) p q there z.fds e) sound.fds)
      filling-counted (queue_limits h p q sound short)
      (pools_pooled h.store t h.conns h.cache.files adds.pools sound.pooled)

  filling-read : (d fd : ℕ) (f : Reading) → machine.descriptor (read_of f h) d fd ≡ Some (on.WriteEnd p)
      → read_of f filling ≡ written_to d fd (read_of f h) (read f adds.slices)
  unfolding read_of
  filling-read d fd f to =
      let m : State = read_of f h in
      ap (λ (ps : List Pool). state_view f h.domains ps (record (objects_of h) { pipes = more })) adds.pools
      ∙ with_pipe-view f h.domains h.store.pools (objects_of h) p fuller
      (right_true fuller.reading fuller.writing writing')
      ∙ ap (λ (u : Text). machine.with_pipe m p (record (pipe_view (read f) (queue_at h.pipes p)) { queue = u }))
      (ap (read f) adds.added ∙ read-append f.at (queue_at h.pipes p).queue adds.slices)
      ∙ ap (λ (w : machine.Pipe). machine.with_pipe m p (record w { queue = w.queue ++ read f adds.slices }))
      (sym (pipe_at-read_of f h p))
      ∙ ap (λ (o : Option Descriptor). writing.written m d fd o (read f adds.slices)) (sym to)

-- The meaning of the call, for both.

module _ (h : KernelState) (d fd : ℕ) (target : Descriptor) (pool : ℕ) (bytes : List ℕ)
    (may : MayPut d fd target pool bytes h) where
  module _ (k : KernelState) (n : ℕ) (old q : List Slice) (number : (f : Reading)
      → n ≡ (writing.write (read_of f h) d fd bytes).answer)
      (adds : AddsBytes h.store k.store old q pool (take n bytes)) (each : (f : Reading)
      → read_of f k ≡ written_to d fd (read_of f h) (read f adds.slices)) (sums : k.sums ≡ h.sums)
      (cache : k.cache ≡ h.cache) (sound : IsSound k) where
    put_step : Steps (λ s. writing.write s d fd bytes) h (Ok n) k
    put_step stored = let f = bytes_over stored h.store in let s : State = machine_of stored h in (
      may.passes.passed f,
      number f,
      each (bytes_over stored k.store)
          ∙ ap (λ (x : State). written_to d fd x (text_of k.store adds.slices))
          (added-read h k.store old q pool (take n bytes) may.sound adds stored)
          ∙ ap (written_to d fd s) adds.is_text
          ∙ ap (λ p. written_to d fd s (labelled p (take n bytes))) (may.passes.pool f)
          ∙ ap (λ m. written_to d fd s (labelled (lands_in d fd s) (take m bytes))) (number f),
    )

    put_made : MakesBytes (written_to d fd) pool n h k
    put_made =
        let long : n ≤ length bytes =
        omega (arith, number (bytes_over [] h.store), fits_all (machine.descriptor (machine_of [] h) d fd)) in
        let size : length (take n bytes) ≡ n = omega (arith, length-take n bytes, long) in
        subst (λ m. MakesBytes (written_to d fd) pool m h k) size
        (record {
          slices = adds.slices;
          each = each;
          sums = sums;
          cache = cache;
          made_on = adds.made_on;
          pages =
              adds.pages;
        })
      where
        fits_all : (o : Option Descriptor) → writing.fitting (machine_of [] h) o (length bytes) ≤ length bytes
        fits_all None = omega arith
        fits_all (Some (on.File f at mode)) = omega arith
        fits_all (Some (on.ReadEnd p)) = omega arith
        fits_all (Some (on.WriteEnd p)) = omega arith
        fits_all (Some (on.Connection c)) = omega arith

    put_some : FillsQueue d fd pool bytes h (Ok n) k
    put_some = fills_some (λ s. writing.write s d fd bytes) (written_to d fd) pool n h k put_step put_made sound
        adds.moves.stays

  -- a late refusal, of a queue that takes n bytes
  put_none : (k : KernelState) (r : Refusal) (n : ℕ) → (writing.write (machine_of [] h) d fd bytes).answer ≡ n
      → WantOfRoom pool r → k ≡ h
      → ((p : ℕ) → ◌≡◌ {A = Result ℕ Refusal} (Err r) (Err (NoRoom p)) → has_room h.store pool n ≡ false)
      → FillsQueue d fd pool bytes h (Err r) k
  put_none k r n number late same lacks =
      fills_none (λ s. writing.write s d fd bytes) (written_to d fd) pool h k r may.sound same
      (λ stored. let f = bytes_over stored h.store in (
        late_step (writing.write (machine_of stored h) d fd bytes) r (may.passes.passed f)
            (subst (λ p. WantOfRoom p r) (may.passes.pool f) late),
        refl,
      ))
      (λ p is. ap (has_room h.store pool) number ∙ lacks p is)

-- On a connection.

module _ (h : KernelState) (d fd c pool : ℕ) (bytes : List ℕ) (may : MayPut d fd (on.Connection c) pool bytes h) where
  abbrev y : Conn (List Slice)
  y = conn_in h.conns c

  here : lookup h.conns c ≡ Some y
  here = found_held h d fd c may.sound may.to

  number : (f : Reading) → (writing.write (read_of f h) d fd bytes).answer ≡ fitting y.outgoing (length bytes)
  number f = ap (λ (o : Option Descriptor). writing.fitting (read_of f h) o (length bytes)) (may.to f)
      ∙ fits_meant f.at (read_of f h) c (length bytes) y (conn_found f h c y here)

  late' : (r : Refusal) → IsRefused (queue_refusals y (length bytes)) (WantOfRoom pool) r → WantOfRoom pool r
  late' r refused =
      let f = bytes_over [] h.store in
      let none = sym (queues_meant f.at (machine_of [] h) c (length bytes) y (conn_found f h c y here))
      ∙ passed_last (machine_of [] h) d fd bytes (may.passes.passed f) (Some (on.Connection c)) (may.to f) in
      subst (λ (o : Option Refusal). MatchOption o (WantOfRoom pool r) (λ z. r ≡ z)) none refused

  module _ (k : KernelState) (n : ℕ) (count : n ≡ fitting y.outgoing (length bytes))
      (adds : AddsBytes h.store k.store y.outgoing (conn_in k.conns c).outgoing pool (take n bytes))
      (same : k ≡ record h {
        store = k.store;
        conns =
            changed h.conns c (record y { outgoing = (conn_in k.conns c).outgoing });
      }) where
    short : byte_len (conn_in k.conns c).outgoing ≤ MAX_QUEUE_BYTES
    short = fitted_short h.store k.store y.outgoing (conn_in k.conns c).outgoing pool n (length bytes) bytes adds
        (each_found held.IsConn h.conns c y may.sound.limits.objects.conns here).outgoing count

    sent_sound : IsSound k
    sent_sound =
        subst IsSound (sym same) (sending-sound h k.store c pool y (conn_in k.conns c).outgoing (take n bytes) may.sound
        here adds short)

    sent_each : (f : Reading) → read_of f k ≡ written_to d fd (read_of f h) (read f adds.slices)
    sent_each f =
        let open' = open_held h d fd c may.sound may.to in
        ap (read_of f) same ∙ sending-read h k.store c pool y (conn_in k.conns c).outgoing (take n bytes) may.sound here
        adds short open'.0 open'.1 d fd f (may.to f)

    sent : FillsQueue d fd pool bytes h (Ok n) k
    sent = put_some h d fd (on.Connection c) pool bytes may k n y.outgoing (conn_in k.conns c).outgoing (λ f. count
        ∙ sym (number f)) adds sent_each (ap (λ (x : KernelState). x.sums) same)
        (ap (λ (x : KernelState). x.cache) same) sent_sound

  pub sends : (k : KernelState) (r : Result ℕ Refusal) → QueuesNew h.store k.store y (conn_in k.conns c) pool bytes r
      → k ≡ record h {
        store = k.store;
        conns =
            changed h.conns c (record y { outgoing = (conn_in k.conns c).outgoing });
      } → OnErr r (k ≡ h)
      → FillsQueue d fd pool bytes h r k
  sends k (Ok n) q same kept = sent k n q.adds.taken q.adds.added same
  sends k (Err r) q same kept = put_none h d fd (on.Connection c) pool bytes may k r (fitting y.outgoing (length bytes))
      (number (bytes_over [] h.store)) (late' r q.refused) kept q.room.no_room

-- In a pipe.

module _ (h : KernelState) (d fd p pool : ℕ) (bytes : List ℕ) (may : MayPut d fd (on.WriteEnd p) pool bytes h) where
  abbrev waits : List Slice
  waits = (queue_at h.pipes p).queue

  counts : (f : Reading) → (writing.write (read_of f h) d fd bytes).answer ≡ fitting waits (length bytes)
  counts f = ap (λ (o : Option Descriptor). writing.fitting (read_of f h) o (length bytes)) (may.to f)
      ∙ ap (λ k. min (length bytes) (MAX_QUEUE_BYTES - k)) (length_queue-read_of f h p)

  module _ (t : Stored) (qs : List (Option (Pipe (List Slice)))) where
    abbrev filled : KernelState
    filled = record h { store = t; pipes = qs }

    module _ (n : ℕ) (count : n ≡ fitting waits (length bytes))
        (adds : AddsBytes h.store t waits (queue_at qs p).queue pool (take n bytes))
        (pipes' : qs ≡ with_queue_of h.pipes p qs) where
      writes' : (queue_at h.pipes p).writing ≡ true
      writes' = writing_held (bytes_over [] h.store) h d fd p may.sound (may.to (bytes_over [] h.store))

      small : byte_len (queue_at qs p).queue ≤ MAX_QUEUE_BYTES
      small =
          fitted_short h.store t waits (queue_at qs p).queue pool n (length bytes) bytes adds
          (queue_short h p may.sound) count

      filled_sound : IsSound filled
      filled_sound = subst (λ (ys : List (Option (Pipe (List Slice)))). IsSound (record h { store = t; pipes = ys }))
          (sym pipes') (filling-sound h t p pool (queue_at qs p).queue (take n bytes) may.sound writes' adds small)

      filled_each : (f : Reading) → read_of f filled ≡ written_to d fd (read_of f h) (read f adds.slices)
      filled_each f = ap (λ (ys : List (Option (Pipe (List Slice)))). read_of f (record h { store = t; pipes = ys }))
          pipes' ∙ filling-read h t p pool (queue_at qs p).queue (take n bytes) may.sound writes' adds small d fd f
          (may.to f)

      some_filled : FillsQueue d fd pool bytes h (Ok n) filled
      some_filled = put_some h d fd (on.WriteEnd p) pool bytes may filled n waits (queue_at qs p).queue (λ f. count
          ∙ sym (counts f)) adds filled_each refl refl filled_sound

    pub fills : (r : Result ℕ Refusal) → IfErr r (WantOfRoom pool)
        → IfOk r (AddsFitting h.store t waits (queue_at qs p).queue pool bytes)
        → OnOk r (qs ≡ with_queue_of h.pipes p qs)
        → ReportsRoom (has_room h.store pool (fitting waits (length bytes))) r → OnErr r (filled ≡ h)
        → FillsQueue d fd pool bytes h r filled
    fills (Ok n) late adds pipes' room kept = some_filled n adds.taken adds.added pipes'
    fills (Err r) late adds pipes' room kept =
        put_none h d fd (on.WriteEnd p) pool bytes may filled r (fitting waits (length bytes))
        (counts (bytes_over [] h.store)) late kept room.no_room

-- a refusal leaves the pipes and the store unchanged
pub kept_pipes : {A : Type 0} (h : KernelState) (t : Stored) (qs : List (Option (Pipe (List Slice))))
    (r : Result A Refusal) → OnErr r ((qs ≡ h.pipes) × (t ≡ h.store)) → OnErr r (record h { store = t; pipes = qs } ≡ h)
kept_pipes h t qs (Ok a) same = tt
kept_pipes h t qs (Err x) same = λ i. record h { store = same.1 i; pipes = same.0 i }
