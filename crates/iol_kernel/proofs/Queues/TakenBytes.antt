-- Bytes that are copied out of a queue, and taken off it.
use Rattle.std.proofs.Common.{◌≡◌, ℕ, zero, suc, ◌+◌, ◌<◌, ◌≤◌, ◌||◌, Bool, cond, List, [], ◌∷◌, length, map, take}
use Rattle.std.proofs.Common.{drop, ap, ◌∙◌, refl, sym, subst, arith, Option, Some, true, false, inl}
use Rattle.std.specs.Prelude.{slice_set}
use Rattle.std.specs.List.{take_while, prefix_len, AllByRecursion}
use Rattle.std.proofs.lemmas.List.{length-drop, length-map, take-map}
use Rattle.iol_core.specs.Text.{Text, bytes_of, admitted}
use Rattle.iol_core.specs.NumberedLists.{lookup, changed}
use Rattle.iol_core.specs.State as machine
use Rattle.iol_core.specs.State.{State, Domain, Connection}
use Rattle.iol_core.specs.Calls.Reads as reading
use Rattle.iol_core.specs.Calls.Writes as writing
use Rattle.iol_core.specs.declared.descriptors.Descriptor.{Descriptor}
use Rattle.iol_core.specs.declared.descriptors.Descriptor.TheVariants as on
use Rattle.iol_pool.specs.Pools.{Pool, names_in}
use Rattle.iol_hold.specs.StoreState.{Stored, AllReclaimed}
use Rattle.iol_hold.specs.Layout as layout
use Rattle.iol_hold.specs.Moves.{Moves, SameLists}
use Rattle.iol_hold.specs.Places.{Place, places, byte_len}
use Rattle.iol_hold.specs.Releases.{FreesOnly}
use Rattle.iol_hold.specs.Texts.{text_of, bufs_of, AllReadable}
use Rattle.iol_hold.specs.declared.slices.Slice.{Slice}
use Rattle.iol_hold.proofs.AtPlaces.{keeps_bytes, read_rest}
use Rattle.iol_hold.proofs.PageChanges.{keeps_pages_frees}
use Rattle.iol_hold.proofs.ReadSlices.{readable_rest}
use Rattle.iol_pipe.specs.Queue.{may_see}
use Rattle.iol_sock.specs.Connections.{Conn, conn_view}
use Rattle.iol_sock.specs.Table.{conn_in}
use Rattle.iol_kernel.specs.Calls.{Leaves}
use Rattle.iol_kernel.specs.Queues.{with_queue_of}
use Rattle.iol_kernel.specs.Views.{Pipe, pipe_view}
use Rattle.iol_kernel.specs.KernelState.{KernelState, objects_of, AreReadable, IsConn, IsConnReadable}
use Rattle.iol_kernel.specs.KernelState.{IsPipeReadable, IsOpenEnd, IsSound, read_of, machine_of, queue_at}
use Rattle.iol_kernel.proofs.Connections.OneConnection.{IsOpenConn, conn_in-found, conn_limit, conn_readable}
use Rattle.iol_kernel.proofs.Connections.OneConnection.{open_conn-there, turned, turned_fds, turned_leaves}
use Rattle.iol_kernel.proofs.Connections.ConnQueues.{conn_at-read_of, with_on}
use Rattle.iol_kernel.proofs.State.Effects.{leaves, moved-sound}
use Rattle.iol_kernel.proofs.Queues.EndCounts.{ends_queued, there_if_open}
use Rattle.iol_kernel.proofs.Queues.ReadsAndWrites.{admitted-same}
use Rattle.iol_kernel.proofs.State.Pools.{same_pooled}
use Rattle.iol_kernel.proofs.Queues.SoundPipes.{queue_readable, queue_short, queue_limits}
use Rattle.iol_kernel.proofs.State.ReadOf.{may_read-read_of, pipe_at-read_of}
use Rattle.iol_kernel.proofs.State.Sound.{each-set, each-weaker}
use Rattle.iol_kernel.proofs.State.Uses.{uses-set_pipe}
use Rattle.iol_kernel.proofs.State.Views.{pools-view, with_pipe-view}
use Rattle.iol_kernel.specs.Readings.{Reading, read, KeepsPools, bytes_over}

-- The bytes that a reader may read, of the first n bytes of a queue.

abbrev pub seen : List Pool → (d n : ℕ) → List Slice → List Place
seen ps d n queue = take_while (may_see ps d) (take n (places queue))

prefix_len-read : (f : Place → ℕ × ℕ) → layout.KeepsPools f → (ps : List Pool) (d : ℕ) (qs : List Place)
    → prefix_len (λ b. names_in ps b.1 d) (map f qs) ≡ prefix_len (may_see ps d) qs
prefix_len-read f keeps ps d [] = refl
prefix_len-read f keeps ps d (q ∷ qs) =
    ap (λ n. cond (names_in ps (f q).1 d) (1 + n) 0) (prefix_len-read f keeps ps d qs)
    ∙ ap (λ p. cond (names_in ps p d) (1 + prefix_len (may_see ps d) qs) 0) (keeps q)

pub seen-read : (f : Reading) → KeepsPools f → (h : KernelState) (d n : ℕ) (queue : List Slice)
    → admitted (machine.may_read (read_of f h) d) (take n (read f queue)) ≡ map f.at (seen h.store.pools d n queue)
seen-read f keeps h d n queue =
    let ps : List Pool = h.store.pools in
    let first : List Place = take n (places queue) in
    sym (admitted-same (λ q. names_in ps q d) (machine.may_read (read_of f h) d) (take n (read f queue))
    (λ q. sym (may_read-read_of f h d q)))
    ∙ ap (admitted (λ q. names_in ps q d)) (take-map f.at n (places queue))
    ∙ ap (λ k. take k (map f.at first)) (prefix_len-read f.at keeps ps d first)
    ∙ take-map f.at (prefix_len (may_see ps d) first) first

pub seen-count : (f : Reading) → KeepsPools f → (h : KernelState) (d n : ℕ) (queue : List Slice)
    → length (admitted (machine.may_read (read_of f h) d) (take n (read f queue)))
    ≡ length (seen h.store.pools d n queue)
seen-count f keeps h d n queue = ap length (seen-read f keeps h d n queue)
    ∙ length-map (seen h.store.pools d n queue) f.at

-- they are its first ones
prefix_is : {A : Type 0} (k n : ℕ) (xs : List A) → take k (take n xs) ≡ take (length (take k (take n xs))) xs
prefix_is zero n xs = refl
prefix_is (suc k) zero xs = refl
prefix_is (suc k) (suc n) [] = refl
prefix_is (suc k) (suc n) (x ∷ xs) = ap (λ l. x ∷ l) (prefix_is k n xs)

pub seen-bytes : (h : KernelState) (d n count : ℕ) (queue : List Slice) → count ≡ length (seen h.store.pools d n queue)
    → bytes_of (admitted (machine.may_read (machine_of [] h) d) (take n (read (bytes_over [] h.store) queue)))
    ≡ take count (bytes_of (text_of h.store queue))
seen-bytes h d n count queue counted =
    let f : Reading = bytes_over [] h.store in
    let ps : List Pool = h.store.pools in
    ap bytes_of (seen-read f (keeps_bytes h.store) h d n queue)
    ∙ ap (λ (qs : List Place). bytes_of (map f.at qs))
    (prefix_is (prefix_len (may_see ps d) (take n (places queue))) n (places queue)
    ∙ ap (λ k. take k (places queue)) (sym counted))
    ∙ ap bytes_of (sym (take-map f.at count (places queue)))
    ∙ sym (take-map (λ (b : ℕ × ℕ). b.0) count (text_of h.store queue))

-- two changes of the machine that are equal if pools are kept
leaves_kept : (m n : State → State) (h k : KernelState)
    → ((f : Reading) → KeepsPools f → m (read_of f h) ≡ n (read_of f h)) → Leaves m h k → Leaves n h k
leaves_kept m n h k same one = record {
  bytes = λ stored. one.bytes stored ∙ same (bytes_over stored h.store) (keeps_bytes h.store);
  places = λ f keeps. one.places f keeps ∙ same f keeps;
  pages = one.pages;
  sums = one.sums;
  cache = one.cache;
  sound = one.sound;
  stays = one.stays;
}

-- The front of a queue, of a pipe or a connection: its text is that of the slices `queue`.

text-queue : (s : State) (d n : ℕ) (x : Descriptor) → writing.is_file (Some x) ≡ false
    → reading.read_text s d (Some x) n ≡ admitted (machine.may_read s d) (take n (reading.unread s (Some x)))
text-queue s d n (on.File g at mode) no_file = absurd (cc no_file)
text-queue s d n (on.ReadEnd p) no_file = refl
text-queue s d n (on.WriteEnd p) no_file = refl
text-queue s d n (on.Connection c) no_file = refl

module _ (h : KernelState) (d n count : ℕ) (x : Descriptor) (queue : List Slice)
    (no_file : writing.is_file (Some x) ≡ false) (reported : (f : Reading)
    → reading.unread (read_of f h) (Some x) ≡ read f queue) (counted : count ≡ length (seen h.store.pools d n queue))
  where
    text_read : (f : Reading)
        → reading.read_text (read_of f h) d (Some x) n ≡ admitted (machine.may_read (read_of f h) d)
        (take n (read f queue))
    text_read f = text-queue (read_of f h) d n x no_file
        ∙ ap (λ (t : Text). admitted (machine.may_read (read_of f h) d) (take n t)) (reported f)

    pub front_count : (f : Reading) → KeepsPools f → count ≡ length (reading.read_text (read_of f h) d (Some x) n)
    front_count f keeps = counted ∙ sym (ap length (text_read f) ∙ seen-count f keeps h d n queue)

    pub front_bytes : take count (bytes_of (text_of h.store queue))
        ≡ bytes_of (reading.read_text (machine_of [] h) d (Some x) n)
    front_bytes = sym (ap bytes_of (text_read (bytes_over [] h.store)) ∙ seen-bytes h d n count queue counted)

-- They are taken off by a read by copying.
module _ (h : KernelState) (d fd n count : ℕ) (x : Descriptor) (from : (f : Reading)
    → machine.descriptor (read_of f h) d fd ≡ Some x) (counted : (f : Reading) → KeepsPools f
    → count ≡ length (reading.read_text (read_of f h) d (Some x) n)) where
  pub copied_left : (k : KernelState) → Leaves (λ s. reading.read_on s d fd (Some x) count) h k
      → Leaves (λ s. (reading.read s d fd n).after) h k
  copied_left k skipped = leaves_kept (λ s. reading.read_on s d fd (Some x) count) (λ s. (reading.read s d fd n).after)
      h k
      (λ f keeps. ap (reading.read_on (read_of f h) d fd (Some x)) (counted f keeps)
      ∙ ap
      (λ (o : Option Descriptor). reading.read_on (read_of f h) d fd o
      (length (reading.read_text (read_of f h) d o n))) (sym (from f))) skipped

-- The first bytes of a connection's input are taken off.

module _ (h k : KernelState) (c count : ℕ) (sound : IsSound h) (open' : IsOpenConn (conn_in h.conns c))
    (rest : places (conn_in k.conns c).incoming ≡ drop count (places (conn_in h.conns c).incoming))
    (same : k ≡ record h {
      store = k.store;
      conns =
          changed h.conns c (record (conn_in h.conns c) { incoming = (conn_in k.conns c).incoming });
    })
    (moves : Moves h.store k.store (bufs_of (conn_in h.conns c).incoming) (bufs_of (conn_in k.conns c).incoming))
    (lists : SameLists h.store k.store) (frees : FreesOnly h.store k.store)
    (reclaims : AllReadable h.store (conn_in h.conns c).incoming → AllReclaimed h.store → AllReclaimed k.store)
  where
    abbrev x : Conn (List Slice)
    x = conn_in h.conns c

    abbrev y : Conn (List Slice)
    y = record x { incoming = (conn_in k.conns c).incoming }

    found : lookup h.conns c ≡ Some x
    found = conn_in-found h.conns c (open_conn-there h.conns c open')

    was : IsConnReadable h.store (c, x)
    was = conn_readable h c x sound found

    limit : IsConn (c, y)
    limit =
        let l = conn_limit h c x sound found in
        record {
          incoming = omega (arith, l.incoming, ap length rest, length-drop count (places x.incoming));
          outgoing =
              l.outgoing;
          waits = l.waits;
        }

    abbrev skip : Connection → Connection
    skip w = record w { incoming = drop count w.incoming }

    skipped : Leaves (λ s. record s { conns = changed s.conns c (skip (machine.conn_at s c)) }) h
        (turned h k.store c x y sound found)
    skipped = turned_leaves h k.store c x y sound found (λ b. omega (arith, moves.counts.each b)) moves.stays
        (moves.tidy sound.tidy) (moves.still sound.still) (reclaims was.0 sound.reclaimed) lists
        (keeps_pages_frees frees).count
        (readable_rest (conn_in k.conns c).incoming x.incoming count rest was.0, was.1) limit refl
        (turned_fds h k.store c x y sound found (λ open'. open')) skip
        (λ f. ap (λ (u : Text). record (conn_view (read f) x) { incoming = u })
        (sym (read_rest f.at (conn_in k.conns c).incoming x.incoming count rest))) (keeps_pages_frees frees)

    as_read : (f : Reading) → KeepsPools f
        → (let s : State = read_of f h in record s { conns = changed s.conns c (skip (machine.conn_at s c)) }
        ≡ machine.with_conn s c (skip (machine.conn_at s c)))
    as_read f keeps =
        let s : State = read_of f h in
        let w : Connection = conn_view (read f) x in
        ap (λ (z : Connection). record s { conns = changed s.conns c (skip z) }) (conn_at-read_of f h c)
        ∙ sym (with_on s c (skip w) open'.0 open'.1)
        ∙ ap (λ (z : Connection). machine.with_conn s c (skip z)) (sym (conn_at-read_of f h c))

    pub conn_skipped : Leaves (λ s. machine.with_conn s c (skip (machine.conn_at s c))) h k
    conn_skipped = subst (λ (l : KernelState). Leaves (λ s. machine.with_conn s c (skip (machine.conn_at s c))) h l)
        (sym same)
        (leaves_kept (λ s. record s { conns = changed s.conns c (skip (machine.conn_at s c)) })
        (λ s. machine.with_conn s c (skip (machine.conn_at s c))) h (turned h k.store c x y sound found) as_read
        skipped)

-- The first bytes of a pipe's queue are taken off.

left_true : (a b : Bool) → a ≡ true → (a || b) ≡ true
left_true true b e = refl
left_true false b e = absurd (cc e)

module _ (h : KernelState) (t : Stored) (qs : List (Option (Pipe (List Slice)))) (p count : ℕ) (sound : IsSound h)
    (reading' : (queue_at h.pipes p).reading ≡ true)
    (rest : places (queue_at qs p).queue ≡ drop count (places (queue_at h.pipes p).queue))
    (pipes' : qs ≡ with_queue_of h.pipes p qs)
    (moves : Moves h.store t (bufs_of (queue_at h.pipes p).queue) (bufs_of (queue_at qs p).queue))
    (lists : SameLists h.store t) (frees : FreesOnly h.store t)
    (reclaims : AllReadable h.store (queue_at h.pipes p).queue → AllReclaimed h.store → AllReclaimed t) where
  abbrev q : Pipe (List Slice)
  q = record (queue_at h.pipes p) { queue = (queue_at qs p).queue }

  abbrev less : List (Option (Pipe (List Slice)))
  less = slice_set h.pipes p (Some q)

  there : p < length h.pipes
  there = there_if_open h.pipes p (inl reading')

  less_good : AreReadable h.store (record (objects_of h) { pipes = less })
  less_good = record {
    pipes =
        each-set (IsPipeReadable h.store) h.pipes p (Some q) sound.objects.pipes
        (readable_rest (queue_at qs p).queue (queue_at h.pipes p).queue count rest (queue_readable h p sound));
    conns = sound.objects.conns;
    files = sound.objects.files;
  }

  short : byte_len (queue_at qs p).queue ≤ 65536
  short = omega (arith, queue_short h p sound, ap length rest, length-drop count (places (queue_at h.pipes p).queue))

  less_sound : IsSound (record h { store = t; pipes = less })
  less_sound =
      moved-sound h.store (record h { store = t; pipes = less }) moves.stays
      (record {
        each = λ b. omega (arith, sound.counted.each b, moves.counts.each b, uses-set_pipe b h.pipes p q there);
      })
      (moves.tidy sound.tidy) (moves.still sound.still) (reclaims (queue_readable h p sound) sound.reclaimed)
      sound.domains less_good
      (each-weaker (λ (z : Domain (List Slice)). AllByRecursion (IsOpenEnd (objects_of h)) z.fds)
      (λ (z : Domain (List Slice)). AllByRecursion (IsOpenEnd (record (objects_of h) { pipes = less })) z.fds) h.domains
      (λ z e. ends_queued (objects_of h) p (queue_at qs p).queue there z.fds e) sound.fds) sound.once
      (queue_limits h p (queue_at qs p).queue sound short)
      (same_pooled h.store t h.conns h.cache.files lists sound.pooled) sound.sums sound.filed sound.cached
      (keeps_pages_frees frees).count

  abbrev drained : State → State
  drained s = machine.with_pipe s p (record (machine.pipe_at s p) { queue = drop count (machine.pipe_at s p).queue })

  less-read : (f : Reading) → read_of f (record h { store = t; pipes = less }) ≡ drained (read_of f h)
  unfolding read_of
  less-read f =
      let m : State = read_of f h in
      pools-view f h.domains h.store.pools t.pools (record (objects_of h) { pipes = less }) lists
      ∙ with_pipe-view f h.domains h.store.pools (objects_of h) p q (left_true q.reading q.writing reading')
      ∙ ap (λ (u : Text). machine.with_pipe m p (record (pipe_view (read f) (queue_at h.pipes p)) { queue = u }))
      (read_rest f.at (queue_at qs p).queue (queue_at h.pipes p).queue count rest)
      ∙ ap (λ (w : machine.Pipe). machine.with_pipe m p (record w { queue = drop count w.queue }))
      (sym (pipe_at-read_of f h p))

  pub pipe_skipped : Leaves drained h (record h { store = t; pipes = qs })
  pipe_skipped =
      subst (λ (ys : List (Option (Pipe (List Slice)))). Leaves drained h (record h { store = t; pipes = ys }))
      (sym pipes')
      (leaves drained h (record h { store = t; pipes = less }) less-read refl refl moves.stays (keeps_pages_frees frees)
      sound.domains less_good less_sound)
