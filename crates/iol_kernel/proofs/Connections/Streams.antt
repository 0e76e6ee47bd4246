-- Bytes that come from a reader and bytes that go to a writer, on a connection.
use Rattle.std.proofs.Common.{◌≡◌, ◌≢◌, ℕ, zero, suc, ◌-◌, ◌≤◌, ◌==◌, ◌&&◌, ◌||◌, Bool, List, [], ◌∷◌, ◌++◌, length}
use Rattle.std.proofs.Common.{take, drop, ap, ◌∙◌, refl, sym, subst, arith, Option, Some, None, true, false}
use Rattle.std.specs.Prelude.{◌<◌, min, nat_lt, is_some, MatchOption, Ok}
use Rattle.std.specs.Io.KnownBytes.{Appends}
use Rattle.std.proofs.lemmas.Bool.Decides.{nat_tests}
use Rattle.std.proofs.lemmas.List.{take_all, append-nil}
use Rattle.iol_arena.specs.State.{pages_for}
use Rattle.iol_core.specs.Text.{Text, bytes_of, labelled}
use Rattle.iol_core.specs.NumberedLists.{lookup, changed}
use Rattle.iol_core.specs.State.{State, Connection, conn_at, with_conn}
use Rattle.iol_core.specs.Meaning.{◌when◌, first, WantOfRoom}
use Rattle.iol_core.specs.Calls.Outside as outside
use Rattle.iol_core.specs.declared.limits.TheConstants.{MAX_QUEUE_BYTES, PAGE_BYTES}
use Rattle.iol_core.specs.declared.refusals.Refusal.{Refusal}
use Rattle.iol_core.specs.declared.refusals.Refusal.TheVariants.{BadFd, BadRange, BrokenPipe, WouldBlock}
use Rattle.iol_hold.specs.StoreState.{AllReclaimed}
use Rattle.iol_hold.specs.Moves.{Moves, SameLists}
use Rattle.iol_hold.specs.Places.{places, byte_len}
use Rattle.iol_hold.specs.Releases.{FreesOnly}
use Rattle.iol_hold.specs.Room.{has_room}
use Rattle.iol_hold.specs.Texts.{text_of, bufs_of, byte_at}
use Rattle.iol_hold.specs.declared.slices.Slice.{Slice}
use Rattle.iol_hold.proofs.AtPlaces.{length-read}
use Rattle.iol_desc.specs.EntryLists.{Rises}
use Rattle.iol_pipe.specs.NewBytes.{AddsBytes}
use Rattle.iol_pipe.specs.Arrivals.{ReadsIn}
use Rattle.iol_pipe.specs.Queue.{fitting}
use Rattle.iol_sock.specs.Connections.{Conn, conn_view}
use Rattle.iol_sock.specs.Refusals.{arrive_refusals, read_refusals, IsRefused}
use Rattle.iol_sock.specs.Table.{conn_in}
use Rattle.iol_sock.specs.declared.drain_to.Drained.{Drained}
use Rattle.iol_sock.proofs.MachineConns.{conn_at-is, arrives_meant}
use Rattle.iol_kernel.specs.Streams.{arrive_from_refusals, DrainsTo, TakesIn, sent_on}
use Rattle.iol_kernel.specs.Calls.{Arrives, Leaves, Steps}
use Rattle.iol_kernel.specs.QueueSlices.{ArrivesFew}
use Rattle.iol_kernel.specs.KernelState.{KernelState, IsSound, read_of, machine_of}
use Rattle.iol_kernel.proofs.Connections.Arrivals.{going, passed_open, arrive_pool, all_sound, all_step, all_made}
use Rattle.iol_kernel.proofs.Connections.OneConnection.{conn_found, conn_in-found, conn_there, there-changed}
use Rattle.iol_kernel.proofs.Connections.OneConnection.{rising-read_of, not_over, conn_left}
use Rattle.iol_kernel.proofs.State.Effects.{leaves_as}
use Rattle.iol_kernel.proofs.State.NumberedEntries.{changed_same}
use Rattle.iol_kernel.proofs.Connections.Transmissions.{shorter, sent-sound, sent_leaves}
use Rattle.iol_kernel.specs.Readings.{read, bytes_over}

-- Input.

-- bytes that fit do not wait
fits_all : (xs : List Slice) (n : ℕ) → n ≤ MAX_QUEUE_BYTES - byte_len xs → fitting xs n ≡ n
fits_all xs n le = omega (arith, le)

never_waits : (n : ℕ) → (nat_lt 0 n && (n == 0)) ≡ false
never_waits n = grind (arith, nat_tests)

passes : (a b v w : Bool) → first ((BadRange when a) ∷ (BrokenPipe when b) ∷ (WouldBlock when v) ∷ []) ≡ None
    → w ≡ false → first ((BrokenPipe when b) ∷ (WouldBlock when w) ∷ []) ≡ None
passes true b v w passed off = absurd (cc passed)
passes false true v w passed off = absurd (cc passed)
passes false false v true passed off = absurd (cc off)
passes false false v false passed off = refl

all_pass : (x : Conn (List Slice)) (max n : ℕ) → first (read_refusals x max) ≡ None
    → n ≤ MAX_QUEUE_BYTES - byte_len x.incoming → first (arrive_refusals x n) ≡ None
all_pass x max n passed le =
    passes (max == 0) (is_some x.peer || x.closed) (nat_lt 0 1 && (fitting x.incoming 1 == 0))
    (nat_lt 0 n && (fitting x.incoming n == 0)) passed
    (ap (λ m. nat_lt 0 n && (m == 0)) (fits_all x.incoming n le) ∙ never_waits n)

nothing : (p n : ℕ) → labelled p (take n []) ≡ []
nothing p zero = refl
nothing p (suc n) = refl

none_arrives : (s : State) (c : ℕ) (bytes : List ℕ) → length bytes ≡ 0
    → (outside.arrive s c bytes).after ≡ with_conn s c (conn_at s c)
none_arrives s c [] none =
    let y : Connection = conn_at s c in
    ap (λ (t : Text). with_conn s c (record y { incoming = y.incoming ++ t }))
    (nothing y.pool (min 0 (MAX_QUEUE_BYTES - length y.incoming)))
    ∙ ap (λ (t : Text). with_conn s c (record y { incoming = t })) (append-nil y.incoming)
none_arrives s c (b ∷ bytes) none = absurd (cc none)

module _ (h : KernelState) (c max : ℕ) (there : lookup h.conns c ≢ None) where
  abbrev x : Conn (List Slice)
  x = conn_in h.conns c

  found : lookup h.conns c ≡ Some x
  found = conn_in-found h.conns c there

  is : conn_at (machine_of [] h) c ≡ conn_view (read (bytes_over [] h.store)) x
  is = conn_at-is (byte_at h.store) (machine_of [] h) c x (conn_found (bytes_over [] h.store) h c x found)

  pub incoming_len : length (conn_at (machine_of [] h) c).incoming ≡ byte_len x.incoming
  incoming_len = ap (λ (y : Connection). length y.incoming) is ∙ length-read (byte_at h.store) x.incoming

  outgoing_len : length (conn_at (machine_of [] h) c).outgoing ≡ byte_len x.outgoing
  outgoing_len = ap (λ (y : Connection). length y.outgoing) is ∙ length-read (byte_at h.store) x.outgoing

  outgoing_text : (conn_at (machine_of [] h) c).outgoing ≡ text_of h.store x.outgoing
  outgoing_text = ap (λ (y : Connection). y.outgoing) is

  pub drains_to : (held now : Option (List ℕ)) (k : KernelState) (d : Drained) → d.taken ≤ min max (byte_len x.outgoing)
      → (d.failed ≡ false → d.taken ≡ min max (byte_len x.outgoing))
      → (d.failed ≡ true → d.taken < min max (byte_len x.outgoing))
      → Appends held now (take d.taken (bytes_of (text_of h.store x.outgoing))) → Leaves (sent_on c d.taken) h k
      → DrainsTo c max held now h k d
  drains_to held now k d most all fewer written left = record {
    most = subst (λ n. d.taken ≤ min max n) (sym outgoing_len) most;
    all = subst (λ n. d.failed ≡ false → d.taken ≡ min max n) (sym outgoing_len) all;
    fewer = subst (λ n. d.failed ≡ true → d.taken < min max n) (sym outgoing_len) fewer;
    written = subst (λ (t : Text). Appends held now (take d.taken (bytes_of t))) (sym outgoing_text) written;
    left = left;
  }

  -- the tests of the machine are those of the connection
  asked : (b : Bool) → first ((BadRange when b) ∷ (outside.arrive (machine_of [] h) c (0 ∷ [])).refusals)
      ≡ first ((BadRange when b) ∷ arrive_refusals x 1)
  asked true = refl
  asked false =
      arrives_meant (byte_at h.store) (machine_of [] h) c x (0 ∷ []) (conn_found (bytes_over [] h.store) h c x found)

  meant : first (arrive_from_refusals (machine_of [] h) c max) ≡ first (read_refusals x max)
  meant =
      ap
      (λ b. first ((BadFd when b) ∷ (BadRange when (max == 0))
      ∷ (outside.arrive (machine_of [] h) c (0 ∷ [])).refusals))
      (conn_there (bytes_over [] h.store) h c x (sym found))
      ∙ asked (max == 0)

  pub read_passed : first (read_refusals x max) ≡ None → first (arrive_from_refusals (machine_of [] h) c max) ≡ None
  read_passed passed = meant ∙ passed

  pub read_refused : (r : Refusal) → IsRefused (read_refusals x max) (WantOfRoom x.pool) r
      → IsRefused (arrive_from_refusals (machine_of [] h) c max) (WantOfRoom (conn_at (machine_of [] h) c).pool) r
  read_refused r refused =
      subst (λ p. MatchOption (first (arrive_from_refusals (machine_of [] h) c max)) (WantOfRoom p r) (λ y. r ≡ y))
      (sym (arrive_pool [] h c x found))
      (subst (λ (o : Option Refusal). MatchOption o (WantOfRoom x.pool r) (λ y. r ≡ y)) (sym meant) refused)

  pub read_room : (b : Bool) → has_room h.store x.pool 1 ≡ b → has_room h.store (conn_at (machine_of [] h) c).pool 1 ≡ b
  read_room b has = ap (λ p. has_room h.store p 1) (arrive_pool [] h c x found) ∙ has

-- the result of one read, of n bytes
pub record BroughtIn (h k : KernelState) (c max n : ℕ) (left after : Option (List ℕ)) : Type 0 where
  pub sound : IsSound k
  pub made : Arrives c n h k
  pub slices : ArrivesFew n c h k
  pub takes : TakesIn left after n (λ bytes. Steps (λ s. outside.arrive s c bytes) h (Ok n) k)
  pub none : n ≡ 0 → (stored : List (List ℕ)) → machine_of stored k ≡ machine_of stored h
  pub most : n ≤ min (min max PAGE_BYTES) (MAX_QUEUE_BYTES - length (conn_at (machine_of [] h) c).incoming)

module _ (h k : KernelState) (c max n : ℕ) (left after : Option (List ℕ)) (sound : IsSound h)
    (there : lookup h.conns c ≢ None) (passed : first (read_refusals (conn_in h.conns c) max) ≡ None)
    (most : n ≤ min (min max PAGE_BYTES) (MAX_QUEUE_BYTES - byte_len (conn_in h.conns c).incoming))
    (reads : ReadsIn left after h.store k.store (conn_in h.conns c).incoming (conn_in k.conns c).incoming
    (conn_in h.conns c).pool n)
    (same : k ≡ record h {
      store = k.store;
      conns =
          changed h.conns c (record (conn_in h.conns c) { incoming = (conn_in k.conns c).incoming });
    }) where
  abbrev y : Conn (List Slice)
  y = conn_in h.conns c

  fit : length reads.bytes ≤ MAX_QUEUE_BYTES - byte_len y.incoming
  fit = omega (arith, most, reads.count)

  open' : first (arrive_refusals y (length reads.bytes)) ≡ None
  open' = all_pass y max (length reads.bytes) passed fit

  number : n ≡ fitting y.incoming (length reads.bytes)
  number = sym (fits_all y.incoming (length reads.bytes) fit ∙ reads.count)

  adds : AddsBytes h.store k.store y.incoming (conn_in k.conns c).incoming y.pool (take n reads.bytes)
  adds = subst (λ (bs : List ℕ). AddsBytes h.store k.store y.incoming (conn_in k.conns c).incoming y.pool bs)
      (sym (take_all n reads.bytes (omega (arith, reads.count)))) reads.added

  pub brought_in : BroughtIn h k c max n left after
  brought_in = record {
    sound = all_sound h k c n reads.bytes sound there open' number adds same;
    made = all_made h k c n reads.bytes sound there open' number adds same;
    slices =
        record {
          slices = reads.added.slices;
          few =
              subst (λ m. length reads.added.slices ≤ pages_for m) (reads.count
              ∙ sym (fits_all y.incoming n (omega (arith, most)))) reads.added.few;
          added = reads.added.added;
        };
    takes = record {
      bytes = reads.bytes;
      count = reads.count;
      given = reads.given;
      arrives =
          all_step h k c n reads.bytes sound there open' number adds same;
    };
    none = λ none stored.
        let f = bytes_over stored h.store in
        let w : Connection = conn_view (read f) y in
        (all_step h k c n reads.bytes sound there open' number adds same stored).2
        ∙ none_arrives (machine_of stored h) c reads.bytes (reads.count ∙ none)
        ∙ not_over (machine_of stored h) c h.next_conn w (rising-read_of f h sound)
        (conn_found f h c y (conn_in-found h.conns c there)) (going w (passed_open y (length reads.bytes) open'));
    most = subst (λ l. n ≤ min (min max PAGE_BYTES) (MAX_QUEUE_BYTES - l)) (sym (incoming_len h c max there)) most;
  }

-- Output.

sent_some : (c n : ℕ) (s : State) → (n ≡ 0 → ⊥) → with_conn s c (shorter n (conn_at s c)) ≡ sent_on c n s
sent_some c zero s some = absurd (some refl)
sent_some c (suc n) s some = refl

sent_none : (c n to : ℕ) (s : State) (w : Connection) → n ≡ 0 → Rises 0 s.conns to → lookup s.conns c ≡ Some w
    → conn_at s c ≡ w → record s { conns = changed s.conns c (shorter n (conn_at s c)) } ≡ sent_on c n s
sent_none c zero to s w none rising found is = ap (λ (y : Connection). record s { conns = changed s.conns c y }) is
    ∙ ap (λ (cs : List (ℕ × Connection)). record s { conns = cs }) (changed_same s.conns 0 to c w rising found)
sent_none c (suc n) to s w none rising found is = absurd (cc none)

-- n bytes were taken off the output. If n is not 0, the machine's state is complete once the connection is settled.
pub record Lent (h m : KernelState) (c n : ℕ) : Type 0 where
  pub sound : IsSound m
  pub there : lookup m.conns c ≢ None
  pub nothing : n ≡ 0 → Leaves (sent_on c n) h m
  pub some : (l : KernelState) → (n ≡ 0 → ⊥) → Leaves (λ s. with_conn s c (conn_at s c)) m l → Leaves (sent_on c n) h l

module _ (h m : KernelState) (c n : ℕ) (sound : IsSound h) (there : lookup h.conns c ≢ None)
    (rest : places (conn_in m.conns c).outgoing ≡ drop n (places (conn_in h.conns c).outgoing))
    (same : m ≡ record h {
      store = m.store;
      conns =
          changed h.conns c (record (conn_in h.conns c) { outgoing = (conn_in m.conns c).outgoing });
    })
    (moves : Moves h.store m.store (bufs_of (conn_in h.conns c).outgoing) (bufs_of (conn_in m.conns c).outgoing))
    (lists : SameLists h.store m.store) (frees : FreesOnly h.store m.store) (reclaims : AllReclaimed h.store
    → AllReclaimed m.store) where
  abbrev z : Conn (List Slice)
  z = conn_in h.conns c

  here : lookup h.conns c ≡ Some z
  here = conn_in-found h.conns c there

  lent : Leaves (λ s. record s { conns = changed s.conns c (shorter n (conn_at s c)) }) h m
  lent = subst (λ (k : KernelState). Leaves (λ s. record s { conns = changed s.conns c (shorter n (conn_at s c)) }) h k)
      (sym same)
      (sent_leaves h m.store c n z (conn_in m.conns c).outgoing sound here rest moves lists frees
      (reclaims sound.reclaimed))

  pub lent_out : Lent h m c n
  lent_out = record {
    sound =
        subst IsSound (sym same) (sent-sound h m.store c n z (conn_in m.conns c).outgoing sound here rest moves lists
        frees (reclaims sound.reclaimed));
    there =
        subst (λ (k : KernelState). lookup k.conns c ≢ None) (sym same)
        (there-changed h.conns c z (record z { outgoing = (conn_in m.conns c).outgoing }) here);
    nothing = λ none. leaves_as (λ s. record s { conns = changed s.conns c (shorter n (conn_at s c)) }) (sent_on c n) h
        m
        (λ f. sent_none c n h.next_conn (read_of f h) (conn_view (read f) z) none (rising-read_of f h sound)
        (conn_found f h c z here) (conn_at-is f.at (read_of f h) c z (conn_found f h c z here))) lent;
    some = λ l some reclaimed. leaves_as (λ s. with_conn s c (shorter n (conn_at s c))) (sent_on c n) h l
        (λ f. sent_some c n (read_of f h) some)
        (conn_left h m l c z (shorter n) sound here lent reclaimed);
  }
