-- Bytes that arrive on a connection.
use Rattle.std.proofs.Common.{◌≡◌, ◌≢◌, ℕ, ◌≤◌, ◌==◌, ◌&&◌, ◌||◌, Bool, not, List, [], ◌∷◌, ◌++◌, length, map, take, ap}
use Rattle.std.proofs.Common.{◌∙◌, refl, sym, subst, arith, Option, Some, None, true, false}
use Rattle.std.specs.Prelude.{if◌then◌else◌, is_some, MatchOption, Result, Ok, Err, OnErr}
use Rattle.iol_core.specs.Text.{Text, labelled}
use Rattle.iol_core.specs.NumberedLists.{lookup, without, changed}
use Rattle.iol_core.specs.State as machine
use Rattle.iol_core.specs.State.{State, Connection}
use Rattle.iol_core.specs.Calls.Outside as outside
use Rattle.iol_core.specs.declared.descriptors.How.{How}
use Rattle.iol_core.specs.declared.limits.TheConstants.{MAX_QUEUE_BYTES}
use Rattle.iol_hold.specs.StoreState.{Stored}
use Rattle.iol_hold.specs.Moves.{pool_meant}
use Rattle.iol_hold.specs.Places.{byte_len}
use Rattle.iol_hold.specs.Room.{has_room}
use Rattle.iol_hold.specs.Texts.{text_of, byte_at}
use Rattle.iol_hold.specs.declared.slices.Slice.{Slice}
use Rattle.iol_hold.proofs.AtPlaces.{read-append}
use Rattle.std.proofs.lemmas.List.{length-take}
use Rattle.iol_pipe.specs.NewBytes.{AddsBytes}
use Rattle.iol_sock.specs.Calls.{Arrives as ArrivesOn}
use Rattle.iol_sock.specs.Connections.{Conn, conn_view}
use Rattle.iol_sock.specs.Table.{conn_in}
use Rattle.iol_sock.proofs.MachineConns.{conn_at-is, arrives_meant, takes_meant, wants_meant}
use Rattle.iol_sock.specs.Refusals.{arrive_refusals, arrive_late, IsRefused}
use Rattle.iol_pipe.specs.Queue.{fitting}
use Rattle.iol_core.specs.Meaning.{Meaning, Step, first, ◌when◌}
use Rattle.iol_core.specs.declared.refusals.Refusal.{Refusal}
use Rattle.iol_core.specs.declared.refusals.Refusal.TheVariants.{BrokenPipe}
use Rattle.iol_kernel.specs.KernelState as held
use Rattle.iol_kernel.specs.KernelState.{KernelState, IsSound, read_of, machine_of}
use Rattle.iol_kernel.specs.WritesByCopy.{Fills}
use Rattle.iol_kernel.specs.Readings.{Reading, read, bytes_over}
use Rattle.iol_kernel.specs.Calls.{Steps, MakesBytes, Arrives, with_incoming}
use Rattle.iol_kernel.proofs.Connections.GrownQueue.{grown-sound}
use Rattle.iol_kernel.proofs.State.NewBytes.{added-read, fitted_short}
use Rattle.iol_kernel.proofs.State.AfterRoom.{fills_none, fills_some}
use Rattle.iol_kernel.proofs.State.NumberedEntries.{each_found}
use Rattle.iol_kernel.proofs.Connections.OneConnection.{conn_found, conn_in-found, turned, turned-read}

-- a connection on which more bytes may arrive is not over
pub going : (y : Connection) → (is_some y.peer || y.closed) ≡ false → machine.is_over y ≡ false
going y on' = of y.peer y.closed on' (length y.outgoing == 0) y.accepted
  where
    none : (b : Bool) → (b && false) ≡ false
    none true = refl
    none false = refl

    of : (peer : Option How) (closed : Bool) → (is_some peer || closed) ≡ false → (empty accepted : Bool)
        → (empty && (closed || (not accepted && machine.is_gone peer))) ≡ false
    of None false is empty true = none empty
    of None false is empty false = none empty
    of None true is empty accepted = absurd (cc is)
    of (Some how) closed is empty accepted = absurd (cc is)

-- `with_conn` changes a connection that is not over
pub changed_on : (s : State) (c : ℕ) (z : Connection) → machine.is_over z ≡ false
    → machine.with_conn s c z ≡ record s { conns = changed s.conns c z }
unfolding machine.with_conn
changed_on s c z on' = ap (λ b. record s { conns = if b then without s.conns c else changed s.conns c z }) on'

module _ (h : KernelState) (t : Stored) (c : ℕ) (x : Conn (List Slice)) (q : List Slice) (bytes : List ℕ)
    (sound : IsSound h) (found : lookup h.conns c ≡ Some x) (adds : AddsBytes h.store t x.incoming q x.pool bytes)
    (short : byte_len q ≤ MAX_QUEUE_BYTES) where
  abbrev pub longer : Conn (List Slice)
  longer = record x { incoming = q }

  abbrev pub arrived : KernelState
  arrived = turned h t c x longer sound found

  pub arrived-sound : IsSound arrived
  arrived-sound = grown-sound h t c x.pool x longer x.incoming q bytes sound found adds (λ b. omega arith)
      (λ was more. (more was.0, was.1)) (λ was. record { incoming = short; outgoing = was.outgoing; waits = was.waits })
      refl (λ open'. open')

  -- for each reading, all other bytes keep their places
  arrived-read : (is_some x.peer || x.closed) ≡ false → (f : Reading)
      → read_of f arrived ≡ with_incoming c (read_of f h) (read f adds.slices)
  arrived-read on' f =
      let s : State = read_of f h in
      let is : machine.conn_at s c ≡ conn_view (read f) x = conn_at-is f.at s c x (conn_found f h c x found) in
      let w : Text → Connection = λ u. record (conn_view (read f) x) { incoming = u } in
      turned-read h t c x longer sound found (ap (map pool_meant) adds.pools) f
      ∙ ap (λ (u : Text). record s { conns = changed s.conns c (w u) }) (ap (read f) adds.added
      ∙ read-append f.at x.incoming adds.slices)
      ∙ sym
      (changed_on s c (w (read f x.incoming ++ read f adds.slices))
      (going (w (read f x.incoming ++ read f adds.slices)) on'))
      ∙ ap (λ (y : Connection). machine.with_conn s c (record y { incoming = y.incoming ++ read f adds.slices }))
      (sym is)

  pub arrived_makes : (is_some x.peer || x.closed) ≡ false
      → MakesBytes (with_incoming c) x.pool (length bytes) h arrived
  arrived_makes on' = record {
    slices = adds.slices;
    each = arrived-read on';
    sums = refl;
    cache = refl;
    made_on =
        adds.made_on;
    pages = adds.pages;
  }

  pub arrived-machine : (stored : List (List ℕ)) → (is_some x.peer || x.closed) ≡ false
      → machine_of stored arrived ≡ with_incoming c (machine_of stored h) (labelled x.pool bytes)
  arrived-machine stored on' =
      arrived-read on' (bytes_over stored t)
      ∙ ap (λ (s : State). with_incoming c s (text_of t adds.slices))
      (added-read h t x.incoming q x.pool bytes sound adds stored)
      ∙ ap (with_incoming c (machine_of stored h)) adds.is_text

-- The meaning of the call.

open_for : (b : Bool) (rest : List (Option Refusal)) → first ((BrokenPipe when b) ∷ rest) ≡ None → b ≡ false
open_for false rest passed = refl
open_for true rest passed = absurd (cc passed)

pub passed_open : (x : Conn (List Slice)) (n : ℕ) → first (arrive_refusals x n) ≡ None
    → (is_some x.peer || x.closed) ≡ false
passed_open x n passed = open_for (is_some x.peer || x.closed) _ passed

pub refused_as : {A : Type 0} (m : Meaning A) (s : State) (o : Option Refusal) (Late : Refusal → Type 0) (r : Refusal)
    → first m.refusals ≡ o → (Late r → m.Late r) → MatchOption o (Late r) (λ y. r ≡ y) → Step m s (Err r) s
refused_as m s None Late r is late refused = (rw is (late refused), refl)
refused_as m s (Some y) Late r is late refused = (rw is refused, refl)

pub arrive_refused : (stored : List (List ℕ)) (h : KernelState) (c : ℕ) (x : Conn (List Slice)) (bytes : List ℕ)
    (r : Refusal) → lookup h.conns c ≡ Some x → IsRefused (arrive_refusals x (length bytes)) (arrive_late x bytes) r
    → Step (outside.arrive (machine_of stored h) c bytes) (machine_of stored h) (Err r) (machine_of stored h)
arrive_refused stored h c x bytes r found refused =
    let there = conn_found (bytes_over stored h.store) h c x found in
    refused_as (outside.arrive (machine_of stored h) c bytes) (machine_of stored h)
    (first (arrive_refusals x (length bytes))) (arrive_late x bytes) r
    (arrives_meant (byte_at h.store) (machine_of stored h) c x bytes there)
    (wants_meant (byte_at h.store) (machine_of stored h) c x bytes r there) refused

pub arrive_count : (stored : List (List ℕ)) (h : KernelState) (c : ℕ) (x : Conn (List Slice)) (bytes : List ℕ)
    → lookup h.conns c ≡ Some x
    → (outside.arrive (machine_of stored h) c bytes).answer ≡ fitting x.incoming (length bytes)
arrive_count stored h c x bytes found =
    takes_meant (byte_at h.store) (machine_of stored h) c x bytes (conn_found (bytes_over stored h.store) h c x found)

pub arrive_pool : (stored : List (List ℕ)) (h : KernelState) (c : ℕ) (x : Conn (List Slice)) → lookup h.conns c ≡ Some x
    → (machine.conn_at (machine_of stored h) c).pool ≡ x.pool
arrive_pool stored h c x found =
    ap (λ (y : Connection). y.pool)
    (conn_at-is (byte_at h.store) (machine_of stored h) c x (conn_found (bytes_over stored h.store) h c x found))

pub arrive_done : (stored : List (List ℕ)) (h k : KernelState) (c n : ℕ) (x : Conn (List Slice)) (bytes : List ℕ)
    → lookup h.conns c ≡ Some x → first (arrive_refusals x (length bytes)) ≡ None
    → n ≡ fitting x.incoming (length bytes)
    → machine_of stored k ≡ with_incoming c (machine_of stored h) (labelled x.pool (take n bytes))
    → Step (outside.arrive (machine_of stored h) c bytes) (machine_of stored h) (Ok n) (machine_of stored k)
arrive_done stored h k c n x bytes found passed number is =
    let count : n ≡ (outside.arrive (machine_of stored h) c bytes).answer =
    number ∙ sym (arrive_count stored h c x bytes found) in (
      arrives_meant (byte_at h.store) (machine_of stored h) c x bytes
          (conn_found (bytes_over stored h.store) h c x found) ∙ passed,
      count,
      is
          ∙ ap (λ p. with_incoming c (machine_of stored h) (labelled p (take n bytes)))
          (sym (arrive_pool stored h c x found))
          ∙ ap
          (λ m. with_incoming c (machine_of stored h)
          (labelled (machine.conn_at (machine_of stored h) c).pool (take m bytes))) count,
    )

-- The whole call, and the state after it.

module _ (h k : KernelState) (c n : ℕ) (bytes : List ℕ) (sound : IsSound h) (there : lookup h.conns c ≢ None)
    (passed : first (arrive_refusals (conn_in h.conns c) (length bytes)) ≡ None)
    (number : n ≡ fitting (conn_in h.conns c).incoming (length bytes))
    (adds : AddsBytes h.store k.store (conn_in h.conns c).incoming (conn_in k.conns c).incoming (conn_in h.conns c).pool
    (take n bytes))
    (same : k ≡ record h {
      store = k.store;
      conns =
          changed h.conns c (record (conn_in h.conns c) { incoming = (conn_in k.conns c).incoming });
    }) where
  found : lookup h.conns c ≡ Some (conn_in h.conns c)
  found = conn_in-found h.conns c there

  short : byte_len (conn_in k.conns c).incoming ≤ MAX_QUEUE_BYTES
  short =
      fitted_short h.store k.store (conn_in h.conns c).incoming (conn_in k.conns c).incoming (conn_in h.conns c).pool n
      (length bytes) bytes adds (each_found held.IsConn h.conns c (conn_in h.conns c) sound.limits.objects.conns
      found).incoming number

  on' : (is_some (conn_in h.conns c).peer || (conn_in h.conns c).closed) ≡ false
  on' = passed_open (conn_in h.conns c) (length bytes) passed

  pub all_sound : IsSound k
  all_sound =
      subst IsSound (sym same) (arrived-sound h k.store c (conn_in h.conns c) (conn_in k.conns c).incoming
      (take n bytes) sound found adds short)

  pub all_step : Steps (λ s. outside.arrive s c bytes) h (Ok n) k
  all_step stored = arrive_done stored h k c n (conn_in h.conns c) bytes found passed number
      (ap (machine_of stored) same ∙ arrived-machine h k.store c (conn_in h.conns c) (conn_in k.conns c).incoming
      (take n bytes) sound found adds short stored on')

  pub all_made : Arrives c n h k
  all_made =
      let made = arrived_makes h k.store c (conn_in h.conns c) (conn_in k.conns c).incoming (take n bytes) sound found
      adds short on' in
      let len : length (take n bytes) ≡ n = omega (arith, length-take n bytes, number) in
      let pool' : (conn_in h.conns c).pool ≡ (machine.conn_at (machine_of [] h) c).pool =
      sym (arrive_pool [] h c (conn_in h.conns c) found) in
      subst (λ (l : KernelState). MakesBytes (with_incoming c) (machine.conn_at (machine_of [] h) c).pool n h l)
      (sym same)
      (subst
      (λ p. MakesBytes (with_incoming c) p n h (arrived h k.store c (conn_in h.conns c) (conn_in k.conns c).incoming
      (take n bytes) sound found adds short)) pool'
      (subst
      (λ m. MakesBytes (with_incoming c) (conn_in h.conns c).pool m h
      (arrived h k.store c (conn_in h.conns c) (conn_in k.conns c).incoming (take n bytes) sound found adds short))
      len made))

-- any number of bytes: those that fit arrive, and a refusal changes nothing
pub arrives : (h k : KernelState) (c : ℕ) (bytes : List ℕ) (r : Result ℕ Refusal) → IsSound h → lookup h.conns c ≢ None
    → ArrivesOn h.store k.store (conn_in h.conns c) (conn_in k.conns c) bytes r
    → k ≡ record h {
      store = k.store;
      conns =
          changed h.conns c (record (conn_in h.conns c) { incoming = (conn_in k.conns c).incoming });
    } → OnErr r (k ≡ h)
    → Fills (λ s. outside.arrive s c bytes) (with_incoming c) (machine.conn_at (machine_of [] h) c).pool h r k
arrives h k c bytes (Ok n) sound there a same kept =
    let taken = a.adds.taken in
    let adds = a.adds.added in
    fills_some (λ s. outside.arrive s c bytes) (with_incoming c) (machine.conn_at (machine_of [] h) c).pool n h k
    (all_step h k c n bytes sound there a.passed taken adds same)
    (all_made h k c n bytes sound there a.passed taken adds same)
    (all_sound h k c n bytes sound there a.passed taken adds same) adds.moves.stays
arrives h k c bytes (Err r) sound there a same kept =
    let x : Conn (List Slice) = conn_in h.conns c in
    let found = conn_in-found h.conns c there in
    fills_none (λ s. outside.arrive s c bytes) (with_incoming c) (machine.conn_at (machine_of [] h) c).pool h k r sound
    kept (λ stored. arrive_refused stored h c x bytes r found a.refused)
    (λ p is. ap (λ q. has_room h.store q (outside.arrive (machine_of [] h) c bytes).answer) (arrive_pool [] h c x found)
    ∙ ap (has_room h.store x.pool) (arrive_count [] h c x bytes found) ∙ a.room.no_room p is)
