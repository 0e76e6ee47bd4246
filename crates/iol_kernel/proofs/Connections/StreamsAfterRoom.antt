-- Bytes that come from a reader, after evictions of clean extents.
use Rattle.std.proofs.Common.{◌≡◌, ℕ, ◌-◌, ◌==◌, ◌∙◌, Bool, Option, List, [], ◌∷◌, length, Some, None, refl, sym, ap}
use Rattle.std.proofs.Common.{subst, inr, true, false}
use Rattle.std.specs.Prelude.{Result, Ok, Err, OnOk, OnErr, IfOk, IfErr, MatchOption, min}
use Rattle.iol_arena.specs.State.{pages_for}
use Rattle.iol_back.specs.Disk.{Disk}
use Rattle.iol_core.specs.State as machine
use Rattle.iol_core.specs.State.{State, conn_at}
use Rattle.iol_core.specs.NumberedLists.{lookup}
use Rattle.iol_core.specs.Meaning.{◌when◌, WantOfRoom, first}
use Rattle.iol_core.specs.Calls.Outside as outside
use Rattle.iol_core.specs.declared.limits.TheConstants.{MAX_QUEUE_BYTES, PAGE_BYTES}
use Rattle.iol_core.specs.declared.refusals.Refusal.{Refusal}
use Rattle.iol_core.specs.declared.refusals.Refusal.TheVariants.{BadFd, BadRange, NoRoom}
use Rattle.iol_hold.specs.Moves.{Stays}
use Rattle.iol_hold.specs.Room.{has_room}
use Rattle.iol_hold.specs.Texts.{byte_at}
use Rattle.iol_hold.specs.declared.slices.Slice.{Slice}
use Rattle.iol_hold.proofs.Moves.{stays_trans}
use Rattle.iol_pipe.specs.declared.arrive.Arrived.{Arrived}
use Rattle.iol_sock.specs.Connections.{Conn}
use Rattle.iol_sock.specs.Refusals.{arrive_refusals, read_refusals, IsRefused}
use Rattle.iol_sock.proofs.MachineConns.{arrives_meant}
use Rattle.iol_kernel.specs.FileCalls.{Serves, with_slots}
use Rattle.iol_pipe.specs.Arrivals.{IsOneRead}
use Rattle.iol_kernel.specs.Streams.{BringsIn, RefusesByte, RefusesArrival, TakesIn, TakesRead, arrive_from_refusals}
use Rattle.iol_kernel.specs.Calls.{Arrives, Steps}
use Rattle.iol_kernel.specs.KernelState.{KernelState, IsSound, machine_of}
use Rattle.iol_kernel.specs.Room.{AfterRoom, IsSame, MakesRoom, MayHaveEvicted, RefusedRoomy, can_fit}
use Rattle.iol_kernel.specs.Readings.{bytes_over}
use Rattle.iol_kernel.proofs.Queues.QueueSlices.{few_arrived}
use Rattle.iol_kernel.proofs.State.AfterRoom.{kept_machine, memory_left, serves_after}
use Rattle.iol_kernel.proofs.Connections.ArrivalAfterRoom.{lacks_same, pool_same}
use Rattle.iol_kernel.proofs.Connections.OneConnection.{conn_found, conn_missing, conn_there}
use Rattle.iol_kernel.proofs.State.CacheUntouched.{backed_stays}

-- A fact, stated of a result.

pub on_ok : {A : Type 0} {P : Type 0} (r : Result A Refusal) → P → OnOk r P
on_ok (Ok a) p = p
on_ok (Err x) p = tt

-- Whether bytes may be read, in the machine's words.

missing_first : (b : Bool) (rest : List (Option Refusal)) → b ≡ true → first ((BadFd when b) ∷ rest) ≡ Some BadFd
missing_first true rest is = refl
missing_first false rest is = absurd (cc is)

pub read_missing : (h : KernelState) (c max : ℕ) → None ≡ lookup h.conns c
    → first (arrive_from_refusals (machine_of [] h) c max) ≡ Some BadFd
read_missing h c max none =
    missing_first (outside.lacks_conn (machine_of [] h) c) _ (conn_missing (bytes_over [] h.store) h c none)

module _ (h : KernelState) (c max : ℕ) (x : Conn (List Slice)) (found : lookup h.conns c ≡ Some x) where
  asked : (b : Bool) → first ((BadRange when b) ∷ (outside.arrive (machine_of [] h) c (0 ∷ [])).refusals)
      ≡ first ((BadRange when b) ∷ arrive_refusals x 1)
  asked true = refl
  asked false =
      arrives_meant (byte_at h.store) (machine_of [] h) c x (0 ∷ []) (conn_found (bytes_over [] h.store) h c x found)

  as_meant : first (arrive_from_refusals (machine_of [] h) c max) ≡ first (read_refusals x max)
  as_meant =
      ap
      (λ b. first ((BadFd when b) ∷ (BadRange when (max == 0))
      ∷ (outside.arrive (machine_of [] h) c (0 ∷ [])).refusals))
      (conn_there (bytes_over [] h.store) h c x (sym found))
      ∙ asked (max == 0)

  pub read_none_asked : max ≡ 0 → first (arrive_from_refusals (machine_of [] h) c max) ≡ Some BadRange
  read_none_asked none = as_meant ∙ ap (λ n. first (read_refusals x n)) none

  pub read_some_asked : (o : Option Refusal) → (max == 0) ≡ false → first (arrive_refusals x 1) ≡ o
      → first (arrive_from_refusals (machine_of [] h) c max) ≡ o
  read_some_asked o some is = as_meant ∙ ap (λ b. first ((BadRange when b) ∷ arrive_refusals x 1)) some ∙ is

slots_beside : (k l : KernelState) → machine_of [] l ≡ machine_of [] k → (slots : List (List ℕ))
    → with_slots slots l ≡ with_slots slots k
unfolding with_slots
slots_beside k l same slots = ap (λ (s : State). record s { slots = slots }) same

-- The read itself, after room was made.

module _ (c max pool : ℕ) (h k : KernelState) (room : MakesRoom pool (pages_for 1) h k)
    (in_pool : (conn_at (machine_of [] h) c).pool ≡ pool) where
  pool_kept : (conn_at (machine_of [] k) c).pool ≡ (conn_at (machine_of [] h) c).pool
  pool_kept = kept_machine (λ s. (conn_at s c).pool) pool (pages_for 1) h k room (pool_same c)

  tests_same : (s : State) (x : List (List ℕ)) → first (arrive_from_refusals (record s { slots = x }) c max)
      ≡ first (arrive_from_refusals s c max)
  unfolding machine.conn_at
  tests_same s x = refl

  tests_kept : first (arrive_from_refusals (machine_of [] k) c max)
      ≡ first (arrive_from_refusals (machine_of [] h) c max)
  tests_kept = kept_machine (λ s. first (arrive_from_refusals s c max)) pool (pages_for 1) h k room tests_same

  conn_same : (s : State) (x : List (List ℕ)) → conn_at (record s { slots = x }) c ≡ conn_at s c
  unfolding machine.conn_at
  conn_same s x = refl

  unread_same : (s : State) (x : List (List ℕ))
      → length (conn_at (record s { slots = x }) c).incoming ≡ length (conn_at s c).incoming
  unread_same s x = ap (λ (y : machine.Connection). length y.incoming) (conn_same s x)

  unread_kept : length (conn_at (machine_of [] k) c).incoming ≡ length (conn_at (machine_of [] h) c).incoming
  unread_kept = kept_machine (λ s. length (conn_at s c).incoming) pool (pages_for 1) h k room unread_same

  pub still_there : outside.lacks_conn (machine_of [] h) c ≡ false → outside.lacks_conn (machine_of [] k) c ≡ false
  still_there there = kept_machine (λ s. outside.lacks_conn s c) pool (pages_for 1) h k room (lacks_same c) ∙ there

  pub takes_serves : (left after : Option (List ℕ)) (r : Result Arrived Refusal) (l : KernelState)
      → TakesRead c max left after k r l
      → IfOk r
      (λ a. TakesIn left after a.taken (λ bytes. (disk : Disk)
      → Serves (λ s. outside.arrive s c bytes) disk h (Ok a.taken) disk l))
  takes_serves left after (Ok a) l takes =
      let read : TakesIn left after a.taken (λ bytes. Steps (λ s. outside.arrive s c bytes) k (Ok a.taken) l) =
      takes.read in
      let made : Arrives c a.taken k l = takes.made in
      record {
        bytes = read.bytes;
        count = read.count;
        given = read.given;
        arrives = serves_after (λ s. outside.arrive s c read.bytes) pool (pages_for 1) h k l (Ok a.taken) room
            read.arrives takes.sound takes.cache made.sums takes.stays;
      }
  takes_serves left after (Err x) l takes = tt

  pub takes_made : (n : ℕ) (l : KernelState) → Arrives c n k l
      → AfterRoom (conn_at (machine_of [] h) c).pool 1 h (λ roomy. Arrives c n roomy l)
  takes_made n l made =
      subst (λ p. AfterRoom p 1 h (λ roomy. Arrives c n roomy l)) (sym in_pool)
      (record { roomy = k; room = room; then = made })

  pub takes_none : (l : KernelState) → IsSound l → l.cache ≡ k.cache → Stays k.store l.store
      → ((stored : List (List ℕ)) → machine_of stored l ≡ machine_of stored k) → IsSame h l
  takes_none l sound cache stays same = record {
    files = λ disk backed. same disk.slots ∙ room.same.files disk backed;
    backed = λ disk backed. backed_stays disk k l room.sound sound cache stays (room.same.backed disk backed);
    beside = λ slots. slots_beside k l (same []) slots ∙ room.same.beside slots;
  }

  pub takes_brought : (left after : Option (List ℕ)) (r : Result Arrived Refusal) (l : KernelState)
      → TakesRead c max left after k r l → IfOk r (BringsIn c max after h l)
  takes_brought left after (Ok a) l takes =
      let none : a.taken ≡ 0 → (stored : List (List ℕ)) → machine_of stored l ≡ machine_of stored k = takes.none in
      record {
        reported = subst (λ n. IsOneRead (min (min max PAGE_BYTES) (MAX_QUEUE_BYTES - n)) after a) unread_kept
            takes.reported;
        made = takes_made a.taken l takes.made;
        slices = few_arrived pool (pages_for 1) h k room l c a.taken (Ok a) takes.slices;
        none = λ nothing. takes_none l takes.sound takes.cache takes.stays (none nothing);
      }
  takes_brought left after (Err x) l takes = tt

  pub takes_stays : (l : KernelState) → Stays k.store l.store → Stays h.store l.store
  takes_stays l stays = stays_trans room.gives_up.moves.stays stays

  pub fits_in : (b : Bool) → can_fit h pool 1 ≡ b → can_fit h (conn_at (machine_of [] h) c).pool 1 ≡ b
  fits_in b is = ap (λ p. can_fit h p 1) in_pool ∙ is

  takes_room : {A : Type 0} (r : Result A Refusal) → has_room k.store pool 1 ≡ true
      → ((p : ℕ) → r ≡ Err (NoRoom p) → has_room k.store (conn_at (machine_of [] k) c).pool 1 ≡ false) → (p : ℕ)
      → r ≡ Err (NoRoom p) → can_fit h (conn_at (machine_of [] h) c).pool 1 ≡ false
  takes_room r roomy lacks p is =
      absurd (cc (sym roomy ∙ ap (λ q. has_room k.store q 1) (sym (pool_kept ∙ in_pool)) ∙ lacks p is))

  module _ (passed : first (arrive_from_refusals (machine_of [] h) c max) ≡ None) where
    late_here : (x : Refusal) → WantOfRoom (conn_at (machine_of [] h) c).pool x
        → IsRefused (arrive_from_refusals (machine_of [] h) c max) (WantOfRoom (conn_at (machine_of [] h) c).pool) x
    late_here x late =
        subst (λ (o : Option Refusal). MatchOption o (WantOfRoom (conn_at (machine_of [] h) c).pool x) (λ y. x ≡ y))
        (sym passed) late

    late_from : (x : Refusal)
        → IsRefused (arrive_from_refusals (machine_of [] k) c max) (WantOfRoom (conn_at (machine_of [] k) c).pool) x
        → WantOfRoom (conn_at (machine_of [] h) c).pool x
    late_from x is =
        subst (λ p. WantOfRoom p x) pool_kept
        (subst (λ (o : Option Refusal). MatchOption o (WantOfRoom (conn_at (machine_of [] k) c).pool x) (λ y. x ≡ y))
        (tests_kept ∙ passed) is)

    takes_refused : {A : Type 0} (r : Result A Refusal)
        → IfErr r
        (IsRefused (arrive_from_refusals (machine_of [] k) c max) (WantOfRoom (conn_at (machine_of [] k) c).pool))
        → IfErr r
        (IsRefused (arrive_from_refusals (machine_of [] h) c max) (WantOfRoom (conn_at (machine_of [] h) c).pool))
    takes_refused (Ok a) is = tt
    takes_refused (Err x) is = late_here x (late_from x is)

    takes_evicted : {A : Type 0} (r : Result A Refusal) (l : KernelState) → has_room k.store pool 1 ≡ true
        → can_fit h pool 1 ≡ true
        → ((p : ℕ) → r ≡ Err (NoRoom p) → has_room k.store (conn_at (machine_of [] k) c).pool 1 ≡ false)
        → IfErr r
        (IsRefused (arrive_from_refusals (machine_of [] k) c max) (WantOfRoom (conn_at (machine_of [] k) c).pool))
        → OnErr r (l ≡ k) → IfErr r (MayHaveEvicted (conn_at (machine_of [] h) c).pool 1 h l)
    takes_evicted (Ok a) l roomy fits lacks is same = tt
    takes_evicted {A} (Err x) l roomy fits lacks is same =
        let none : (p : ℕ) → x ≡ NoRoom p → ⊥ =
        λ p e. absurd (cc (sym roomy ∙ ap (λ q. has_room k.store q 1) (sym (pool_kept ∙ in_pool))
        ∙ lacks p (ap (λ y. Err y) e))) in
        let went : RefusedRoomy (conn_at (machine_of [] h) c).pool 1 h k x = record {
          memory = memory_left (conn_at (machine_of [] h) c).pool x (late_from x is) none;
          fits = fits_in true fits;
          room = subst (λ p. MakesRoom p (pages_for 1) h k) (sym in_pool) room;
        } in
        subst (λ (y : KernelState). MayHaveEvicted (conn_at (machine_of [] h) c).pool 1 h y x) (sym same) (inr went)

    pub takes_refuses : {A R : Type 0} (reader after : R) (r : Result A Refusal) (l : KernelState)
        → has_room k.store pool 1 ≡ true → can_fit h pool 1 ≡ true
        → RefusesByte (machine_of [] k) c max (has_room k.store (conn_at (machine_of [] k) c).pool 1) r
        → OnErr r (l ≡ k) → OnErr r (after ≡ reader) → RefusesArrival c max h l reader after r
    takes_refuses reader after r l roomy fits byte same unread = record {
      byte = record {
        passed = on_ok r passed;
        refused = takes_refused r byte.refused;
        room =
            on_ok r (fits_in true fits);
        no_room = takes_room r roomy byte.no_room;
      };
      memory = λ is. fits_in true fits;
      err = takes_evicted r l roomy fits byte.no_room byte.refused same;
      err_reader = unread;
    }
