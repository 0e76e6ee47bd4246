-- Bytes arrive on a connection, after evictions of clean extents.
use Rattle.std.proofs.Common.{◌≡◌, ℕ, ◌∙◌, arith, Bool, Option, List, [], ◌∷◌, length, Some, None, refl, sym, ap, true}
use Rattle.std.proofs.Common.{false}
use Rattle.std.specs.Prelude.{◌-◌, ◌==◌, ◌&&◌, ◌||◌, Result, Err, is_some, min, nat_lt}
use Rattle.iol_arena.specs.State.{pages_for}
use Rattle.iol_core.specs.State as machine
use Rattle.iol_core.specs.State.{State, Connection, conn_at}
use Rattle.iol_core.specs.NumberedLists.{lookup}
use Rattle.iol_core.specs.Meaning.{◌when◌, WantOfRoom, first}
use Rattle.iol_core.specs.Calls.Outside as outside
use Rattle.iol_core.specs.declared.limits.TheConstants.{MAX_QUEUE_BYTES}
use Rattle.iol_core.specs.declared.refusals.Refusal.{Refusal}
use Rattle.iol_core.specs.declared.refusals.Refusal.TheVariants.{BadFd, BrokenPipe, WouldBlock, NoRoom, Memory}
use Rattle.iol_hold.specs.Room.{has_room}
use Rattle.iol_hold.specs.declared.slices.Slice.{Slice}
use Rattle.iol_pipe.specs.Queue.{fitting}
use Rattle.iol_sock.specs.Connections.{Conn}
use Rattle.iol_sock.specs.Refusals.{arrive_refusals}
use Rattle.iol_sock.proofs.MachineConns.{arrives_meant, conn_at-is, takes_meant}
use Rattle.iol_kernel.specs.Calls.{MayArrive, with_incoming}
use Rattle.iol_kernel.specs.KernelState.{KernelState, machine_of, read_of}
use Rattle.iol_kernel.specs.Room.{MakesRoom, Places, can_fit}
use Rattle.iol_kernel.specs.Outside.{HasConn}
use Rattle.iol_kernel.specs.WritesByCopy.{Fills}
use Rattle.iol_kernel.specs.Readings.{Reading, bytes_over}
use Rattle.iol_kernel.proofs.Connections.OneConnection.{conn_found, conn_missing}
use Rattle.iol_kernel.proofs.State.AfterRoom.{kept_machine, none_fit, queue_none, queue_places}

-- The tests of an arrival do not depend on the bytes of files.

pub lacks_same : (c : ℕ) (s : State) (x : List (List ℕ))
    → outside.lacks_conn (record s { slots = x }) c ≡ outside.lacks_conn s c
lacks_same c s x = refl

pub pool_same : (c : ℕ) (s : State) (x : List (List ℕ)) → (conn_at (record s { slots = x }) c).pool ≡ (conn_at s c).pool
unfolding machine.conn_at
pool_same c s x = refl

pub first_same : (c : ℕ) (bytes : List ℕ) (s : State) (x : List (List ℕ))
    → first (outside.arrive (record s { slots = x }) c bytes).refusals ≡ first (outside.arrive s c bytes).refusals
unfolding machine.conn_at
first_same c bytes s x = refl

pub answer_same : (c : ℕ) (bytes : List ℕ) (s : State) (x : List (List ℕ))
    → (outside.arrive (record s { slots = x }) c bytes).answer ≡ (outside.arrive s c bytes).answer
unfolding machine.conn_at
answer_same c bytes s x = refl

late_is : (c : ℕ) (bytes : List ℕ) (s : State) (x : Refusal) → outside.arrive_late s c bytes x
    → WantOfRoom (conn_at s c).pool x
late_is c [] s x is = absurd is
late_is c (b ∷ bytes) s x is = is

-- None of its tests gives Memory, and neither does a test of a connection.

two_tests : (a b : Bool) → first ((BrokenPipe when a) ∷ (WouldBlock when b) ∷ []) ≡ Some Memory → ⊥
two_tests true b is = absurd (cc is)
two_tests false true is = absurd (cc is)
two_tests false false is = absurd (cc is)

three_tests : (a b c : Bool) → first ((BadFd when a) ∷ (BrokenPipe when b) ∷ (WouldBlock when c) ∷ []) ≡ Some Memory → ⊥
three_tests true b c is = absurd (cc is)
three_tests false b c is = two_tests b c is

pub arrive_tests : (c : ℕ) (bytes : List ℕ) (s : State) → first (outside.arrive s c bytes).refusals ≡ Some Memory → ⊥
arrive_tests c bytes s =
    let n : ℕ = min (length bytes) (MAX_QUEUE_BYTES - length (conn_at s c).incoming) in
    three_tests (outside.lacks_conn s c) (is_some (conn_at s c).peer || (conn_at s c).closed)
    (nat_lt 0 (length bytes) && (n == 0))

pub held_tests : (x : Conn (List Slice)) (n : ℕ) → first (arrive_refusals x n) ≡ Some Memory → ⊥
held_tests x n = two_tests (is_some x.peer || x.closed) (nat_lt 0 n && (fitting x.incoming n == 0))

late_some : (c : ℕ) (bytes : List ℕ) (s : State) (pool : ℕ) → (length bytes ≡ 0 → ⊥) → (conn_at s c).pool ≡ pool
    → outside.arrive_late s c bytes (NoRoom pool)
late_some c [] s pool some is = absurd (some refl)
late_some c (b ∷ bytes) s pool some is = sym is

there_if_passed : (c : ℕ) (bytes : List ℕ) (h : KernelState)
    → ((f : Reading) → first (outside.arrive (read_of f h) c bytes).refusals ≡ None)
    → outside.lacks_conn (machine_of [] h) c ≡ false
there_if_passed c bytes h passed = of (outside.lacks_conn (machine_of [] h) c) _ (passed (bytes_over [] h.store))
  where
    of : (b : Bool) (rest : List (Option Refusal)) → first ((BadFd when b) ∷ rest) ≡ None → b ≡ false
    of false rest is = refl
    of true rest is = absurd (cc is)

module _ (c : ℕ) (bytes : List ℕ) (pool count : ℕ) (h k : KernelState) (room : MakesRoom pool (pages_for count) h k)
    (may : MayArrive c bytes pool count h) where
  pub conn_now : HasConn k c
  conn_now =
      record {
        sound = room.sound;
        there =
            kept_machine (λ s. outside.lacks_conn s c) pool (pages_for count) h k room (lacks_same c)
            ∙ there_if_passed c bytes h may.passed;
      }

  pub arrive_places : (l : KernelState) (r : Result ℕ Refusal) → has_room k.store pool count ≡ true
      → can_fit h pool count ≡ true
      → Fills (λ s. outside.arrive s c bytes) (with_incoming c) (conn_at (machine_of [] k) c).pool k r l
      → Places (λ s. outside.arrive s c bytes) (with_incoming c) (conn_at (machine_of [] h) c).pool
      (outside.arrive (machine_of [] h) c bytes).answer h r l
  arrive_places = queue_places (λ s. outside.arrive s c bytes) (with_incoming c) (λ s. (conn_at s c).pool) pool count h
      k room (first_same c bytes) (answer_same c bytes) (pool_same c) (late_is c bytes) may.passed may.lands may.fits

  pub arrive_none : k ≡ h → can_fit h pool count ≡ false
      → Places (λ s. outside.arrive s c bytes) (with_incoming c) (conn_at (machine_of [] h) c).pool
      (outside.arrive (machine_of [] h) c bytes).answer h (Err (NoRoom pool)) k
  arrive_none same lacks =
      let some : length bytes ≡ 0 → ⊥ =
      λ none. none_fit h pool count lacks (omega (arith, none, may.fits (bytes_over [] h.store))) in
      queue_none (λ s. outside.arrive s c bytes) (with_incoming c) (λ s. (conn_at s c).pool) pool count h k room
      (first_same c bytes) (answer_same c bytes) (pool_same c) (late_is c bytes) may.passed may.lands may.fits same
      (λ f. late_some c bytes (read_of f h) pool some (may.lands f)) lacks

-- Whether bytes may arrive, how many, and where.

pub arrive_missing : (h : KernelState) (c : ℕ) (bytes : List ℕ) → None ≡ lookup h.conns c → (f : Reading)
    → first (outside.arrive (read_of f h) c bytes).refusals ≡ Some BadFd
arrive_missing h c bytes none f = of (outside.lacks_conn (read_of f h) c) _ (conn_missing f h c none)
  where
    of : (b : Bool) (rest : List (Option Refusal)) → b ≡ true → first ((BadFd when b) ∷ rest) ≡ Some BadFd
    of true rest is = refl
    of false rest is = absurd (cc is)

module _ (h : KernelState) (c : ℕ) (x : Conn (List Slice)) (bytes : List ℕ) (found : lookup h.conns c ≡ Some x) where
  pub arrive_first : (o : Option Refusal) → first (arrive_refusals x (length bytes)) ≡ o → (f : Reading)
      → first (outside.arrive (read_of f h) c bytes).refusals ≡ o
  arrive_first o is f = arrives_meant f.at (read_of f h) c x bytes (conn_found f h c x found) ∙ is

  pub arrive_fits : (n : ℕ) → fitting x.incoming (length bytes) ≡ n → (f : Reading)
      → (outside.arrive (read_of f h) c bytes).answer ≡ n
  arrive_fits n is f = takes_meant f.at (read_of f h) c x bytes (conn_found f h c x found) ∙ is

  pub arrive_in : (p : ℕ) → p ≡ x.pool → (f : Reading) → (conn_at (read_of f h) c).pool ≡ p
  arrive_in p is f = ap (λ (y : Connection). y.pool) (conn_at-is f.at (read_of f h) c x (conn_found f h c x found))
      ∙ sym is
