-- External events on connections: their preconditions and effects.
use Rattle.std.specs.Prelude.{◌≡◌, ℕ, ◌<◌, ◌≤◌, List, [], length, Result, IfOk, IfErr, IsFalse}
use Rattle.iol_core.specs.State as machine
use Rattle.iol_core.specs.Calls.Outside.{arrive, lacks_conn}
use Rattle.iol_core.specs.declared.descriptors.Descriptor.TheVariants as on
use Rattle.iol_core.specs.declared.limits.TheConstants.{LAST_CONNECTION, MAX_CONNECTIONS}
use Rattle.iol_core.specs.declared.refusals.Refusal.{Refusal}
use Rattle.iol_kernel.specs.Calls.{Leaves, MayArrive, Refuses}
use Rattle.iol_kernel.specs.ClosedEnds.{KeepsEnds}
use Rattle.iol_kernel.specs.KernelState.{KernelState, IsSound, machine_of, objects_of}

-- Between two events: the connection exists.
pub record HasConn (h : KernelState) (c : ℕ) : Type 0 where
  pub sound : IsSound h
  pub there : IsFalse (lacks_conn (machine_of [] h) c)

-- Between two events: one more connection may be made, in this pool, which is open.
pub record MayConnect (pool : ℕ) (h : KernelState) : Type 0 where
  pub sound : IsSound h
  pub few : length (machine_of [] h).conns < MAX_CONNECTIONS
  pub some : (machine_of [] h).next_conn ≤ LAST_CONNECTION
  pub opened : IsFalse (machine.pool (machine_of [] h) pool).closed

-- The result of testing whether bytes may arrive: the pool to place them in and how many fit, or the refusal.
pub record TestsArrival (c : ℕ) (bytes : List ℕ) (h : KernelState) (r : Result (ℕ × ℕ) Refusal) : Type 0 where
  pub may : IfOk r (λ x. MayArrive c bytes x.0 x.1 h)
  pub refused : IfErr r (λ x. Refuses (λ s. arrive s c bytes) x h)

-- A connection that is over was removed, and its buffers were released. No domain changed, and all other ends stay
-- open.
pub record Reclaims (c : ℕ) (old new : KernelState) : Type 0 where
  pub left : Leaves (λ s. machine.with_conn s c (machine.conn_at s c)) old new
  pub domains : new.domains ≡ old.domains
  pub others : KeepsEnds (on.Connection c) (objects_of old) (objects_of new)
