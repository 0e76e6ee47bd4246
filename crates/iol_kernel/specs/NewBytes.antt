-- New bytes are placed in a pool: as a domain's aggregate, or on a connection.
use Rattle.std.specs.Prelude.{◌≡◌, ◌≤◌, ℕ, List, [], length, Result, IfOk, IfErr, OnOk}
use Rattle.iol_core.specs.State.{State, conn_at}
use Rattle.iol_core.specs.Calls.Aggregates.{agg_make, with_agg}
use Rattle.iol_core.specs.Calls.Outside.{arrive}
use Rattle.iol_core.specs.Prelude.{default_pool}
use Rattle.iol_core.specs.declared.refusals.Refusal.{Refusal}
use Rattle.iol_arena.specs.State.{pages_for}
use Rattle.iol_desc.specs.Tables.{with_agg_in}
use Rattle.iol_hold.specs.declared.slices.Slice.{Slice}
use Rattle.iol_kernel.specs.Calls.{MakesNext, MayMake, Refuses, with_incoming}
use Rattle.iol_kernel.specs.KernelState.{KernelState, machine_of}
use Rattle.iol_kernel.specs.QueueSlices.{ArrivesFew}
use Rattle.iol_kernel.specs.Room.{Places}
use Rattle.iol_kernel.specs.WritesByCopy.{Fills}

-- The result of testing whether bytes may become a domain's next aggregate: the pool to place them in, or the refusal.
pub record TestsMake (by : ℕ) (bytes : List ℕ) (h : KernelState) (r : Result ℕ Refusal) : Type 0 where
  pub may : IfOk r (λ p. MayMake by bytes p h)
  pub refused : IfErr r (λ x. Refuses (λ s. agg_make s by bytes) x h)

-- Bytes are placed in a domain's default pool, and are its next aggregate.
abbrev pub PlacesAgg : (by : ℕ) (bytes : List ℕ) (old : KernelState) → Result ℕ Refusal → (new : KernelState) → Type 0
PlacesAgg by bytes old r new =
    Places (λ s. agg_make s by bytes) (λ s t. with_agg s by t) (default_pool (machine_of [] old) by) (length bytes) old
    r new

-- A domain got its next aggregate, which has at most one slice for each page that its n bytes need.
pub record AddsFew (d n : ℕ) (old new : KernelState) : Type 0 where
  pub slices : List Slice
  pub few : length slices ≤ pages_for n
  pub added : new.domains ≡ with_agg_in old.domains d slices

-- New bytes of a pool that has room become a domain's next aggregate: the result, and the number of slices.
pub record FillsNext (by pool : ℕ) (bytes : List ℕ) (old : KernelState) (r : Result ℕ Refusal) (new : KernelState) :
    Type 0 where
  pub next : MakesNext by pool bytes old r new
  pub slices : OnOk r (AddsFew by (length bytes) old new)

-- Bytes are placed in a domain's default pool, and are its next aggregate: the result, and the number of slices.
pub record MakesAggregate (by : ℕ) (bytes : List ℕ) (old : KernelState) (r : Result ℕ Refusal) (new : KernelState) :
    Type 0 where
  pub places : PlacesAgg by bytes old r new
  pub slices : OnOk r (AddsFew by (length bytes) old new)

-- As many of these bytes as fit arrive on a connection, and are placed in its pool.
abbrev pub PlacesIncoming : (c : ℕ) (bytes : List ℕ) (old : KernelState) → Result ℕ Refusal → (new : KernelState)
    → Type 0
PlacesIncoming c bytes old r new =
    let s : State = machine_of [] old in
    Places (λ s. arrive s c bytes) (with_incoming c) (conn_at s c).pool (arrive s c bytes).answer old r new

-- As many of these bytes as fit arrive on a connection, and are placed in its pool. No clean extent is evicted for
-- them.
abbrev pub FillsIncoming : (c : ℕ) (bytes : List ℕ) (old : KernelState) → Result ℕ Refusal → (new : KernelState)
    → Type 0
FillsIncoming c bytes old r new =
    Fills (λ s. arrive s c bytes) (with_incoming c) (conn_at (machine_of [] old) c).pool old r new

-- As many of these bytes as fit arrive on a connection: the result, and the number of slices.
pub record TakesIncoming (c : ℕ) (bytes : List ℕ) (old : KernelState) (r : Result ℕ Refusal)
    (new : KernelState) : Type 0 where
  pub places : PlacesIncoming c bytes old r new
  pub slices : OnOk r (ArrivesFew (length bytes) c old new)

-- As many of these bytes as fit arrive on a connection whose pool has room: the result, and the number of slices.
pub record FillsConn (c : ℕ) (bytes : List ℕ) (old : KernelState) (r : Result ℕ Refusal) (new : KernelState) :
    Type 0 where
  pub fills : FillsIncoming c bytes old r new
  pub slices : OnOk r (ArrivesFew (length bytes) c old new)
