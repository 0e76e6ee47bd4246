-- The new bytes that an event places, and their pool.
use Rattle.std.specs.Prelude.{ℕ, List, length, IsTrue, IsFalse}
use Rattle.iol_core.specs.State.{conn_at, descriptor}
use Rattle.iol_core.specs.Calls.Outside.{arrive}
use Rattle.iol_core.specs.Calls.Writes.{pool_for, write}
use Rattle.iol_core.specs.Prelude.{default_pool}
use Rattle.iol_kernel.specs.KernelState.{KernelState}
use Rattle.iol_kernel.specs.Room.{can_fit}
use Rattle.iol_system.specs.Machine.{tables_of}

-- a number of new bytes, in a pool
pub record Wants : Type 0 where
  pub pool : ℕ
  pub count : ℕ

-- `agg_make`: all of them, in the caller's default pool
abbrev pub for_made : KernelState → (by : ℕ) → List ℕ → Wants
for_made h by bytes = record { pool = default_pool (tables_of h) by; count = length bytes }

-- `write`: the bytes taken, in the file's pool, or for anything else in the caller's default pool
abbrev pub for_written : KernelState → (by fd : ℕ) → List ℕ → Wants
for_written h by fd bytes = record {
  pool = pool_for (tables_of h) by (descriptor (tables_of h) by fd);
  count = (write (tables_of h) by fd bytes).answer;
}

-- arriving bytes: the bytes taken, in the connection's pool
abbrev pub for_arrived : KernelState → (c : ℕ) → List ℕ → Wants
for_arrived h c bytes = record { pool = (conn_at (tables_of h) c).pool; count = (arrive (tables_of h) c bytes).answer }

-- the bytes fit their pool, together with the pages that something other than clean extents holds
abbrev pub Fits : KernelState → Wants → Type 0
Fits h w = IsTrue (can_fit h w.pool w.count)

-- the bytes do not fit their pool
abbrev pub FitsNot : KernelState → Wants → Type 0
FitsNot h w = IsFalse (can_fit h w.pool w.count)
