-- The pool for which a domain is denied access.
use Rattle.std.specs.Prelude.{◌≡◌, ℕ, not, List, Option, option_map, find}
use Rattle.iol_core.specs.State.{State, may_read}
use Rattle.iol_core.specs.Calls.Descriptors.{denied_by}
use Rattle.iol_core.specs.Prelude.{barred}
use Rattle.iol_core.specs.declared.refusals.Refusal.TheVariants.{Denied}
use Rattle.iol_pool.specs.Pools.{Pool, names_in}
use Rattle.iol_hold.specs.declared.slices.Slice.{Slice}
use Rattle.iol_kernel.specs.KernelState.{KernelState, read_of}
use Rattle.iol_kernel.specs.Readings.{Reading, read, KeepsPools}

-- the pool of the first of these slices whose pool does not name the domain
abbrev pub pool_hidden : List Pool → (d : ℕ) → List Slice → Option ℕ
pool_hidden pools d xs = option_map (λ x. x.hold.pool) (find (λ x. not (names_in pools x.hold.pool d)) xs)

-- This is the pool of the first byte of these slices that the domain may not read, or None if it may read all of them.
abbrev pub ReportsBarred : KernelState → (d : ℕ) → List Slice → Option ℕ → Type 0
ReportsBarred h d xs r = (f : Reading) → KeepsPools f → r ≡ barred (may_read (read_of f h) d) (read f xs)

-- This is the pool that the domain needs to read and may not read; or None if it may read it, or needs no pool.
abbrev pub ReportsDenied : KernelState → (d : ℕ) → (needed : State → Option ℕ) → Option ℕ → Type 0
ReportsDenied h d needed r = (f : Reading)
    → option_map (λ p. Denied p) r ≡ denied_by (read_of f h) d (needed (read_of f h))
