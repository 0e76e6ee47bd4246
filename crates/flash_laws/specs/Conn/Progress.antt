-- Each reply brings a request nearer to its end, unless its call is to be retried later.
--
-- The rank, a pair of numbers, is the distance from the end: each such reply reduces the first, or the second and
-- leaves the first. So the number of such replies is finite.
use Rattle.std.specs.Prelude.{◌≡◌, ◌≤◌, ◌<◌, ◌⊎◌, ℕ, Bool, true, false, List, length, Some, IsTrue, IsFalse, ⊤}
use Rattle.iol_core.specs.State.{State, domain, pool}
use Rattle.iol_core.specs.declared.limits.TheConstants.{MAX_AGGREGATE_BYTES}
use Rattle.iol_core.specs.declared.events.Call.{Call}
use Rattle.iol_core.specs.declared.events.Call.TheVariants as call
use Rattle.iol_core.specs.declared.events.Reply.{Reply}
use Rattle.flash_laws.specs.Conn.Policy.{is_later}
use Rattle.flash_laws.specs.Site.{server}
use Rattle.flash_laws.specs.declared.phase.Phase.{Phase}
use Rattle.flash_laws.specs.declared.phase.Phase.TheVariants.{Receiving, Disconnecting, Closed}

abbrev pub Rank : Type 0
Rank = ℕ × ℕ

abbrev pub IsBelow : Rank → Rank → Type 0
IsBelow s t = (s.0 < t.0) ⊎ ((s.0 ≡ t.0) × (s.1 < t.1))

-- a reply reduces the rank, or leaves it unchanged, with the call to be retried later
abbrev pub Nears : {A : Type 0} → (rank : A → Rank) → (before : A) → Reply → (after : A) → Type 0
Nears rank x r y = IsBelow (rank y) (rank x) ⊎ ((y ≡ x) × IsTrue (is_later r))

-- the server has an open pool for these bytes, and an aggregate can hold them
pub record HasPlaceFor (m : State) (bytes : List ℕ) : Type 0 where
  pub place : ℕ
  pub default : (domain m server).default ≡ Some place
  pub open_yet : IsFalse (pool m place).closed
  pub fits : length bytes ≤ MAX_AGGREGATE_BYTES

-- the result of the call is within the limits
abbrev pub CanMake : State → Call → Type 0
CanMake m (call.AggMake bytes) = HasPlaceFor m bytes
CanMake m k = ⊤

-- whether a phase that ends is in progress: not reading of the stream, or the end of the connection
abbrev pub is_busy : Phase → Bool
is_busy Receiving = false
is_busy Disconnecting = false
is_busy Closed = false
is_busy d = true
