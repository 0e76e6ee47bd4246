-- The times at which a service checks its folder.
use Rattle.std.specs.Prelude.{◌≤◌, Option, None, Some, ⊤}
use Rattle.std.specs.Time.{instant_nanos}
use Rattle.std.specs.declared.time.Instant.{Instant}

-- the next check is due at this time
abbrev pub IsDue : (next : Option Instant) → (now : Instant) → Type 0
IsDue None now = ⊤
IsDue (Some next) now = instant_nanos next ≤ instant_nanos now
