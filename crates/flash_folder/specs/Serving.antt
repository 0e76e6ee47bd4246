-- The limits of a server of a folder.
use Rattle.std.specs.Prelude.{ℕ, Some, true}
use Rattle.iol_reactor.specs.declared.limits.Limits.{Limits}
use Rattle.iol_reactor.specs.declared.limits.TheConstants.Limits.{DEFAULT}

-- It accepts this number of clients, and ends if none can be accepted. All others are the default ones.
abbrev pub limits_for : (count : ℕ) → Limits
limits_for count = record DEFAULT { stop_after = Some count; ends_unaccepted = true }
