-- The bytes that a process sees: those of its domain's aggregates, by number.
use Rattle.std.specs.Prelude.{ℕ, List, Option, None, if◌then◌else◌}
use Rattle.iol_core.specs.State.{State, is_live}
use Rattle.iol_laws.specs.Caller.{readable_at}

-- the bytes that a domain has under a number, if it is live
abbrev pub readable_to : State → (by agg : ℕ) → Option (List ℕ)
readable_to s by agg = if is_live s by then readable_at s by agg else None
