-- The order of the turns of processes.
use Rattle.std.specs.Prelude.{◌+◌, ℕ, nat_lt, if◌then◌else◌}

-- the process after this one: after the last, the first
abbrev pub place_after : (place count : ℕ) → ℕ
place_after place count = if nat_lt (place + 1) count then place + 1 else 0
