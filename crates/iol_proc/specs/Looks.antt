-- The contents of a look.
use Rattle.std.specs.Prelude.{ℕ, List, Option}
use Rattle.iol_system.specs.Machine.{tables_of}
use Rattle.iol_proc.specs.ReadableBytes.{readable_to}
use Rattle.iol_proc.specs.declared.look.Look.{Look}

-- the bytes of each aggregate of its domain
abbrev pub readable : Look → (agg : ℕ) → Option (List ℕ)
readable look = readable_to (tables_of look.aggregates) look.by
