-- A connection that is not in a system's tables does not exist in the copying machine.
use Rattle.std.proofs.Common.{◌≡◌, ℕ, true}
use Rattle.iol_core.specs.Calls.Outside.{lacks_conn}
use Rattle.iol_system.specs.Machine.{SystemState, machine_of, tables_of}
use Rattle.iol_system.specs.Prelude.{read_of, state_view}

pub lacks_copied : (s : SystemState) (c : ℕ) → lacks_conn (tables_of s.kernel) c ≡ true
    → lacks_conn (machine_of s) c ≡ true
unfolding read_of state_view
lacks_copied s c lacks = lacks
