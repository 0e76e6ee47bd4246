-- The state after all aggregates or descriptors are taken from a domain that ends.
use Rattle.std.specs.Prelude.{ℕ, [], fold}
use Rattle.iol_core.specs.State.{State, domain}
use Rattle.iol_core.specs.Calls.Descriptors.{closed_on, with_fds}
use Rattle.iol_core.specs.Prelude.{with_domain}

-- the state with none of a domain's aggregates
abbrev pub without_aggs : (d : ℕ) → State → State
without_aggs d s = with_domain s d (record (domain s d) { aggs = [] })

-- a machine in which a domain has no descriptors: the objects that they were open on are closed, by rising descriptor
-- number
abbrev pub without_fds : (d : ℕ) → State → State
without_fds d s = fold closed_on (with_fds s d []) (domain s d).fds
