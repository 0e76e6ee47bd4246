use Rattle.std.proofs.Common.{◌≡◌, take}
use Rattle.iol_ffi.proofs.events.domains_of.Given as goal

-- the list has the names so far
abbrev pub invariant-loop-name : goal.invariant-loop-name
invariant-loop-name l = l.list.items ≡ take l.name-index l.names
