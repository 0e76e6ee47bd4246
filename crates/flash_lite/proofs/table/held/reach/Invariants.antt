use Rattle.std.proofs.Common.{◌≡◌, ◌≤◌, ◌+◌, ◌-◌, ◌++◌, Option, None, replicate, vec_len, vec_capacity}
use Rattle.flash_laws.specs.Client.{Client}
use Rattle.flash_lite.proofs.table.held.reach.Given as goal

-- `counter` places were added, and there is room for the others
abbrev pub invariant-loop : goal.invariant-loop
invariant-loop l = record {
  items : l.clients.items ≡ l.initial.clients.items ++ replicate {A = Option Client} l.counter None;
  room : vec_len l.clients + (l.more - l.counter) ≤ vec_capacity l.clients;
}
