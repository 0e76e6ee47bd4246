use Rattle.std.proofs.Common.{◌≡◌, ◌≤◌}
use Rattle.iol_desc.proofs.entries.Entries.trim.Given as goal

-- only holes were removed
abbrev pub invariant-loop : goal.invariant-loop
invariant-loop g l = record {
  entries : l.self.entries ≡ l.fn.self.entries;
  next : l.self.next ≡ l.fn.self.next;
  room : l.fn.self.room ≤ l.self.room;
}
