use Rattle.std.proofs.Common.{◌≡◌, ◌≤◌, take, length, vec_len, vec_capacity}
use Rattle.iol_system.specs.Promises.{Chain}
use Rattle.iol_system.proofs.system.System.run.Given as goal

-- the replies so far are those to the events so far, and there is room for the others
abbrev pub invariant-loop-event : goal.invariant-loop-event
invariant-loop-event g l = record {
  chain : Chain l.fn.self (take l.event-index l.events) l.replies.items l.self;
  count : vec_len l.replies ≡ l.event-index;
  room : length l.events ≤ vec_capacity l.replies;
}
