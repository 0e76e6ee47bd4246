use Rattle.std.proofs.Common.{◌≡◌, ◌≤◌, length, take, vec_len, vec_capacity}
use Rattle.iol_proc.specs.World.{sharing, WorldRun}
use Rattle.iol_proc.proofs.world.World.run.Given as goal

-- the replies so far are those of the choices so far, and there is room for the others
abbrev pub invariant-loop-choice : goal.invariant-loop-choice
invariant-loop-choice g l = record {
  ran : WorldRun sharing g.P.Process.turns l.fn.self (take l.choice-index l.choices) l.replies.items l.self;
  count : vec_len l.replies ≡ l.choice-index;
  room : length l.choices ≤ vec_capacity l.replies;
}
