use Rattle.std.proofs.Common.{◌≡◌, ◌+◌, ◌≤◌, ◌-◌, ◌++◌, length, min, take, drop}
use Rattle.std.specs.List.{take_while}
use Rattle.iol_hold.specs.Places.{places, byte_len}
use Rattle.iol_pipe.specs.Queue.{may_see}
use Rattle.iol_pipe.proofs.Copies.{seen, all_bytes}
use Rattle.iol_pipe.proofs.Pipe.copy_front.Given as goal

abbrev pub invariant-loop-at : goal.invariant-loop-at
invariant-loop-at l = record {
  inside : l.i ≤ length l.self;
  full : l.at ≡ min (length l.fn.into) (byte_len (take l.i l.self));
  len : length l.into ≡ length l.fn.into;
  count : length (take_while (may_see l.store.pools l.d) (take (length l.fn.into) (places l.self)))
      ≡ l.at + seen l.store.pools l.d l.self l.i (length l.fn.into - l.at);
  copied : l.into ≡ take l.at (all_bytes l.store l.self) ++ drop l.at l.fn.into;
}

abbrev pub decreases-loop-at : goal.decreases-loop-at
decreases-loop-at l = length l.self - l.i
