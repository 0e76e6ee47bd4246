use Rattle.std.proofs.Common.{◌≡◌, ◌-◌, length, min, take}
use Rattle.std.specs.Io.KnownBytes.{Appends}
use Rattle.iol_core.specs.Text.{bytes_of}
use Rattle.iol_hold.specs.Places.{byte_len}
use Rattle.iol_hold.specs.Texts.{text_of}
use Rattle.iol_sock.proofs.GatherCalls.{HasTaken}
use Rattle.iol_sock.proofs.gather.gather_first.Given as goal

abbrev pub invariant-loop-taken : goal.invariant-loop-taken
invariant-loop-taken g l = record {
  full : l.taken ≡ min l.most (byte_len (take l.i l.queue));
  written : Appends (g.G.Gather.contents l.fn.taker) (g.G.Gather.contents l.taker)
      (take l.taken (bytes_of (text_of l.store l.queue)));
  calls : HasTaken g.G.Gather.gathers l.fn.taker l.taker;
}

abbrev pub decreases-loop-taken : goal.decreases-loop-taken
decreases-loop-taken g l = length l.queue - l.i
