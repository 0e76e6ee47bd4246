use Rattle.std.proofs.Common.{◌≡◌, ◌≤◌, ◌-◌, length, min, take}
use Rattle.std.specs.Io.KnownBytes.{Appends}
use Rattle.iol_core.specs.Text.{bytes_of}
use Rattle.iol_hold.specs.Places.{byte_len}
use Rattle.iol_hold.specs.Texts.{text_of}
use Rattle.iol_sock.proofs.drain_to.write_first.Given as goal

abbrev pub invariant-loop-taken : goal.invariant-loop-taken
invariant-loop-taken g l = record {
  at : l.i ≤ length l.queue;
  slow : l.i ≤ l.taken;
  full : l.taken ≡ min l.max (byte_len (take l.i l.queue));
  written : Appends (g.W.Write.contents l.fn.writer) (g.W.Write.contents l.writer)
      (take l.taken (bytes_of (text_of l.store l.queue)));
}

abbrev pub decreases-loop-taken : goal.decreases-loop-taken
decreases-loop-taken g l = length l.queue - l.i
