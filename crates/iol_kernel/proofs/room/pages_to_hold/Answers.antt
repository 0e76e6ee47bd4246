use Rattle.std.proofs.Common.{◌∙◌, ap, sym}
use Rattle.iol_arena.specs.State.{pages_for}
use Rattle.iol_hold.proofs.Rooms.{no_pages}
use Rattle.iol_kernel.proofs.room.pages_to_hold.Goals as goal

-- no bytes need no page
pub returns-then-bytes-eq0 : goal.returns-then-bytes-eq0
returns-then-bytes-eq0 c = sym (ap pages_for c.if-bytes-eq0.true ∙ no_pages)
