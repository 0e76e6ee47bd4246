use Rattle.std.proofs.Common.{◌≡◌, take}
use Rattle.iol_core.specs.Text as text
use Rattle.iol_hold.specs.Texts.{text_of}
use Rattle.iol_cache.proofs.write.copies.bytes_of.Given as goal

abbrev pub invariant-loop-slice : goal.invariant-loop-slice
invariant-loop-slice l = l.bytes.items ≡ text.bytes_of (text_of l.store (take l.slice-index l.slices))
