use Rattle.std.proofs.Common.{take}
use Rattle.flash_lite.specs.Prelude.{AreFilesOf}
use Rattle.flash_site.proofs.site.files_of.Given as goal

abbrev pub invariant-loop-place : goal.invariant-loop-place
invariant-loop-place l = AreFilesOf (take l.place l.fn.index.names) l.files.items
