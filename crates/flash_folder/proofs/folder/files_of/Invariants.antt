use Rattle.std.proofs.Common.{take}
use Rattle.flash_lite.specs.Prelude.{AreFilesOf}
use Rattle.flash_folder.proofs.folder.files_of.Given as goal

abbrev pub invariant-loop-place : goal.invariant-loop-place
invariant-loop-place g l = AreFilesOf (take l.place l.fn.store.names) l.files.items
