use Rattle.std.proofs.Common.{◌+◌, List, subst, sym, take}
use Rattle.flash_lite.proofs.SharedFiles.{filed_more}
use Rattle.flash_lite.specs.Prelude.{AreFilesOf}
use Rattle.flash_folder.proofs.folder.files_of.Goals as goal
use Rattle.flash_lite.specs.declared.site.SiteFile.{SiteFile}

pub loop-place-preserved : goal.loop-place-preserved
loop-place-preserved g c =
    subst (λ (fs : List SiteFile). AreFilesOf (take (c.loop-place.place + 1) c.args.store.now.names) fs)
    (sym c.in_ok-push.ensures.items)
    (filed_more _ c.loop-place.place c.loop-place.files.items c.in_ok-file_at.field-0 c.loop-place.invariant
    c.in_ok-file_at.ensures.name c.in_ok-file_at.ensures.shared)
