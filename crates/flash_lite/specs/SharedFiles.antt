-- The files of a site that all domains may read.
use Rattle.std.specs.Prelude.{◌≡◌, ℕ, List, map, IsFalse}
use Rattle.std.specs.List.{list_any}
use Rattle.flash_lite.specs.declared.site.SiteFile.{SiteFile}

-- files of these names, in order, readable by all
pub record AreFilesOf (names : List (List ℕ)) (files : List SiteFile) : Type 0 where
  pub named : map (λ f. f.name.items) files ≡ names
  pub shared : IsFalse (list_any (λ f. f.private) files)
