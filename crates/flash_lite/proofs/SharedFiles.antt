-- The files of a site, one after another.
use Rattle.std.proofs.Common.{◌≡◌, ◌∙◌, ◌+◌, ℕ, Bool, false, ◌||◌, List, [], ◌∷◌, ◌++◌, Some, ap, sym, map, take}
use Rattle.std.proofs.lemmas.List.{map-append, take_more}
use Rattle.std.proofs.lemmas.List.Folds.{list_any-append}
use Rattle.std.proofs.lemmas.Option.{get_or_from_slice_get, slice_get_within}
use Rattle.std.specs.List.{list_any, slice_get}
use Rattle.flash_lite.specs.SharedFiles.{AreFilesOf}
use Rattle.flash_lite.specs.declared.site.SiteFile.{SiteFile}

-- one more file
pub filed_more : (names : List (List ℕ)) (k : ℕ) (files : List SiteFile) (f : SiteFile)
    → AreFilesOf (take k names) files
    → slice_get names k ≡ Some f.name.items → f.private ≡ false → AreFilesOf (take (k + 1) names) (files ++ f ∷ [])
filed_more names k files f are named shared = record {
  named = map-append (λ (g : SiteFile). g.name.items) files (f ∷ [])
      ∙ (ap (λ (l : List (List ℕ)). l ++ f.name.items ∷ []) are.named
      ∙ sym (take_more names k f.name.items (slice_get_within names k f.name.items named)
      ∙ ap (λ (n : List ℕ). take k names ++ n ∷ []) (get_or_from_slice_get names k f.name.items f.name.items named)));
  shared = list_any-append (λ (g : SiteFile). g.private) files (f ∷ [])
      ∙ (ap (λ (b : Bool). b || (f.private || false)) are.shared ∙ ap (λ (b : Bool). b || false) shared);
}
