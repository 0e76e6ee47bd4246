-- The contents of a site: the outcome for each name.
use Rattle.std.specs.Prelude.{ℕ, List, [], Option, Some, None, if◌then◌else◌, position, bytes_eq, slice_index_or}
use Rattle.std.specs.List.{slice_get}
use Rattle.flash_laws.specs.Answers.{Outcome, Found, Failed, SiteContents}
use Rattle.flash_lite.specs.declared.site.Site.{Site}
use Rattle.flash_lite.specs.declared.site.SiteFile.{SiteFile}

-- a file's bytes, unless it is private
abbrev pub shown : Option SiteFile → (bytes : List ℕ) → Outcome
shown None bytes = Failed 404
shown (Some f) bytes = if f.private then Failed 403 else Found bytes

-- the file at this index of the site's list, with the slot at the same index
abbrev pub shown_at : Site → (slots : List (List ℕ)) → Option ℕ → Outcome
shown_at s slots None = Failed 404
shown_at s slots (Some i) = shown (slice_get s.files.items i) (slice_index_or slots i [])

-- the file of this name
abbrev pub site_contents_of : Site → (slots : List (List ℕ)) → SiteContents
site_contents_of s slots name = shown_at s slots (position (λ f. bytes_eq f.name.items name) s.files.items)
