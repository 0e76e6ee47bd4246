-- The contents of a site for the server and for its scripts.
use Rattle.std.specs.Prelude.{ℕ, List, [], Option, Some, None, if◌then◌else◌, position, bytes_eq, slice_index_or}
use Rattle.std.specs.List.{slice_get}
use Rattle.iol_core.specs.declared.refusals.Refusal.TheVariants.{Denied, NoFile}
use Rattle.flash_cgi.specs.Output.{Outcome, Failed, Found}
use Rattle.flash_laws.specs.SiteContents.Expected.{Seen}
use Rattle.flash_laws.specs.SiteContents.{SiteContents, Refusals}
use Rattle.flash_lite.specs.Setup.{has_script}
use Rattle.flash_lite.specs.SiteContents.{site_contents_of}
use Rattle.flash_lite.specs.declared.site.Site.{Site}
use Rattle.flash_lite.specs.declared.site.SiteFile.{SiteFile}

-- a script finds a file's bytes, unless the file is private: then it is in pool 4, `vault`
abbrev pub seen : Option SiteFile → (bytes : List ℕ) → Outcome
seen None bytes = Failed NoFile
seen (Some f) bytes = if f.private then Failed (Denied 4) else Found bytes

-- the file at this index of the site's list, with the slot at the same index
abbrev pub seen_at : Site → (slots : List (List ℕ)) → Option ℕ → Outcome
seen_at s slots None = Failed NoFile
seen_at s slots (Some i) = seen (slice_get s.files.items i) (slice_index_or slots i [])

-- the file of this name
abbrev pub seen_of : Site → (slots : List (List ℕ)) → Seen
seen_of s slots name = seen_at s slots (position (λ f. bytes_eq f.name.items name) s.files.items)

-- For both; scripts are run if there is one, and calls may get these refusals.
abbrev pub library_of : Site → (slots : List (List ℕ)) → Refusals → SiteContents
library_of s slots refuses = record {
  finds = site_contents_of s slots;
  shows = seen_of s slots;
  scripts = has_script s;
  refuses = refuses;
}
