-- What has a stamp.
use Rattle.std.specs.Prelude.{◌≤◌}
use Rattle.std.specs.Fs.{IsFile, file_type, metadata_len}
use Rattle.std.specs.declared.fs.Metadata.{Metadata}
use Rattle.iol_core.specs.declared.limits.TheConstants.{MAX_FILE_BYTES}

-- a regular file of at most 2^24 bytes
abbrev pub IsShortFile : Metadata → Type 0
IsShortFile found = IsFile (file_type found) × (metadata_len found ≤ MAX_FILE_BYTES)
