-- Readings of a kernel's state: the content at the places of bytes, and in the store under the files.
use Rattle.std.specs.Prelude.{ℕ, List, map}
use Rattle.std.specs.List.{range_with_len}
use Rattle.iol_core.specs.Text.{Text}
use Rattle.iol_core.specs.declared.limits.TheConstants.{MAX_FILES}
use Rattle.iol_back.specs.Disk.{content}
use Rattle.iol_hold.specs.Layout as places
use Rattle.iol_hold.specs.Places.{Place}
use Rattle.iol_hold.specs.StoreState.{Stored}
use Rattle.iol_hold.specs.Texts.{byte_at}
use Rattle.iol_hold.specs.declared.slices.Slice.{Slice}
use Rattle.iol_cache.specs.CacheState.{extents_in}
use Rattle.iol_cache.specs.Contents.{file_bytes}
use Rattle.iol_cache.specs.declared.files.CachedFile.{CachedFile}

-- a number and a pool at each place, and the content of each slot of the store
pub record Reading : Type 0 where
  pub at : Place → ℕ × ℕ
  pub stored : List (List ℕ)

-- the text of slices, byte by byte
abbrev pub read : Reading → List Slice → Text
read f xs = places.read f.at xs

-- the content read at a place has the pool of the place
abbrev pub KeepsPools : Reading → Type 0
KeepsPools f = places.KeepsPools f.at

-- the bytes in memory, over a store with these slots
abbrev pub bytes_over : (stored : List (List ℕ)) → Stored → Reading
bytes_over stored s = record { at = byte_at s; stored = stored }

-- the content of the file in slot n: its extents as they are read, and elsewhere the content of the store
abbrev pub slot_read : Reading → List CachedFile → (n : ℕ) → List ℕ
slot_read f fs n = file_bytes (λ p. (f.at p).0) (content f.stored n) (extents_in fs n)

-- the slots of a store
abbrev pub slots_of : (stored : List (List ℕ)) → List (List ℕ)
slots_of stored = map (content stored) (range_with_len 1 MAX_FILES)

-- all slots
unfoldable pub slots_read : Reading → List CachedFile → List (List ℕ)
slots_read f fs = map (slot_read f fs) (range_with_len 1 MAX_FILES)
