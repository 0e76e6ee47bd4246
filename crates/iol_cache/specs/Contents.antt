-- The bytes of files: those that extents have, and else those of the store.
use Rattle.std.specs.Prelude.{◌≡◌, ℕ, ◌<◌, max, List, map, length, slice_index, Option, Some, None, IsFalse, ⊤}
use Rattle.std.specs.List.{range_with_len}
use Rattle.iol_back.specs.Disk.{content}
use Rattle.iol_hold.specs.Places.{Place}
use Rattle.iol_hold.specs.StoreState.{Stored}
use Rattle.iol_hold.specs.Texts.{byte_at}
use Rattle.iol_extent.specs.Extents.{Extent, Cell, cover, last_end}
use Rattle.iol_cache.specs.declared.files.CachedFile.{CachedFile}
use Rattle.iol_cache.specs.CacheState.{extents_in}

-- the byte that g reads at the place of an extent's byte, or else the stored byte
abbrev pub read_or : (g : Place → ℕ) → (stored : ℕ) → Option Cell → ℕ
read_or g stored None = stored
read_or g stored (Some c) = g c.place

-- byte i of a file
abbrev pub file_byte : (g : Place → ℕ) → (stored : List ℕ) → List Extent → (i : ℕ) → ℕ
file_byte g stored es i = read_or g (slice_index stored i) (cover es i)

abbrev pub file_len : (stored : List ℕ) → List Extent → ℕ
file_len stored es = max (length stored) (last_end es)

-- the bytes of a file: its length is the stored length or the end of its last extent, whichever is greater
abbrev pub file_bytes : (g : Place → ℕ) → (stored : List ℕ) → List Extent → List ℕ
file_bytes g stored es = map (file_byte g stored es) (range_with_len 0 (file_len stored es))

-- the byte at a place
abbrev pub byte_in : Stored → Place → ℕ
byte_in s p = (byte_at s p).0

-- the bytes of the file in a slot
abbrev pub bytes_in_slot : Stored → (slots : List (List ℕ)) → List CachedFile → (f : ℕ) → List ℕ
bytes_in_slot s slots fs f = file_bytes (byte_in s) (content slots f) (extents_in fs f)

-- the extent over byte i is dirty, or the store has the same byte
abbrev pub IsStored : Stored → (stored : List ℕ) → (i : ℕ) → Option Cell → Type 0
IsStored s stored i None = ⊤
IsStored s stored i (Some c) = IsFalse c.dirty → (i < length stored) × (byte_in s c.place ≡ slice_index stored i)

-- under clean extents the store has the same bytes
pub record AreStored (s : Stored) (stored : List ℕ) (es : List Extent) : Type 0 where
  pub each : (i : ℕ) → IsStored s stored i (cover es i)

-- the store has the same bytes under all clean extents of all files
pub record Mirrors (s : Stored) (slots : List (List ℕ)) (fs : List CachedFile) : Type 0 where
  pub each : (f : ℕ) → AreStored s (content slots f) (extents_in fs f)

-- every file keeps its bytes
pub record SameFiles (s : Stored) (fs : List CachedFile) (t : Stored) (gs : List CachedFile)
    (slots : List (List ℕ)) : Type 0 where
  pub each : (f : ℕ) → bytes_in_slot t slots gs f ≡ bytes_in_slot s slots fs f
