-- The length of a file.
use Rattle.std.proofs.Common.{◌≡◌, ℕ, true, List, length, arith}
use Rattle.std.proofs.lemmas.List.{length-map}
use Rattle.std.specs.List.{range_with_len}
use Rattle.std.proofs.lemmas.List.FromFn.{length-range_with_len}
use Rattle.iol_back.specs.Disk.{Disk, content}
use Rattle.iol_core.specs.NumberedLists.{is_numbered}
use Rattle.iol_extent.specs.Extents.{Extent}
use Rattle.iol_hold.specs.Places.{Place}
use Rattle.iol_cache.specs.CacheState.{extents_in}
use Rattle.iol_cache.specs.Contents.{byte_in, bytes_in_slot, file_byte, file_bytes, file_len}
use Rattle.iol_cache.specs.Evictions.{Holding}
use Rattle.iol_cache.specs.ReadResults.{IsBacked, IsEnd}

length-file_bytes : (g : Place → ℕ) (stored : List ℕ) (es : List Extent)
    → length (file_bytes g stored es) ≡ file_len stored es
length-file_bytes g stored es =
    omega (
      arith,
      length-map (range_with_len 0 (file_len stored es)) (file_byte g stored es),
      length-range_with_len 0 (file_len stored es),
    )

-- with an honest store, the end for a read is that of the file
pub end_is : (disk : Disk) (h : Holding) (f end : ℕ) → is_numbered h.cache.files f ≡ true → IsEnd disk h.cache f end
    → IsBacked disk h → end ≡ length (bytes_in_slot h.store disk.slots h.cache.files f)
end_is disk h f end there ends backed =
    let stored = content disk.slots f in
    let es = extents_in h.cache.files f in
    omega (arith, ends.stored backed.honest, backed.short f there, length-file_bytes (byte_in h.store) stored es)
