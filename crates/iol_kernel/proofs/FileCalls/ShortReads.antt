-- A read of at most as many bytes as a file has left is a read of the requested number.
use Rattle.std.proofs.Common.{◌≡◌, ℕ, min, length, List, take, drop, ap, ◌∙◌, arith}
use Rattle.std.specs.Prelude.{Result}
use Rattle.std.proofs.lemmas.List.{length-drop, take_min}
use Rattle.iol_core.specs.declared.refusals.Refusal.{Refusal}
use Rattle.iol_back.specs.Disk.{Disk}
use Rattle.iol_hold.specs.declared.slices.Slice.{Slice}
use Rattle.iol_cache.specs.CacheState.{Cached}
use Rattle.iol_cache.specs.Contents.{bytes_in_slot}
use Rattle.iol_cache.specs.Evictions.{Holding}
use Rattle.iol_cache.specs.ReadResults.{IsBacked, NoRoomToRead, Range, ReadsFile, RefusesRead, RoomToRead, ReportsRoom}
use Rattle.iol_cache.specs.ReadResults.{bytes_read}
use Rattle.iol_cache.proofs.RangeReads.RangeHolds.{reports_more}
use Rattle.iol_kernel.specs.FileReads.{IsReadable}

module _ {disk : Disk} {f at n many : ℕ} where
  -- both have the same end
  pub range_more : (c : Cached) → IsReadable disk c f at n many → Range disk c f at many → Range disk c f at n
  range_more c reported r = record {
    end = r.end;
    ends = r.ends;
    from = r.from;
    begins = r.begins;
    to = r.to;
    stops = omega (arith, r.stops, reported.fewer, reported.ends.is, r.ends.is);
  }

  module _ (old : Holding) (reported : IsReadable disk old.cache f at n many) where
    pub reads_more : {new : Holding} {xs : List Slice} → ReadsFile f at many disk old new xs
        → ReadsFile f at n disk old new xs
    unfolding range_more
    reads_more r = record { range = range_more old.cache reported r.range; reads = r.reads }

    pub refuses_more : {new : Holding} {y : Refusal} → RefusesRead f at many disk old new y
        → RefusesRead f at n disk old new y
    unfolding range_more
    refuses_more r = record { range = range_more old.cache reported r.range; leaves = r.leaves }

    pub room_more : RoomToRead f at many disk old → RoomToRead f at n disk old
    unfolding range_more
    room_more r = record { range = range_more old.cache reported r.range; room = r.room }

    lacks_more : NoRoomToRead f at many disk old → NoRoomToRead f at n disk old
    unfolding range_more
    lacks_more r = record { range = range_more old.cache reported r.range; lacks = r.lacks }

    -- a result that reports room for the shorter read reports it for the requested one
    pub reports_room : {A : Type 0} (r : Result A Refusal)
        → ReportsRoom (RoomToRead f at many disk old) (NoRoomToRead f at many disk old) r
        → ReportsRoom (RoomToRead f at n disk old) (NoRoomToRead f at n disk old) r
    reports_room {A} r =
        reports_more {A = A} (RoomToRead f at many disk old) (NoRoomToRead f at many disk old)
        (RoomToRead f at n disk old) (NoRoomToRead f at n disk old) r room_more lacks_more

    pub bytes_more : IsBacked disk old
        → bytes_read old.store disk.slots old.cache f at many ≡ bytes_read old.store disk.slots old.cache f at n
    bytes_more backed =
        let bytes : List ℕ = bytes_in_slot old.store disk.slots old.cache.files f in
        let left : List ℕ = drop at bytes in
        let some : many ≡ min n (length left) =
        omega (arith, reported.fewer, reported.whole old.store backed, length-drop at bytes) in
        ap (λ k. take k left) some ∙ take_min n left
