-- Laws about the definitions of the contracts.
use Rattle.std.specs.Prelude.{◌≡◌, ℕ}
use Rattle.iol_back.specs.Disk.{Disk}
use Rattle.iol_hold.specs.StoreState.{Stored}
use Rattle.iol_cache.specs.CacheState.{Cached}
use Rattle.iol_cache.specs.Evictions.{Holding}
use Rattle.iol_cache.specs.ReadSteps.{HasRoom, LacksRoom, Pins, wanted_pages}
use Rattle.iol_cache.specs.ReadResults.{IsEnd, NoRoomToRead, RoomToRead}
use Rattle.iol_cache.specs.Sound.{IsSound}

-- the number of pinned and needed pages does not depend on the slices that hold the hits of a range
abbrev pub WantsOneNumber : Type 0
WantsOneNumber = (s : Stored) (c : Cached) (f from to : ℕ) → IsSound s c → (x y : Pins s c f from to)
    → wanted_pages x ≡ wanted_pages y

-- a range has room, or it lacks it, and never both
abbrev pub HasOrLacksRoom : Type 0
HasOrLacksRoom = (s : Stored) (c : Cached) (f from to : ℕ) → IsSound s c → HasRoom s c f from to
    → ¬ LacksRoom s c f from to

-- a file has one end, whatever the store under it
abbrev pub HasOneEnd : Type 0
HasOneEnd = (disk : Disk) (c : Cached) (f m n : ℕ) → IsEnd disk c f m → IsEnd disk c f n → m ≡ n

-- so a read of a file has room, or it lacks it, and never both
abbrev pub ReadsOrLacksRoom : Type 0
ReadsOrLacksRoom = (f at n : ℕ) (disk : Disk) (h : Holding) → IsSound h.store h.cache
    → RoomToRead f at n disk h → ¬ NoRoomToRead f at n disk h
