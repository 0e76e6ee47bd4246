-- A queue whose holds are all known.
use Rattle.std.proofs.Common.{◌<◌, ◌^◌, List, [], ◌++◌, arith}
use Rattle.iol_core.specs.declared.numbers.BufId.{BufId}
use Rattle.iol_hold.specs.StoreState.{Stored}
use Rattle.iol_hold.specs.Moves.{Shares, Moves, Covers, IsCountable}
use Rattle.iol_hold.specs.Places.{byte_len}
use Rattle.iol_hold.specs.Texts.{bufs_of}
use Rattle.iol_hold.specs.declared.slices.Slice.{Slice}
use Rattle.iol_hold.proofs.Counts.{tally-append, tally_none}
use Rattle.iol_agg.specs.KnownHolds.{IsHeldBy}
use Rattle.iol_agg.proofs.KnownHolds.{tally-few}

-- New buffers were filled, in addition to those of the queue.

pub beside_countable : {s t : Stored} (old xs : List Slice) → IsHeldBy s (bufs_of old) → Moves s t [] (bufs_of xs)
    → byte_len old < 2 ^ 32 → byte_len xs < 2 ^ 32 → IsCountable t (bufs_of xs)
beside_countable old xs h m few small =
    record { each = λ b. omega (arith, h.each b, m.counts.each b, tally_none b, tally-few b old, tally-few b xs) }

-- the queue shared some of them, and they are still held
pub beside_covers : {s t u : Stored} {old new xs : List BufId} → IsHeldBy s old → Moves s t [] xs → Shares t u old new
    → Covers u xs
beside_covers h m n = record { each = λ b. omega (arith, h.each b, m.counts.each b, n.counts.each b, tally_none b) }

-- they are then released
pub held_pushed : {s t u v : Stored} {old new xs : List BufId} → IsHeldBy s old → Moves s t [] xs → Shares t u old new
    → Moves u v xs [] → IsHeldBy v new
held_pushed h m n o =
    record { each = λ b. omega (arith, h.each b, m.counts.each b, n.counts.each b, o.counts.each b, tally_none b) }

-- Bytes were taken from the queue.

pub given_covers : {s t : Stored} {old : List BufId} (new xs : List BufId) → IsHeldBy s old → Shares s t old (xs ++ new)
    → Covers t xs
given_covers new xs h m = record { each = λ b. omega (arith, h.each b, m.counts.each b, tally-append b xs new) }

pub held_given : {s t u : Stored} {old : List BufId} (new xs : List BufId) → IsHeldBy s old → Shares s t old (xs ++ new)
    → Moves t u xs [] → IsHeldBy u new
held_given new xs h m n =
    record {
      each =
          λ b. omega (arith, h.each b, m.counts.each b, n.counts.each b, tally-append b xs new, tally_none b);
    }
