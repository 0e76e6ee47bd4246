-- The number of holds on buffers, if all holds are known.
use Rattle.std.specs.Prelude.{◌≡◌, List}
use Rattle.iol_core.specs.declared.numbers.BufId.{BufId}
use Rattle.iol_hold.specs.StoreState.{Stored, count_of}
use Rattle.iol_hold.specs.Moves.{tally}

-- each buffer is held as often as the list has it
pub record IsHeldBy (s : Stored) (bufs : List BufId) : Type 0 where
  pub each : (b : BufId) → count_of s b ≡ tally b bufs
