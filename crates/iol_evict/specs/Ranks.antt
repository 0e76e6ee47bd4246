-- The ranks by which indexes are sorted.
use Rattle.std.specs.Prelude.{◌≡◌, ◌<◌, ◌≤◌}
use Rattle.iol_evict.specs.declared.entry.Entry.{Entry}
use Rattle.iol_evict.specs.declared.entry.Rank.{Rank}
use Rattle.iol_evict.specs.declared.entry.By.{By}
use Rattle.iol_evict.specs.declared.entry.By.TheVariants.{Place, Height}

abbrev pub rank_by : By → Entry → Rank
rank_by Place e = record { height = 0; file = e.file; at = e.at }
rank_by Height e = record { height = e.height; file = e.file; at = e.at }

abbrev pub least_rank : Rank
least_rank = record { height = 0; file = 0; at = 0 }

-- by height, then file, then place
pub record RankLt (a b : Rank) : Type 0 where
  pub height : a.height ≤ b.height
  pub file : a.height ≡ b.height → a.file ≤ b.file
  pub at : a.height ≡ b.height → a.file ≡ b.file → a.at < b.at

pub record RankLe (a b : Rank) : Type 0 where
  pub height : a.height ≤ b.height
  pub file : a.height ≡ b.height → a.file ≤ b.file
  pub at : a.height ≡ b.height → a.file ≡ b.file → a.at ≤ b.at
