-- The order of ranks.
use Rattle.std.proofs.Common.{◌≡◌, ◌<◌, ◌≤◌, arith, sym}
use Rattle.iol_evict.specs.declared.entry.Rank.{Rank}
use Rattle.iol_evict.specs.Ranks.{RankLt, RankLe}

pub lt_trans : (a b c : Rank) → RankLt a b → RankLt b c → RankLt a c
lt_trans a b c ab bc = record {
  height = omega (arith, ab.height, bc.height);
  file = λ h. omega (arith, ab.height, ab.file, bc.height, bc.file);
  at = λ h f. omega (arith, ab.height, ab.file, ab.at, bc.height, bc.file, bc.at);
}

pub le_lt : (a b c : Rank) → RankLe a b → RankLt b c → RankLt a c
le_lt a b c ab bc = record {
  height = omega (arith, ab.height, bc.height);
  file = λ h. omega (arith, ab.height, ab.file, bc.height, bc.file);
  at = λ h f. omega (arith, ab.height, ab.file, ab.at, bc.height, bc.file, bc.at);
}

pub lt_le : (a b : Rank) → RankLt a b → RankLe a b
lt_le a b ab = record { height = ab.height; file = ab.file; at = λ h f. omega (arith, ab.at h f) }

-- if a is below b, b is not at most a
pub lt_not_le : (a b : Rank) → RankLt a b → RankLe b a → ⊥
lt_not_le a b ab ba =
    let h : a.height ≡ b.height = omega (arith, ab.height, ba.height) in
    let f : a.file ≡ b.file = omega (arith, h, ab.file h, ba.file (sym h)) in
    let lt : a.at < b.at = ab.at h f in
    let le : b.at ≤ a.at = ba.at (sym h) (sym f) in
    omega (arith, lt, le)

pub le_refl : (a : Rank) → RankLe a a
le_refl a = record { height = omega arith; file = λ h. omega arith; at = λ h f. omega arith }

-- of two ranks with different places, one that is at most the other is below it
pub le_other : (a b : Rank) → RankLe a b → (a.file ≡ b.file → a.at ≡ b.at → ⊥) → RankLt a b
le_other a b ab apart = record {
  height = ab.height;
  file = ab.file;
  at = λ h f. let le : a.at ≤ b.at = ab.at h f in let ne : (a.at ≡ b.at → ⊥) = λ e. apart f e in omega (arith, le, ne);
}
