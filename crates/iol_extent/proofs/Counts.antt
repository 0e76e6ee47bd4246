-- The number of extents, and of dirty extents.
use Rattle.std.proofs.Common.{ℕ, suc, zero, ◌+◌, ◌≤◌, Bool, true, false, cond, List, [], ◌∷◌, length, max, take, arith}
use Rattle.std.proofs.lemmas.List.Sums.{sum_by-cons}
use Rattle.iol_extent.specs.Extents.{Extent, IsApart, dirty_count, end_of, last_end, one_dirty}

pub count_few : (low : ℕ) (es : List Extent) → IsApart low es → length es + low ≤ max low (last_end es)
count_few low [] apart = omega arith
count_few low (e ∷ es) apart = omega (arith, count_few (end_of e) es apart.2, apart.0, apart.1)

pub one_few : (e : Extent) → one_dirty e ≤ 1
one_few e = pick e.dirty where
  pick : (b : Bool) → cond {A = ℕ} b 1 0 ≤ 1
  pick true = omega arith
  pick false = omega arith

pub dirty_take : (es : List Extent) (i : ℕ) → dirty_count (take i es) ≤ i
dirty_take [] zero = omega arith
dirty_take [] (suc i) = omega arith
dirty_take (x ∷ es) zero = omega arith
dirty_take (x ∷ es) (suc i) = omega (arith, sum_by-cons one_dirty x (take i es), one_few x, dirty_take es i)

pub dirty_within : (es : List Extent) (i : ℕ) → dirty_count (take i es) ≤ length es
dirty_within [] zero = omega arith
dirty_within [] (suc i) = omega arith
dirty_within (x ∷ es) zero = omega arith
dirty_within (x ∷ es) (suc i) = omega (arith, sum_by-cons one_dirty x (take i es), one_few x, dirty_within es i)

pub dirty_few : (es : List Extent) → dirty_count es ≤ length es
dirty_few [] = omega arith
dirty_few (x ∷ es) = omega (arith, sum_by-cons one_dirty x es, one_few x, dirty_few es)
