-- The aggregates of a domain between two events, and the preconditions of calls on them after their tests.
use Rattle.std.specs.Prelude.{◌≢◌, ℕ, ◌+◌, ◌≤◌, [], length, IsTrue, IsFalse}
use Rattle.iol_core.specs.Prelude.{is_live, lacks_agg, text, too_many_aggs}
use Rattle.iol_core.specs.declared.limits.TheConstants.{MAX_AGGREGATE_BYTES}
use Rattle.iol_kernel.specs.NewAggregates.{replaced}
use Rattle.iol_kernel.specs.KernelState.{KernelState, IsSound, machine_of}

-- Between two events: the domain is live.
pub record Lives (h : KernelState) (d : ℕ) : Type 0 where
  pub sound : IsSound h
  pub live : IsTrue (is_live (machine_of [] h) d)

-- Between two events: the domain is live, and has this aggregate.
pub record HasAgg (h : KernelState) (d a : ℕ) : Type 0 where
  pub lives : Lives h d
  pub there : IsFalse (lacks_agg (machine_of [] h) d a)

-- A domain may get one more aggregate, of the bytes from..to of one that it has.
pub record MayCut (d a from to : ℕ) (h : KernelState) : Type 0 where
  pub has : HasAgg h d a
  pub ordered : from ≤ to
  pub within : to ≤ length (text (machine_of [] h) d a)
  pub few : IsFalse (too_many_aggs (machine_of [] h) d 1 0)

-- A domain may get one more aggregate, of the bytes of one that it has with those of another in place of from..to.
pub record MayReplace (d a from to b : ℕ) (h : KernelState) : Type 0 where
  pub cuts : MayCut d a from to h
  pub other : HasAgg h d b
  pub small : length (replaced (text (machine_of [] h) d a) from to (text (machine_of [] h) d b))
      ≤ MAX_AGGREGATE_BYTES

-- A domain's aggregate may be split at this index.
pub record MaySplit (d a at : ℕ) (h : KernelState) : Type 0 where
  pub has : HasAgg h d a
  pub within : at ≤ length (text (machine_of [] h) d a)
  pub few : IsFalse (too_many_aggs (machine_of [] h) d 2 1)

-- Two of a domain's aggregates may be joined.
pub record MayJoin (d a b : ℕ) (h : KernelState) : Type 0 where
  pub first : HasAgg h d a
  pub second : HasAgg h d b
  pub differ : a ≢ b
  pub short : length (text (machine_of [] h) d a) + length (text (machine_of [] h) d b)
      ≤ MAX_AGGREGATE_BYTES
  pub few : IsFalse (too_many_aggs (machine_of [] h) d 1 2)

-- A gift of a domain's aggregate to the domain e passes its tests, except for the test of access.
pub record MayGive (d a e : ℕ) (h : KernelState) : Type 0 where
  pub has : HasAgg h d a
  pub to : IsTrue (is_live (machine_of [] h) e)
  pub few : IsFalse (too_many_aggs (machine_of [] h) e 1 1)
