-- A domain's aggregates after a split, a join or a gift, and after all of them are dropped.
use Rattle.std.specs.Prelude.{◌≡◌, ◌≢◌, ℕ, ◌+◌, ◌<◌, ◌≤◌, ◌^◌, List, [], ◌∷◌, ◌++◌, take, drop, None, Result}
use Rattle.std.specs.List.{AllByRecursion}
use Rattle.std.specs.Prelude.{IfOk, OnOk, OnErr, IsTrue}
use Rattle.iol_core.specs.NumberedLists.{without}
use Rattle.iol_core.specs.State.{Domain}
use Rattle.iol_core.specs.declared.limits.TheConstants.{LAST_AGGREGATE}
use Rattle.iol_hold.specs.Moves.{Moves, SameLists, Shares}
use Rattle.iol_hold.specs.Places.{byte_len, places}
use Rattle.iol_hold.specs.Releases.{FreesOnly}
use Rattle.iol_hold.specs.StoreState.{Stored, AllReclaimed}
use Rattle.iol_hold.specs.Texts.{AllReadable, bufs_of}
use Rattle.iol_hold.specs.declared.slices.Slice.{Slice}
use Rattle.iol_desc.specs.Tables.{Row, agg_in, domain_in, domains_of, with_agg_in, with_domain_in, with_next}
use Rattle.iol_desc.specs.Tables.{without_agg_in}
use Rattle.iol_kernel.specs.HoldCounts.{MayShare, bufs_in}
use Rattle.iol_kernel.specs.KernelState.{slices_in}

-- the domain with two aggregates in place of a, under the next numbers
abbrev pub with_two : Domain (List Slice) → (a : ℕ) → (first second : List Slice) → Domain (List Slice)
with_two x a first second = record x {
  aggs = without x.aggs a ++ (x.next_agg, first) ∷ (x.next_agg + 1, second) ∷ [];
  next_agg = x.next_agg + 2;
}

-- the domain with one aggregate in place of a and b, under the next number
abbrev pub with_one : Domain (List Slice) → (a b : ℕ) → (whole : List Slice) → Domain (List Slice)
with_one x a b whole = with_next (record x { aggs = without (without x.aggs a) b }) whole

-- a domain's aggregate was split: the bytes before an index, and those from it on
pub record SplitsAgg (s t : Stored) (old new : List (Domain (List Slice))) (d a at : ℕ) : Type 0 where
  pub first : List Slice
  pub second : List Slice
  pub before : places first ≡ take at (places (slices_in old d a))
  pub after : places second ≡ drop at (places (slices_in old d a))
  pub shares : Shares s t (bufs_of (slices_in old d a)) (bufs_of first ++ bufs_of second)
  pub split : new ≡ with_domain_in old d (with_two (domain_in old d) a first second)

-- A live domain's aggregate may be split at this index: the count of each of its slices can be incremented, and two
-- aggregate numbers are left.
pub record MaySplitIn (s : Stored) (ds : List (Domain (List Slice))) (d a at : ℕ) : Type 0 where
  pub live : IsTrue (domain_in ds d).live
  pub there : agg_in ds d a ≢ None
  pub few : (domain_in ds d).next_agg + 1 ≤ LAST_AGGREGATE
  pub within : at ≤ byte_len (slices_in ds d a)
  pub shared : MayShare s (slices_in ds d a)

-- A domain's aggregate is split into its next two. A refusal changes nothing.
pub record SplitsNext {E : Type 0} (s t : Stored) (old new : List (Row (List Slice))) (d a at : ℕ)
    (r : Result (ℕ × ℕ) E) : Type 0 where
  pub numbers : IfOk r (λ n. n ≡ ((domain_in (domains_of old) d).next_agg, (domain_in (domains_of old) d).next_agg + 1))
  pub split : OnOk r (SplitsAgg s t (domains_of old) (domains_of new) d a at)
  pub err : OnErr r (domains_of new ≡ domains_of old)
  pub err_store : OnErr r (t ≡ s)

-- the domains with two of a domain's aggregates joined
abbrev pub joined_in : List (Domain (List Slice)) → (d a b : ℕ) → List (Domain (List Slice))
joined_in ds d a b = with_domain_in ds d (with_one (domain_in ds d) a b (slices_in ds d a ++ slices_in ds d b))

-- Two of a live domain's aggregates may be joined: an aggregate number is left.
pub record MayJoinIn (ds : List (Domain (List Slice))) (d a b : ℕ) : Type 0 where
  pub live : IsTrue (domain_in ds d).live
  pub first : agg_in ds d a ≢ None
  pub second : agg_in ds d b ≢ None
  pub differ : a ≢ b
  pub few : (domain_in ds d).next_agg ≤ LAST_AGGREGATE
  pub small : byte_len (slices_in ds d a) + byte_len (slices_in ds d b) < 2 ^ 32

-- Two of a domain's aggregates are joined to its next one. A refusal changes nothing.
pub record JoinsNext {E : Type 0} (old new : List (Domain (List Slice))) (d a b : ℕ)
    (r : Result ℕ E) : Type 0 where
  pub number : IfOk r (λ n. n ≡ (domain_in old d).next_agg)
  pub joined : OnOk r (new ≡ joined_in old d a b)
  pub err : OnErr r (new ≡ old)

-- An aggregate may be given by a live domain to a live one, which has an aggregate number left.
pub record MayGiveIn (ds : List (Domain (List Slice))) (d a e : ℕ) : Type 0 where
  pub from : IsTrue (domain_in ds d).live
  pub to : IsTrue (domain_in ds e).live
  pub there : agg_in ds d a ≢ None
  pub few : (domain_in ds e).next_agg ≤ LAST_AGGREGATE

-- A domain's aggregate is given to a domain, as its next one. A refusal changes nothing.
pub record GivesNext {E : Type 0} (old new : List (Domain (List Slice))) (d a e : ℕ)
    (r : Result ℕ E) : Type 0 where
  pub number : IfOk r (λ n. n ≡ (domain_in old e).next_agg)
  pub moved : OnOk r (new ≡ with_agg_in (without_agg_in old d a) e (slices_in old d a))
  pub err : OnErr r (new ≡ old)

-- The buffers that the dropped aggregates held are released, except those that the remaining aggregates hold. No list
-- changes. If the dropped aggregates were readable, no closed pool keeps unused chunks afterwards, provided none did
-- before.
pub record ReleasesAll (s t : Stored) (aggs left : List (ℕ × List Slice)) : Type 0 where
  pub moves : Moves s t (bufs_in aggs) (bufs_in left)
  pub lists : SameLists s t
  pub frees : FreesOnly s t
  pub reclaims : AllByRecursion (λ e. AllReadable s e.1) aggs → AllReclaimed s → AllReclaimed t
