-- A queue of slices.
use Rattle.std.specs.Prelude.{◌≡◌, ℕ, zero, suc, ◌+◌, ◌-◌, ◌<◌, ◌≤◌, Bool, true, List, [], ◌∷◌, ◌++◌, length, map, take}
use Rattle.std.specs.Prelude.{drop, min, Option, Some, None, option_map, slice_index_or, Result, IsOk, IfOk, OnErr}
use Rattle.std.specs.List.{slice_get, take_while}
use Rattle.std.specs.Global.{Vec}
use Rattle.std.specs.Vec.{vec_capacity}
use Rattle.iol_core.specs.declared.limits.TheConstants.{MAX_QUEUE_BYTES}
use Rattle.iol_core.specs.declared.numbers.BufId.{BufId}
use Rattle.iol_pool.specs.Pools.{Pool, names_in}
use Rattle.iol_hold.specs.declared.slices.Slice.{Slice}
use Rattle.iol_hold.specs.Moves.{Shares, same, tally}
use Rattle.iol_hold.specs.Places.{Place, slice_places, places, byte_len}
use Rattle.iol_hold.specs.StoreState.{Stored}
use Rattle.iol_hold.specs.Texts.{bufs_of}
use Rattle.iol_agg.specs.Pours.{AreShareable}

-- n is the number of bytes, which is within the limit of a queue
pub record IsBounded (xs : List Slice) (n : ℕ) : Type 0 where
  pub len : n ≡ byte_len xs
  pub most : byte_len xs ≤ MAX_QUEUE_BYTES

-- the number of bytes, of n more, that fit in the queue
abbrev pub fitting : List Slice → (n : ℕ) → ℕ
fitting xs n = min n (MAX_QUEUE_BYTES - byte_len xs)

-- The first of these lists, up to n elements in all: whole lists, and of the list that holds the n-th element its
-- elements up to that one.
abbrev pub first_parts : {A : Type 0} → (n : ℕ) → List (List A) → List (List A)
first_parts n [] = []
first_parts zero (p ∷ ps) = []
first_parts (suc n) (p ∷ ps) = take (suc n) p ∷ first_parts (suc n - length p) ps

-- the pool of the first byte
abbrev pub first_pool : List Slice → Option ℕ
first_pool xs = option_map (λ p. p.pool) (slice_get (places xs) 0)

-- whether the domain may read the byte at the place
abbrev pub may_see : List Pool → (d : ℕ) → Place → Bool
may_see pools d p = names_in pools p.pool d

-- the places of the longest prefix, of the first n bytes of a queue, whose pools all name the domain
abbrev pub front_for : List Pool → (d n : ℕ) → List Slice → List Place
front_for pools d n xs = take_while (may_see pools d) (take n (places xs))

-- bytes with their first k replaced by those of others
abbrev pub with_first : (k : ℕ) → (others bytes : List ℕ) → List ℕ
with_first k others bytes = take k others ++ drop k bytes

-- whether the pool names the domain, if one is given
abbrev pub names_given : List Pool → (d : Option ℕ) → (pool : ℕ) → Bool
names_given pools None p = true
names_given pools (Some d) p = names_in pools p d

-- the list is empty, and has room for n slices
pub record IsEmptyFor (out : Vec Slice) (n : ℕ) : Type 0 where
  pub none : out.items ≡ []
  pub room : n ≤ vec_capacity out

-- at least one byte is requested, and there is a slice; the slices may be shared
pub record MayTakeFirst (s : Stored) (xs : List Slice) (most : ℕ) : Type 0 where
  pub some : 0 < most
  pub filled : 0 < length xs
  pub shared : AreShareable s (bufs_of xs)

-- The first slice of a queue was taken off. If it was longer than `most`, only its first `most` bytes were, and its
-- buffer has one more reference.
pub record TakesSlice (s t : Stored) (old new : List Slice) (most : ℕ) (x : Slice) : Type 0 where
  pub given : slice_places x ++ places new ≡ places old
  pub cut : first_parts most (map slice_places old) ≡ slice_places x ∷ first_parts (most - x.len) (map slice_places new)
  pub pool : (y : Slice) → x.hold.pool ≡ (slice_index_or old 0 y).hold.pool
  pub len : x.len ≤ most
  pub fewer : min (length new) (most - x.len) + 1 ≤ min (length old) most
  pub shares : Shares s t (bufs_of old) (x.hold.buf ∷ bufs_of new)
  pub whole : x.len < most → (b : BufId) → same b x.hold.buf + tally b (bufs_of new) ≤ tally b (bufs_of old)
  pub few : length new ≤ length old
  pub fewer_left : x.len < most → length new + 1 ≤ length old

-- The first bytes of a queue were taken off, at most n, up to the first whose pool does not name the domain, if one is
-- given. Of the slices taken off, only the last may have been cut.
pub record TakesFirst (s t : Stored) (old given new : List Slice) (n : ℕ) (d : Option ℕ) : Type 0 where
  pub taken : places given ≡ take_while (λ (p : Place). names_given s.pools d p.pool) (take n (places old))
  pub cut : d ≡ None → map slice_places given ≡ first_parts n (map slice_places old)
  pub parts : map slice_places given ≡ first_parts (byte_len given) (map slice_places old)
  pub few : length given + length new ≤ length old + 1
  pub left : length new ≤ length old
  pub whole : places given ++ places new ≡ places old
  pub shares : Shares s t (bufs_of old) (bufs_of given ++ bufs_of new)

-- The first bytes of a queue were taken off, at most n, up to the first whose pool does not name the domain, if one is
-- given; or the call was refused, and nothing changed. If n is 0 or the queue is empty, it is not refused.
pub record TakesOff {E : Type 0} (s t : Stored) (old new : List Slice) (n : ℕ) (d : Option ℕ)
    (r : Result (List Slice) E) : Type 0 where
  pub takes : IfOk r (λ given. TakesFirst s t old given new n d)
  pub none : min n (byte_len old) ≡ 0 → IsOk r
  pub err : OnErr r ((new ≡ old) × (t ≡ s))

-- A domain was given the front of a queue: of its first n bytes the longest prefix whose pools all name the domain. The
-- slices given are the queue's first ones, of which only the last may have been cut. With those left they are at most
-- one more than before, and those left are no more than before.
pub record GivesFirst (s t : Stored) (old front new : List Slice) (n d : ℕ) : Type 0 where
  pub given : places front ≡ front_for s.pools d n old
  pub cut : map slice_places front ≡ first_parts (byte_len front) (map slice_places old)
  pub few : length front + length new ≤ length old + 1
  pub left : length new ≤ length old
  pub rest : places new ≡ drop (byte_len front) (places old)
  pub shares : Shares s t (bufs_of old) (bufs_of front ++ bufs_of new)

-- The first n bytes of a queue were taken off, or all if there were fewer. The slice that holds the last of them was
-- cut there.
pub record CutsFirst (s t : Stored) (old first new : List Slice) (n : ℕ) : Type 0 where
  pub given : places first ≡ take n (places old)
  pub cut : map slice_places first ≡ first_parts n (map slice_places old)
  pub few : length first + length new ≤ length old + 1
  pub left : length new ≤ length old
  pub rest : places new ≡ drop n (places old)
  pub shares : Shares s t (bufs_of old) (bufs_of first ++ bufs_of new)
