-- Sorted lists of a slab's keys.
use Rattle.std.specs.Prelude.{◌≡◌, ℕ, ◌+◌, ◌<◌, ◌≤◌, ◌==◌, if◌then◌else◌, List, [], length, sum_by, slice_index, Some}
use Rattle.std.specs.Prelude.{unwrap_or, insert, remove, Result, OnOk, ◌≢◌}
use Rattle.std.specs.Global.{Global}
use Rattle.std.specs.VecDeque.{deque_len, deque_capacity}
use Rattle.std.specs.declared.collections.VecDeque.{VecDeque}
use Rattle.slab.specs.Slab.{Slab, get, ContainsKey, HasRoomFor, SameValues, Updates, slab_len}
use Rattle.iol_evict.specs.declared.entry.Entry.{Entry}
use Rattle.iol_evict.specs.declared.entry.Rank.{Rank}
use Rattle.iol_evict.specs.declared.entry.By.{By}
use Rattle.iol_evict.specs.declared.entry.By.TheVariants.{Place, Height}
use Rattle.iol_evict.specs.Ranks.{rank_by, RankLt, RankLe}
use Rattle.iol_evict.specs.Order.{no_entry, lowered_by}

abbrev pub entry_of : Slab Entry → (key : ℕ) → Entry
entry_of s key = unwrap_or (get s key) no_entry

-- the rank of the i-th of the keys
abbrev pub rank_at : By → Slab Entry → List ℕ → (i : ℕ) → Rank
rank_at by s keys i = rank_by by (entry_of s (slice_index keys i))

pub record AreLive (s : Slab Entry) (keys : List ℕ) : Type 0 where
  pub each : (i : ℕ) → i < length keys → ContainsKey s (slice_index keys i)

pub record IsRising (by : By) (s : Slab Entry) (keys : List ℕ) : Type 0 where
  pub each : (i j : ℕ) → i < j → j < length keys → RankLt (rank_at by s keys i) (rank_at by s keys j)

-- keys of entries, in their order
pub record IsIndex (by : By) (s : Slab Entry) (keys : List ℕ) : Type 0 where
  pub live : AreLive s keys
  pub rising : IsRising by s keys

-- n ranks are before this one
pub record IsPlace (by : By) (s : Slab Entry) (keys : List ℕ) (rank : Rank) (n : ℕ) : Type 0 where
  pub within : n ≤ length keys
  pub before : (i : ℕ) → i < n → RankLt (rank_at by s keys i) rank
  pub after : (i : ℕ) → n ≤ i → i < length keys → RankLe rank (rank_at by s keys i)

-- this rank is among those of the keys
pub record HasRank (by : By) (s : Slab Entry) (keys : List ℕ) (rank : Rank) : Type 0 where
  pub index : ℕ
  pub within : index < length keys
  pub has : rank_at by s keys index ≡ rank

-- no entry at these keys has the place of that one
pub record IsApart (s : Slab Entry) (keys : List ℕ) (key : ℕ) : Type 0 where
  pub each : (i : ℕ) → i < length keys → (entry_of s (slice_index keys i)).file ≡ (entry_of s key).file →
      (entry_of s (slice_index keys i)).at ≢ (entry_of s key).at

abbrev pub one_if : (key k : ℕ) → ℕ
one_if key k = if k == key then 1 else 0

-- the number of times that a key is in a list
abbrev pub times : (key : ℕ) → List ℕ → ℕ
times key keys = sum_by (one_if key) keys

pub record HaveSameKeys (a b : List ℕ) : Type 0 where
  pub each : (key : ℕ) → times key a ≡ times key b

-- the key of an entry of this rank is among the keys
pub record Finds (by : By) (s : Slab Entry) (keys : List ℕ) (rank : Rank) (key : ℕ) : Type 0 where
  pub index : ℕ
  pub within : index < length keys
  pub is : slice_index keys index ≡ key
  pub has : rank_at by s keys index ≡ rank

-- a key was inserted in the place of its entry's rank
pub record Adds (by : By) (s : Slab Entry) (key : ℕ) (old new : List ℕ) : Type 0 where
  pub index : ℕ
  pub place : IsPlace by s old (rank_by by (entry_of s key)) index
  pub keys : new ≡ insert old index key

-- the key of an entry of this rank was removed
pub record Takes (by : By) (s : Slab Entry) (rank : Rank) (key : ℕ) (old new : List ℕ) : Type 0 where
  pub index : ℕ
  pub within : index < length old
  pub is : slice_index old index ≡ key
  pub has : rank_at by s old index ≡ rank
  pub keys : new ≡ remove old index

-- The entries of an order are in a slab. Its keys are in two lists, one in the order of file and place, the other in
-- that of height, file and place.
pub record IsIndexed (s : Slab Entry) (by_place by_height : List ℕ) : Type 0 where
  pub live : AreLive s by_place
  pub places : IsRising Place s by_place
  pub heights : IsRising Height s by_height
  pub same : HaveSameKeys by_place by_height
  pub sized : (i : ℕ) → i < length by_place → 0 < (entry_of s (slice_index by_place i)).size

-- The entries at the first n of these keys are lower by `low`. All other entries and the room are unchanged.
pub record Lowers (low : ℕ) (keys : List ℕ) (n : ℕ) (old new : Slab Entry) : Type 0 where
  pub done : (i : ℕ) → i < n → i < length keys →
      entry_of new (slice_index keys i) ≡ lowered_by low (entry_of old (slice_index keys i))
  pub rest : (i : ℕ) → n ≤ i → i < length keys →
      entry_of new (slice_index keys i) ≡ entry_of old (slice_index keys i)
  pub live : AreLive new keys
  pub len : slab_len new ≡ slab_len old
  pub capacity : new.capacity ≡ old.capacity

-- The entry at a key was set, and the room is unchanged.
pub record SetsEntry (old new : Slab Entry) (key : ℕ) (entry : Entry) : Type 0 where
  pub updates : Updates old new key (Some entry)
  pub len : slab_len new ≡ slab_len old
  pub capacity : new.capacity ≡ old.capacity

-- The height of the entry at a key was set. Its other fields and the room are unchanged.
abbrev pub SetsHeight : (old new : Slab Entry) → (key height : ℕ) → Type 0
SetsHeight old new key height = SetsEntry old new key (record (entry_of old key) { height = height })

-- Keys in a ring, as an index has them.

abbrev pub Keys : Type 0
Keys = VecDeque ℕ Global

-- a live key may be inserted, in reserved room
pub record MayAdd (s : Slab Entry) (key : ℕ) (keys : Keys) : Type 0 where
  pub there : ContainsKey s key
  pub room : deque_len keys < deque_capacity keys

-- a key was inserted, in its place
pub record AddsKey (by : By) (s : Slab Entry) (key : ℕ) (old new : Keys) : Type 0 where
  pub adds : Adds by s key old.items new.items
  pub len : deque_len new ≡ deque_len old + 1
  pub capacity : deque_capacity old ≤ deque_capacity new

-- the key whose entry has a rank was removed
pub record TakesKey (by : By) (s : Slab Entry) (rank : Rank) (key : ℕ) (old new : Keys)
    : Type 0 where
  pub takes : Takes by s rank key old.items new.items
  pub len : deque_len new + 1 ≡ deque_len old
  pub capacity : deque_capacity new ≡ deque_capacity old

-- no keys, and room for `count`
pub record HasRoomAlone (count : ℕ) (keys : Keys) : Type 0 where
  pub empty : keys.items ≡ []
  pub none : deque_len keys ≡ 0
  pub room : count ≤ deque_capacity keys

-- all of these keys were inserted, in the order of height
pub record SortsAll (s : Slab Entry) (keys : List ℕ) (old new : Keys) : Type 0 where
  pub rising : IsRising Height s new.items
  pub same : HaveSameKeys keys new.items
  pub len : deque_len new ≡ length keys
  pub capacity : deque_capacity old ≤ deque_capacity new

-- The keys are unchanged, and there is no less room; on success there is room for n more keys.
pub record ReservesKeys {E : Type 0} (count : ℕ) (old new : Keys) (r : Result (Unit {0}) E)
    : Type 0 where
  pub room : OnOk r (deque_len new + count ≤ deque_capacity new)
  pub items : new.items ≡ old.items
  pub len : deque_len new ≡ deque_len old
  pub capacity : deque_capacity old ≤ deque_capacity new

-- The entries are unchanged, and there is no less room; on success there is room for n more entries.
pub record ReservesEntries {E : Type 0} (count : ℕ) (old new : Slab Entry)
    (r : Result (Unit {0}) E) : Type 0 where
  pub room : OnOk r (HasRoomFor new count)
  pub values : SameValues old new
  pub len : slab_len new ≡ slab_len old
  pub capacity : old.capacity ≤ new.capacity
