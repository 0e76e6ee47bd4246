-- Remembered sums, the most recently used first.
use Rattle.std.specs.Prelude.{◌≡◌, ℕ, ◌+◌, ◌-◌, ◌<◌, ◌≤◌, ◌⊎◌, Bool, ◌&&◌, if◌then◌else◌, Option, None, is_some}
use Rattle.std.specs.Prelude.{List, [], ◌∷◌, length, take, slice_range, ◌==◌}
use Rattle.std.specs.List.{All, IsDistinct}
use Rattle.std.specs.Map.{keys_of, lookup, remove_entry}
use Rattle.iol_core.specs.Checksum.{word_sum, folded}
use Rattle.iol_core.specs.declared.numbers.BufId.{BufId}
use Rattle.iol_arena.specs.State.{State, generation_at}
use Rattle.iol_arena.specs.Buffers.{IsLive, bytes_of}
use Rattle.iol_hold.specs.StoreState.{Stored}
use Rattle.iol_hold.specs.Texts.{slice_bytes}
use Rattle.iol_hold.specs.declared.slices.Slice.{Slice}
use Rattle.iol_sum.specs.declared.keys.Key.{Key}

-- the remembered sums with their keys, and the largest number of them
pub record Sums : Type 0 where
  pub entries : List (Key × ℕ)
  pub limit : ℕ

-- the key of a slice
abbrev pub key_of : Slice → Key
key_of x = record { page = x.hold.buf.page; generation = x.hold.buf.generation; from = x.from; len = x.len }

-- the buffer of a key
abbrev pub buf_of : Key → BufId
buf_of k = record { page = k.page; generation = k.generation }

abbrev pub same : (a b : Key) → Bool
same a b = a.page == b.page && (a.generation == b.generation && (a.from == b.from && a.len == b.len))

-- the sum that is remembered under a key, if there is one
abbrev pub sum_kept : Sums → Key → Option ℕ
sum_kept c k = lookup (same k) c.entries

-- the folded sum of the bytes of a key
abbrev pub sum_at : State → Key → ℕ
sum_at s k = folded (word_sum (slice_range (bytes_of s (buf_of k)) k.from (k.from + k.len)))

-- if the key's buffer is live, the sum is that of the key's bytes; and that buffer was published already
pub record IsRightSum (s : State) (e : Key × ℕ) : Type 0 where
  pub value : IsLive s (buf_of e.0) → e.1 ≡ sum_at s e.0
  pub published : e.0.generation ≤ generation_at s e.0.page

-- each remembered sum is right, the keys are distinct, and there are no more than the limit
pub record IsRight (s : State) (c : Sums) : Type 0 where
  pub each : All (IsRightSum s) c.entries
  pub distinct : IsDistinct same (keys_of c.entries)
  pub fits : length c.entries ≤ c.limit
  pub some : 0 < c.limit

-- the entries after the used one: all others; for a new key in a full list, without the last
abbrev pub others : Sums → Key → List (Key × ℕ)
others c k = if is_some (sum_kept c k) then remove_entry (same k) c.entries else take (c.limit - 1) c.entries

-- the sum was used: its key is the first
abbrev pub used : Sums → Key → (sum : ℕ) → Sums
used c k n = record { entries = (k, n) ∷ others c k; limit = c.limit }

-- The sum was used; or its key is new and nothing changed, for lack of memory. It is not stated that this occurs only
-- for lack of memory.
abbrev pub Uses : (old : Sums) → Key → (sum : ℕ) → (new : Sums) → Type 0
Uses old k n new = (new ≡ used old k n) ⊎ ((new ≡ old) × (sum_kept old k ≡ None))

-- the sums of the slices were used, in order
unfoldable pub UsesEach : Stored → (old : Sums) → List Slice → (new : Sums) → Type 0
UsesEach s old [] new = new ≡ old
UsesEach s old (x ∷ xs) new = (mid : Sums) × Uses old (key_of x) (folded (word_sum (slice_bytes s x))) mid
    × UsesEach s mid xs new
