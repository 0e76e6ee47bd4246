-- Bytes of the store read into new buffers.
use Rattle.std.specs.Prelude.{◌≡◌, ℕ, ◌+◌, ◌<◌, ◌≤◌, ◌^◌, List, [], length, take, drop, min, Result, Ok, Err}
use Rattle.std.specs.Prelude.{IfErr, IfOk, OnErr, OnOk, IsFalse}
use Rattle.std.specs.List.{All, Contains}
use Rattle.iol_core.specs.Prelude.{WantOfRoomOrFault}
use Rattle.iol_core.specs.declared.numbers.BufId.{BufId}
use Rattle.iol_core.specs.declared.refusals.Refusal.{Refusal}
use Rattle.iol_core.specs.declared.refusals.Refusal.TheVariants.{Fault, NoRoom}
use Rattle.iol_arena.specs.Adds.{IsNew}
use Rattle.iol_arena.specs.Buffers.{Grows, bytes_in}
use Rattle.iol_arena.specs.State.{entry_at, kind_free, pages_for, with_bytes}
use Rattle.iol_arena.specs.Pages.{IsSameBut, MadeOn}
use Rattle.iol_arena.specs.Parts.{part_bytes, part_pages, part_room}
use Rattle.iol_back.specs.Disk.{Disk, IfHonest, Succeeds, content, last_failure}
use Rattle.iol_back.specs.Prelude.{raised}
use Rattle.iol_hold.specs.Fillings.{Fill, IsFilling, filling_lender, filling_part, filling_parts, filling_store}
use Rattle.iol_hold.specs.Moves.{Moves, SameLists}
use Rattle.iol_hold.specs.Pages.{KeepsPages}
use Rattle.iol_hold.specs.Room.{free_of, lowest_of}
use Rattle.iol_hold.specs.StoreState.{AllReclaimed, Buffer, Stored, held_bufs, with_arena}
use Rattle.iol_hold.specs.Texts.{IsFilled}
use Rattle.iol_hold.specs.PendingPages.{Fills}
use Rattle.iol_pool.specs.Pools.{pool_in}

-- reads were made, and the first that failed ended them
abbrev pub ReadCounts : {A E : Type 0} → (old new : Disk) → Result A E → Type 0
ReadCounts old new (Ok x) = Succeeds old new
ReadCounts old new (Err e) = new.failures ≡ raised old.failures

-- the store was read: its bytes do not change
pub record IsRead {A E : Type 0} (old new : Disk) (r : Result A E) : Type 0 where
  pub honest : new.honest ≡ old.honest
  pub slots : IfHonest old (new.slots ≡ old.slots)
  pub counts : ReadCounts old new r

-- The store was read into memory, which has these bytes then. If it did not fail there are at least n, and if it is
-- honest the first n are those of the file from `at` on.
pub record ReadsInto {A E : Type 0} (disk : Disk) (file at n : ℕ) (bytes : List ℕ) (r : Result A E) : Type 0 where
  pub whole : OnOk r (n ≤ length bytes)
  pub read : IfHonest disk (OnOk r (take n bytes ≡ take n (drop at (content disk.slots file))))
  pub inside : IfHonest disk (OnOk r (at + n ≤ length (content disk.slots file)))

-- memory of a filling was written, and the filling is still open
pub record WritesFilling (f g : Fill) : Type 0 where
  pub reserved : g.reserved ≡ f.reserved
  pub same_reference : filling_lender g ≡ filling_lender f
  pub filling : IsFilling g
  pub fills : Fills (filling_store f) (filling_store g) (filling_parts f)
  pub entries : (filling_store g).arena.entries ≡ (filling_store f).arena.entries

-- At most `left` bytes of a file were read into part i of a filling. If an honest store did not fail, they are those
-- of the file from `at` on.
pub record ReadsPart {E : Type 0} (f g : Fill) (i left : ℕ) (disk : Disk) (file at : ℕ) (r : Result ℕ E) : Type 0 where
  pub writes : WritesFilling f g
  pub written : List ℕ
  pub len : length written ≡ part_room (filling_part f i)
  pub there : filling_store g
      ≡ with_arena (filling_store f) (with_bytes (filling_store f).arena (filling_part f i).first written)
  pub was : length (part_bytes (filling_store f).arena (filling_part f i)) ≡ part_room (filling_part f i)
  pub count : IfOk r (λ n. n ≡ min left (part_room (filling_part f i)))
  pub read : IfHonest disk (IfOk r (λ n. take n written ≡ take n (drop at (content disk.slots file))))
  pub inside : IfHonest disk (IfOk r (λ n. at + n ≤ length (content disk.slots file)))

-- the parts of a filling are as long as n bytes need, which can be read from `at` on
pub record IsBegunFor (f : Fill) (at n : ℕ) : Type 0 where
  pub some : 0 < n
  pub fits : at + n < 2 ^ 32
  pub filling : IsFilling f
  pub long : length (part_pages (filling_parts f)) ≡ pages_for n

-- A call that reads n ranges of the store. It fails by a failure of the store, which is counted once, or before it
-- reads; if it had to read and did not fail, the store has not failed too often.
abbrev pub AskCounts : {A : Type 0} → (ranges : ℕ) → (old new : Disk) → Result A Refusal → Type 0
AskCounts ranges old new (Ok x) = (new.failures ≡ old.failures) × (0 < ranges → old.failures < last_failure)
AskCounts ranges old new (Err (Fault f)) = (new.failures ≡ raised old.failures) × (0 < ranges)
AskCounts ranges old new (Err x) = new.failures ≡ old.failures

pub record Asks {A : Type 0} (ranges : ℕ) (old new : Disk) (r : Result A Refusal) : Type 0 where
  pub honest : new.honest ≡ old.honest
  pub slots : IfHonest old (new.slots ≡ old.slots)
  pub counts : AskCounts ranges old new r

-- the lowest k free pages of a pool were filled: each generation was raised by one, buffers are on them, and all others
-- are unchanged
pub record PlacesPages (old new : Stored) (pool k : ℕ) : Type 0 where
  pub enough : k ≤ length (free_of old pool)
  pub pages : KeepsPages old new (take k (free_of old pool))
  pub filled : (q : ℕ) → Contains (take k (free_of old pool)) q → IsFalse (kind_free (entry_at new.arena q).kind)
  pub others : IsSameBut (take k (free_of old pool)) old.arena new.arena
  pub free : free_of new pool ≡ drop k (free_of old pool)
  pub pools : new.pools ≡ old.pools

-- some of the lowest free pages of a pool were filled, at most k, and the buffers made on them are released
pub record PlacesSome (old new : Stored) (pool most : ℕ) : Type 0 where
  pub count : ℕ
  pub few : count ≤ most
  pub pages : KeepsPages old new (take count (free_of old pool))

-- n bytes from `at` on may be loaded into a pool
pub record MayLoad (s : Stored) (pool at n : ℕ) : Type 0 where
  pub some : 0 < n
  pub fits : at + n < 2 ^ 32
  pub opened : IsFalse (pool_in s.pools pool).closed

-- these buffers were made on the lowest free pages of a pool, those that n bytes need
pub record PlacesBuffers (old new : Stored) (pool n : ℕ) (bufs : List BufId) : Type 0 where
  pub moves : Moves old new [] bufs
  pub made : All (IsNew old.arena new.arena) bufs
  pub made_on : MadeOn old.arena new.arena bufs (lowest_of old pool n)
  pub grows : Grows old.arena new.arena
  pub pages : PlacesPages old new pool (pages_for n)

-- n bytes of a file from `at` on were read into new buffers of a pool, which are held once
pub record LoadsHolds (old new : Stored) (pool n : ℕ) (disk : Disk) (file at : ℕ) (holds : List Buffer) : Type 0 where
  pub placed : PlacesBuffers old new pool n (held_bufs holds)
  pub filled : All (IsFilled new) holds
  pub pooled : All (λ (h : Buffer). h.pool ≡ pool) holds
  pub few : length holds ≤ pages_for n
  pub len : length (bytes_in new.arena (held_bufs holds)) ≡ n
  pub value : IfHonest disk (bytes_in new.arena (held_bufs holds) ≡ take n (drop at (content disk.slots file)))
  pub inside : IfHonest disk (at + n ≤ length (content disk.slots file))

-- n bytes of a file were read into a pool, or were not. The pools are unchanged, and again no closed pool keeps its
-- chunks if all of them are empty. After an error, for lack of room or memory or by a fault at the file, the
-- references are unchanged and pages were at most freed, and NoRoom means that fewer pages are free than n bytes
-- need.
pub record LoadsOrKeeps {A : Type 0} (pool n file : ℕ) (old new : Stored) (r : Result A Refusal) : Type 0 where
  pub none : OnErr r (Moves old new [] [])
  pub kept : OnErr r (KeepsPages old new [])
  pub pools : new.pools ≡ old.pools
  pub reclaims : AllReclaimed old → AllReclaimed new
  pub no_room : IfErr r (λ x. (p : ℕ) → x ≡ NoRoom p → length (free_of old pool) < pages_for n)
  pub late : IfErr r (WantOfRoomOrFault pool file)

-- Bytes are placed on n pages of a pool. After an error the references are unchanged, the placed bytes are released,
-- and NoRoom means that fewer pages are free.
pub record PlacesOrReleases {A : Type 0} (pool n : ℕ) (old new : Stored) (r : Result A Refusal) : Type 0 where
  pub none : OnErr r (Moves old new [] [])
  pub given_back : OnErr r (PlacesSome old new pool n)
  pub lists : SameLists old new
  pub reclaims : AllReclaimed old → AllReclaimed new
  pub no_room : IfErr r (λ x. (p : ℕ) → x ≡ NoRoom p → length (free_of old pool) < n)
