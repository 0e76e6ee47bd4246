-- Buffers that are made on pending pages.
use Rattle.std.specs.Prelude.{◌≡◌, ℕ, ◌≤◌, List, [], ◌∷◌, length, take, flat_map, Result, Err, IfOk, IfErr}
use Rattle.std.specs.Prelude.{OnOk, OnErr, IsTrue, IsFalse}
use Rattle.std.specs.List.{All, Contains}
use Rattle.smallvec.specs.SmallVec.{SmallVec}
use Rattle.iol_core.specs.Meaning.{WantOfRoom}
use Rattle.iol_core.specs.declared.limits.TheConstants.{MAX_AGGREGATE_BYTES}
use Rattle.iol_core.specs.declared.numbers.BufId.{BufId}
use Rattle.iol_core.specs.declared.refusals.Refusal.{Refusal}
use Rattle.iol_core.specs.declared.refusals.Refusal.TheVariants.{NoRoom}
use Rattle.iol_arena.specs.Prelude.{Adds, AreReserved, AreUsable, Grows, IsNew, IsSameAround, IsSameBut, IsUnraised}
use Rattle.iol_arena.specs.Prelude.{MadeOn, Raises, State, begun_on, bytes_in, free_pages, len_of, needed_pages}
use Rattle.iol_arena.specs.Prelude.{pages_for, part_bytes, part_pages, spare_pages, usable}
use Rattle.iol_arena.specs.declared.pages.Part.{Part}
use Rattle.iol_pool.specs.Pools.{pool_in}
use Rattle.iol_hold.specs.Moves.{Moves}
use Rattle.iol_hold.specs.Room.{has_room, lowest_of, others_of}
use Rattle.iol_hold.specs.StoreState.{Stored, Buffer, AllReclaimed, IsTidy, held_bufs}
use Rattle.iol_hold.specs.Texts.{IsFilled}
use Rattle.iol_hold.specs.PendingPages.{FreesNone, Publishes, all_held}
use Rattle.iol_hold.specs.declared.parts.Reserved.{Reserved}

-- A buffer of these bytes was made on all pages of the part. It is held once.
pub record FillsPart (s t : Stored) (p : Part) (bytes : List ℕ) (b : BufId) : Type 0 where
  pub adds : Adds s.arena t.arena (b ∷ []) bytes
  pub begun : b ≡ begun_on s.arena p
  pub whole : pages_for (len_of t.arena b) ≡ p.count
  pub raises : Raises s.arena t.arena (part_pages (p ∷ []))
  pub around : IsSameAround p s.arena t.arena
  pub pools : t.pools ≡ s.pools
  pub counts : t.counts ≡ all_held s.counts (b ∷ [])

-- n bytes may be filled into parts: these are pending and disjoint, all their pages are needed, and an empty list has
-- room for their buffers.
pub record MayFillParts (s : State) (ps : List Part) (bufs : SmallVec BufId) (n : ℕ) : Type 0 where
  pub reserved : AreReserved s ps bufs
  pub pages : length (part_pages ps) ≡ pages_for n
  pub small : n ≤ MAX_AGGREGATE_BYTES

-- Buffers of these bytes were made on all pages of the parts, in order. Each is held once.
pub record FillsParts (s t : Stored) (ps : List Part) (bytes : List ℕ) (bufs : List BufId) : Type 0 where
  pub adds : Adds s.arena t.arena bufs bytes
  pub places : All (λ b. Contains (part_pages ps) b.page) bufs
  pub few : length bufs ≤ pages_for (length bytes)
  pub free : (q : ℕ) → usable t.arena q ≡ usable s.arena q
  pub publishes : Publishes s t ps bufs
  pub tidy : IsTidy t
  pub made_on : MadeOn s.arena t.arena bufs (part_pages ps)
  pub others : IsSameBut (part_pages ps) s.arena t.arena

-- Bytes, at most 2^24, were filled into new buffers on the lowest free pages of pool p. If they were not, nothing
-- changed: there was no room for them, or no memory.
pub record FillsHolds (s t : Stored) (p : ℕ) (bytes : List ℕ) (r : Result (List Buffer) Refusal) : Type 0 where
  pub moves : IfOk r (λ holds. Moves s t [] (held_bufs holds))
  pub made : IfOk r (λ holds. All (IsNew s.arena t.arena) (held_bufs holds))
  pub value : IfOk r (λ holds. bytes_in t.arena (held_bufs holds) ≡ bytes)
  pub filled : IfOk r (λ holds. All (IsFilled t) holds)
  pub made_on : IfOk r (λ holds. MadeOn s.arena t.arena (held_bufs holds) (lowest_of s p (length bytes)))
  pub others : OnOk r (IsSameBut (lowest_of s p (length bytes)) s.arena t.arena)
  pub reclaims : AllReclaimed s → AllReclaimed t
  pub pool : IfOk r (λ holds. All (λ h. h.pool ≡ p) holds)
  pub few : IfOk r (λ holds. length holds ≤ pages_for (length bytes))
  pub small : OnOk r (length bytes ≤ MAX_AGGREGATE_BYTES)
  pub grows : OnOk r (Grows s.arena t.arena)
  pub lowest : OnOk r (free_pages t.arena (pool_in s.pools p).chunks ≡ others_of s p (length bytes))
  pub pools : t.pools ≡ s.pools
  pub tidy : IsTidy t
  pub room : OnOk r (IsTrue (has_room s p (length bytes)))
  pub no_room : (q : ℕ) → r ≡ Err (NoRoom q) → IsFalse (has_room s p (length bytes))
  pub late : IfErr r (WantOfRoom p)
  pub err : OnErr r (t ≡ s)

-- the parts that are reserved
abbrev pub reserved_parts : Reserved → List Part
reserved_parts r = r.reservation.parts.items

-- Buffers of the pool were made of the first n bytes of the reserved parts. Each is held once, and pages that got no
-- byte are free again, unraised.
pub record PublishesFirst (s t : Stored) (r : Reserved) (n : ℕ) (holds : List Buffer) : Type 0 where
  pub publishes : Publishes s t (reserved_parts r) (held_bufs holds)
  pub made : All (IsNew s.arena t.arena) (held_bufs holds)
  pub value : bytes_in t.arena (held_bufs holds) ≡ take n (flat_map (part_bytes s.arena) (reserved_parts r))
  pub filled : All (IsFilled t) holds
  pub pool : All (λ h. h.pool ≡ r.pool) holds
  pub few : length holds ≤ length (reserved_parts r)
  pub made_on : MadeOn s.arena t.arena (held_bufs holds) (needed_pages (reserved_parts r) n)
  pub others : IsSameBut (part_pages (reserved_parts r)) s.arena t.arena
  pub returned : AreUsable t.arena (spare_pages (reserved_parts r) n)
  pub free : FreesNone s.arena t.arena (reserved_parts r) n
  pub tidy : IsTidy t

-- No buffer was made on the parts: their pages are free again, unraised.
pub record Abandons (s t : Stored) (ps : List Part) : Type 0 where
  pub publishes : Publishes s t ps []
  pub tidy : IsTidy t
  pub unraised : IsUnraised s.arena t.arena
  pub others : IsSameBut (part_pages ps) s.arena t.arena
  pub returned : AreUsable t.arena (part_pages ps)
