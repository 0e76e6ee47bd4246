-- Fillings: new buffers of a store before they are published.
use Rattle.std.specs.Prelude.{[], ◌≡◌, ℕ, ◌/◌, ◌<◌, ◌≤◌, List, Result, Err, IfOk, IfErr, OnOk, length}
use Rattle.std.specs.Prelude.{slice_index_or, flat_map, IsTrue, IsFalse}
use Rattle.std.specs.Borrow.{RestsIfErr, Lends, MutBor, Fml, GName, u8, Array}
use Rattle.std.specs.List.{All, Contains}
use mir.Syntax.{named}
use Rattle.iol_core.specs.Meaning.{WantOfRoom}
use Rattle.iol_core.specs.declared.limits.TheConstants.{CHUNK_PAGES}
use Rattle.iol_core.specs.declared.refusals.Refusal.{Refusal}
use Rattle.iol_core.specs.declared.refusals.Refusal.TheVariants.{NoRoom}
use Rattle.iol_arena.specs.State.{pages_for, with_bytes}
use Rattle.iol_arena.specs.Chunks.{free_pages}
use Rattle.iol_arena.specs.Pages.{IsSameBut}
use Rattle.iol_arena.specs.Parts.{MayCopy, no_part, part_bytes, part_pages}
use Rattle.iol_arena.specs.Fillings.{IsReserved, IsZero}
use Rattle.iol_arena.specs.declared.pages.Part.{Part}
use Rattle.iol_pool.specs.Pools.{pool_in}
use Rattle.iol_hold.specs.Room.{free_of, has_room, lowest_of, others_of}
use Rattle.iol_hold.specs.StoreState.{Stored, Buffer, with_arena}
use Rattle.iol_hold.specs.PendingPages.{Fills, Reserves}
use Rattle.iol_hold.specs.PageWrites.{Copies}
use Rattle.iol_hold.specs.contracts.store.Store.{the_row}
use Rattle.iol_hold.specs.declared.filling.Filling.{Filling}
use Rattle.iol_hold.specs.declared.parts.Reserved.{Reserved}
use Rattle.iol_hold.specs.contracts.parts.Reserved as reserved
use Rattle.iol_hold.specs.contracts.filling.Filling as filling

-- the reserved parts are pending, disjoint and in the pool's chunks, and there is room for the identities of their
-- buffers
pub record IsHeld (s : Stored) (r : Reserved) : Type 0 where
  pub pages : IsReserved s.arena r.reservation
  pub inside : (q : ℕ) → Contains (part_pages r.reservation.parts.items) q
      → Contains (pool_in s.pools r.pool).chunks (q / CHUNK_PAGES)

-- The lowest free pages of pool p that n bytes need are reserved, and their memory is zero.
pub record ReservesZeroed (s t : Stored) (p n : ℕ) (r : Reserved) : Type 0 where
  pub held : IsHeld t r
  pub zeroed : All (IsZero t.arena) r.reservation.parts.items
  pub reserves : Reserves s t p n r.reservation
  pub pool : r.pool ≡ p

-- the type of `Filling<'_>` in contracts
abbrev pub Fill : Type 0
Fill = Filling Reserved

-- the current store of a filling
abbrev pub filling_store : Fill → Stored
filling_store f = f.store.now

-- the ghost name of a filling's reference to the store
abbrev pub filling_lender : Fill → GName
filling_lender f = f.store.ghost_name

abbrev pub filling_pool : Fill → ℕ
filling_pool f = f.reserved.pool

-- the runs of pages that a filling fills
abbrev pub filling_parts : Fill → List Part
filling_parts f = f.reserved.reservation.parts.items

abbrev pub filling_part : Fill → ℕ → Part
filling_part f i = slice_index_or (filling_parts f) i no_part

-- the memory of a filling, part by part
abbrev pub filling_bytes : Fill → List ℕ
filling_bytes f = flat_map (part_bytes (filling_store f).arena) (filling_parts f)

-- the parts of a filling are pending, disjoint and in its pool's chunks, and it has room for the identities of their
-- buffers, and none yet
abbrev pub IsFilling : Fill → Type 0
IsFilling f = IsHeld (filling_store f) f.reserved

-- the memory of a filling is zero
abbrev pub IsZeroed : Fill → Type 0
IsZeroed f = All (IsZero (filling_store f).arena) (filling_parts f)

-- A filling was begun, on the lowest free pages of pool p for n bytes, all zeros: no buffer was made or freed, no other
-- page changed, and it borrows the reference of this name. `NoRoom` is returned only if the pool has no room for n
-- bytes; the only other error is `Memory`.
pub record BeginsFilling (old : Stored) (lender : GName) (p n : ℕ) (r : Result Fill Refusal) : Type 0 where
  pub filling : IfOk r IsFilling
  pub zeroed : IfOk r IsZeroed
  pub some : IfOk r (λ f. 0 < length (filling_parts f))
  pub pages : IfOk r (λ f. part_pages (filling_parts f) ≡ lowest_of old p n)
  pub free : IfOk r (λ f. free_pages (filling_store f).arena (pool_in old.pools p).chunks ≡ others_of old p n)
  pub fills : IfOk r (λ f. Fills old (filling_store f) (filling_parts f))
  pub others : IfOk r (λ f. IsSameBut (part_pages (filling_parts f)) old.arena (filling_store f).arena)
  pub pool : IfOk r (λ f. filling_pool f ≡ p)
  pub same_reference : IfOk r (λ f. filling_lender f ≡ lender)
  pub room : OnOk r (IsTrue (has_room old p n))
  pub enough : OnOk r (pages_for n ≤ length (free_of old p))
  pub no_room : (q : ℕ) → r ≡ Err (NoRoom q) → IsFalse (has_room old p n)
  pub late : IfErr r (WantOfRoom p)

-- a filling has a part of this number, and its parts are pending
pub record HasPart (f : Fill) (i : ℕ) : Type 0 where
  pub within : i < length (filling_parts f)
  pub filling : IsFilling f

-- The bytes `from..to` of a live buffer may be copied to offset `at` of part i of a filling.
pub record MayCopyIn (f : Fill) (i at : ℕ) (h : Buffer) (from to : ℕ) : Type 0 where
  pub within : i < length (filling_parts f)
  pub filling : IsFilling f
  pub copies : MayCopy (filling_store f).arena (filling_part f i) at h.buf from to

-- The bytes `from..to` of a live buffer were copied to offset `at` of part i of the filling f, which became g, with the
-- same parts.
pub record CopiesIn (f g : Fill) (i at : ℕ) (h : Buffer) (from to : ℕ) : Type 0 where
  pub copies : Copies (filling_store f) (filling_store g) (filling_part f i) at h.buf from to
  pub parts : filling_parts g ≡ filling_parts f
  pub pool : filling_pool g ≡ filling_pool f
  pub filling : IsFilling g
  pub fills : Fills (filling_store f) (filling_store g) (filling_parts f)
  pub same_reference : filling_lender g ≡ filling_lender f

-- the filling f with this store
abbrev pub with_store : Fill → Stored → Fill
with_store f s = record f { store = record f.store { now = s } }

-- once the borrow r ends, the memory from page p on has the last bytes of r
abbrev pub LendsPart : MutBor Fill → ℕ → MutBor (List ℕ) → Fml
LendsPart f p r = Lends (filling.the_row (record { mir = named 1; lft = [] }) reserved.the_row) (Array u8 0) f r
    (λ w. with_store f.now (with_arena (filling_store f.now) (with_bytes (filling_store f.now).arena p w)))

-- if no filling is begun, the store is unchanged
abbrev pub rests_if_refused : {E : Type 0} → MutBor Stored → Result Fill E → Fml
rests_if_refused s r = RestsIfErr the_row s filling_lender r (λ n. n ≡ s.now)
