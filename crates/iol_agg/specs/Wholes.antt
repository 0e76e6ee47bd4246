-- Aggregates of whole buffers, and of new bytes.
use Rattle.std.specs.Prelude.{◌≡◌, ◌≤◌, ℕ, List, [], length, Result, Err, IfOk, IfErr, OnOk, OnErr, IsTrue}
use Rattle.std.specs.Prelude.{IsFalse}
use Rattle.std.specs.List.{All}
use Rattle.std.specs.Vec.{vec_capacity}
use Rattle.std.specs.declared.vec.Vec.{Vec}
use Rattle.iol_core.specs.Meaning.{WantOfRoom}
use Rattle.iol_core.specs.Text.{labelled}
use Rattle.iol_core.specs.declared.refusals.Refusal.{Refusal}
use Rattle.iol_core.specs.declared.refusals.Refusal.TheVariants.{NoRoom}
use Rattle.iol_arena.specs.Buffers.{Grows, bytes_in}
use Rattle.iol_arena.specs.Chunks.{free_pages}
use Rattle.iol_arena.specs.Pages.{IsSameBut, MadeOn}
use Rattle.iol_pool.specs.Pools.{pool_in}
use Rattle.iol_hold.specs.Moves.{Moves}
use Rattle.iol_hold.specs.Room.{has_room, lowest_of, others_of}
use Rattle.iol_hold.specs.StoreState.{Stored, Buffer, AllReclaimed, held_bufs}
use Rattle.iol_hold.specs.Texts.{AllReadable, IsFilled, bufs_of, text_of}
use Rattle.iol_hold.specs.declared.slices.Slice.{Slice}
use Rattle.iol_agg.specs.Parts.{whole_texts}

-- An empty list has room for a slice of each of these buffers, which are live, of their pools, and have bytes.
pub record MayAddWhole {Z : Type 0} (s : Stored) (xs : Vec Slice Z) (holds : List Buffer) : Type 0 where
  pub none : xs.items ≡ []
  pub filled : All (IsFilled s) holds
  pub room : length holds ≤ vec_capacity xs

-- the slices are these buffers, whole and in order
pub record AreWhole (s : Stored) (xs : List Slice) (holds : List Buffer) : Type 0 where
  pub text : text_of s xs ≡ whole_texts s holds
  pub readable : AllReadable s xs
  pub bufs : bufs_of xs ≡ held_bufs holds

-- An aggregate of these bytes was made, in new buffers on the lowest free pages of pool p, which have no other bytes.
-- If it was not, nothing changed: there was no room for them, or no memory.
pub record FillsAgg (s t : Stored) (p : ℕ) (bytes : List ℕ) (r : Result (List Slice) Refusal) : Type 0 where
  pub text : IfOk r (λ a. text_of t a ≡ labelled p bytes)
  pub readable : IfOk r (λ a. AllReadable t a)
  pub value : IfOk r (λ a. bytes_in t.arena (bufs_of a) ≡ bytes)
  pub moves : IfOk r (λ a. Moves s t [] (bufs_of a))
  pub made_on : IfOk r (λ a. MadeOn s.arena t.arena (bufs_of a) (lowest_of s p (length bytes)))
  pub others : OnOk r (IsSameBut (lowest_of s p (length bytes)) s.arena t.arena)
  pub grows : OnOk r (Grows s.arena t.arena)
  pub reclaims : AllReclaimed s → AllReclaimed t
  pub pools : t.pools ≡ s.pools
  pub lowest : OnOk r (free_pages t.arena (pool_in s.pools p).chunks ≡ others_of s p (length bytes))
  pub room : OnOk r (IsTrue (has_room s p (length bytes)))
  pub no_room : (q : ℕ) → r ≡ Err (NoRoom q) → IsFalse (has_room s p (length bytes))
  pub late : IfErr r (WantOfRoom p)
  pub err : OnErr r (t ≡ s)
