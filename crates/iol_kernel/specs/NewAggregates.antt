-- A domain gets an aggregate: of new bytes, of bytes that are in memory already, or of the front of a queue.
use Rattle.std.specs.Prelude.{◌≡◌, ℕ, ◌++◌, List, [], take, drop, take_while}
use Rattle.iol_core.specs.Text.{Text}
use Rattle.iol_core.specs.State.{Domain}
use Rattle.iol_arena.specs.Pages.{MadeOn}
use Rattle.iol_hold.specs.Pages.{KeepsPages}
use Rattle.iol_hold.specs.StoreState.{Stored, AllReclaimed}
use Rattle.iol_hold.specs.Moves.{Moves, Shares}
use Rattle.iol_hold.specs.Places.{Place, places, byte_len}
use Rattle.iol_hold.specs.Texts.{text_of, bufs_of, AllReadable}
use Rattle.iol_hold.specs.declared.slices.Slice.{Slice}
use Rattle.iol_pipe.specs.Queue.{may_see}
use Rattle.iol_desc.specs.Tables.{with_agg_in}

-- xs with ys in place of the elements from..to
abbrev pub replaced : {A : Type 0} → List A → (from to : ℕ) → List A → List A
replaced xs from to ys = take from xs ++ ys ++ drop to xs

-- a domain got an aggregate of the bytes at these places, whose buffers have one more reference per slice
pub record AddsShared (s t : Stored) (old new : List (Domain (List Slice))) (d : ℕ) (bytes : List Place) : Type 0 where
  pub slices : List Slice
  pub is_there : places slices ≡ bytes
  pub shares : Shares s t [] (bufs_of slices)
  pub added : new ≡ with_agg_in old d slices

-- a domain got an aggregate of this text, in new buffers that were made on these pages
pub record AddsText (s t : Stored) (old new : List (Domain (List Slice))) (d : ℕ) (text : Text) (placed : List ℕ) :
    Type 0 where
  pub slices : List Slice
  pub is_text : text_of t slices ≡ text
  pub readable : AllReadable t slices
  pub moves : Moves s t [] (bufs_of slices)
  pub made_on : MadeOn s.arena t.arena (bufs_of slices) placed
  pub pages : KeepsPages s t placed
  pub reclaims : AllReclaimed s → AllReclaimed t
  pub pools : t.pools ≡ s.pools
  pub added : new ≡ with_agg_in old d slices

-- a domain got the longest prefix of a queue, of at most n bytes, whose pools all name it
pub record TakesFront (s t : Stored) (queue rest : List Slice) (old new : List (Domain (List Slice))) (d n : ℕ) :
    Type 0 where
  pub slices : List Slice
  pub given : places slices ≡ take_while (may_see s.pools d) (take n (places queue))
  pub left : places rest ≡ drop (byte_len slices) (places queue)
  pub shares : Shares s t (bufs_of queue) (bufs_of slices ++ bufs_of rest)
  pub added : new ≡ with_agg_in old d slices
