-- Two queues that are released, one after the other.
use Rattle.std.proofs.Common.{List, [], ◌++◌, ◌∙◌, length, refl, sym, arith}
use Rattle.std.specs.List.{All}
use Rattle.std.proofs.lemmas.List.{take_at, drop_at}
use Rattle.std.proofs.lemmas.List.Elements.{All-take, All-drop, All-same}
use Rattle.iol_core.specs.declared.numbers.BufId.{BufId}
use Rattle.iol_hold.specs.StoreState.{Stored}
use Rattle.iol_hold.specs.Moves.{Covers, Moves}
use Rattle.iol_hold.specs.Places.{places}
use Rattle.iol_hold.specs.Releases.{Releases}
use Rattle.iol_hold.specs.Texts.{bufs_of, AllReadable, IsThere}
use Rattle.iol_hold.specs.declared.slices.Slice.{Slice}
use Rattle.iol_hold.proofs.Counts.{tally-append, tally_none}
use Rattle.iol_hold.proofs.Moves.{moves_trans}
use Rattle.iol_hold.proofs.ReadSlices.{readable_stays}
use Rattle.iol_hold.proofs.Releases.{frees_trans}
use Rattle.iol_hold.proofs.SlicePlaces.{places-append}
use Rattle.iol_sock.specs.Calls.{ReleasesBoth}

pub covers_front : {s : Stored} (xs ys : List BufId) → Covers s (xs ++ ys) → Covers s xs
covers_front xs ys c = record { each = λ b. omega (arith, c.each b, tally-append b xs ys) }

-- the first list is released
pub covers_rest : {s t : Stored} (xs ys : List BufId) → Covers s (xs ++ ys) → Moves s t xs [] → Covers t ys
covers_rest xs ys c m =
    record { each = λ b. omega (arith, c.each b, m.counts.each b, tally-append b xs ys, tally_none b) }

-- the other queue can still be read
pub readable_after : {s t : Stored} (xs ys : List Slice) → Covers s (bufs_of xs ++ bufs_of ys)
    → Moves s t (bufs_of xs) [] → AllReadable s (xs ++ ys) → AllReadable s xs × AllReadable t ys
readable_after {s} xs ys c m h =
    let front : AllReadable s xs =
    record {
      each =
          All-same (IsThere s) _ _ (sym (take_at (places xs) (places ys) _ refl))
          (All-take (IsThere s) (length (places xs)) (places xs ++ places ys) both);
    } in
    let back : AllReadable s ys =
    record {
      each =
          All-same (IsThere s) _ _ (sym (drop_at (places xs) (places ys) _ refl))
          (All-drop (IsThere s) (length (places xs)) (places xs ++ places ys) both);
    } in
    (front, readable_stays ys m.stays (covers_rest (bufs_of xs) (bufs_of ys) c m) back)
  where
    both : All (IsThere s) (places xs ++ places ys)
    both = All-same (IsThere s) _ _ (sym (places-append xs ys)) h.each

pub both_released : {s t u : Stored} (xs ys : List Slice) → Covers s (bufs_of xs ++ bufs_of ys) → Releases s t xs []
    → Releases t u ys [] → ReleasesBoth s u xs ys
both_released xs ys covered first second = record {
  moves = moves_trans first.moves second.moves;
  lists = second.lists ∙ first.lists;
  frees = frees_trans first.frees second.frees second.moves.counts;
  reclaims = λ readable all. let each = readable_after xs ys covered first.moves readable in
      second.reclaims each.1 (first.reclaims each.0 all);
}
