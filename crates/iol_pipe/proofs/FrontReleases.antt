-- Slices released from the front of a queue.
use Rattle.std.proofs.Common.{◌≡◌, ℕ, ◌+◌, ◌-◌, ◌<◌, ◌≤◌, List, [], ◌∷◌, ◌++◌, length, drop, slice_range, refl, sym, ap}
use Rattle.std.proofs.Common.{◌∙◌, arith}
use Rattle.std.proofs.Math.Seq.{drop-append-add}
use Rattle.std.proofs.lemmas.List.{drop-append-le}
use Rattle.iol_core.specs.declared.numbers.BufId.{BufId}
use Rattle.iol_hold.specs.StoreState.{Stored, IsInPool}
use Rattle.iol_hold.specs.Moves.{Covers, Moves}
use Rattle.iol_hold.specs.Places.{slice_places, places}
use Rattle.iol_hold.specs.Texts.{bufs_of, AllReadable}
use Rattle.iol_hold.specs.declared.slices.Slice.{Slice}
use Rattle.iol_hold.proofs.Counts.{tally-append, tally_none}
use Rattle.iol_hold.proofs.Moves.{stays_trans}
use Rattle.iol_hold.proofs.ReadSlices.{readable_first, readable_later, readable_stays}
use Rattle.iol_hold.proofs.SlicePlaces.{length-slice_places}
use Rattle.iol_pipe.proofs.Prefixes.{cut_rest}

-- the first slice is released, whole
pub drop_first : (x : Slice) (rest queue : List Slice) (n : ℕ) → queue ≡ x ∷ rest → x.len ≤ n
    → drop (n - x.len) (places rest) ≡ drop n (places queue)
drop_first x rest queue n e h =
    let long : length (slice_places x) + (n - x.len) ≡ n = omega (arith, length-slice_places x) in
    sym (drop-append-add (slice_places x) (places rest) (n - x.len))
    ∙ ap (λ k. drop k (slice_places x ++ places rest)) long
    ∙ ap (λ xs. drop n (places xs)) (sym e)

-- a part of the first slice is released, and b is its rest
pub drop_part : (x b : Slice) (rest queue new : List Slice) (n : ℕ) → queue ≡ x ∷ rest → new ≡ b ∷ rest → n < x.len
    → slice_places b ≡ slice_range (slice_places x) n x.len → places new ≡ drop n (places queue)
drop_part x b rest queue new n e f h cut =
    ap places f ∙ ap (λ t. t ++ places rest) (cut_rest x x b n refl cut)
    ∙ sym (drop-append-le n (slice_places x) (places rest) (omega (arith, length-slice_places x)))
    ∙ ap (λ xs. drop n (places xs)) (sym e)

-- one more hold is released: the first
pub moves_first : {a b c : Stored} {xs : List BufId} {y : BufId} (ys : List BufId) → Moves a b xs (y ∷ ys)
    → Moves b c (y ∷ []) [] → Moves a c xs ys
moves_first {y = y} ys m n = record {
  counts =
      record { each = λ b. omega (arith, tally-append b (y ∷ []) ys, tally_none b, m.counts.each b, n.counts.each b) };
  stays = stays_trans m.stays n.stays;
  still = λ h. n.still (m.still h);
  tidy = λ h. n.tidy (m.tidy h);
}

pub readable_rest : {s t : Stored} (x : Slice) (rest : List Slice) → AllReadable s (x ∷ rest)
    → Moves s t (x.hold.buf ∷ []) [] → Covers t (bufs_of rest) → IsInPool s x.hold.pool x.hold.buf × AllReadable t rest
readable_rest x rest h m c = ((readable_first x rest h).home, readable_stays rest m.stays c (readable_later x rest h))
