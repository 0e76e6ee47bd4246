-- Parts of a range, put together.
use Rattle.std.proofs.Common.{◌≡◌, ℕ, ◌+◌, ◌-◌, ◌<◌, ◌≤◌, ◌++◌, ◌^◌, List, [], ◌∷◌, length, take, drop, sym, ap, ◌∙◌}
use Rattle.std.proofs.Common.{arith, append_assoc, length-append}
use Rattle.std.proofs.lemmas.List.{take_at, drop_at, append-nil}
use Rattle.iol_core.specs.declared.numbers.BufId.{BufId}
use Rattle.iol_hold.specs.Moves.{Shares, Covers}
use Rattle.iol_hold.specs.Places.{Place, places, byte_len}
use Rattle.iol_hold.specs.StoreState.{Stored}
use Rattle.iol_hold.specs.Texts.{bufs_of, AllReadable, IsThere}
use Rattle.std.proofs.lemmas.List.Elements.{All-take, All-drop}
use Rattle.std.specs.Prelude.{slice_range}
use Rattle.iol_hold.specs.declared.slices.Slice.{Slice}
use Rattle.iol_hold.proofs.Counts.{tally_none}
use Rattle.iol_extent.specs.Extents.{Extent}
use Rattle.iol_extent.specs.Spans.{AreInOrder}
use Rattle.iol_extent.specs.declared.spans.Span.{Span}
use Rattle.iol_cache.specs.SharedBytes.{CountsBelow, places_over}
use Rattle.iol_cache.specs.Weave.{LieBeside, MayAddPart, len_beside, places_beside, woven, places_read}
use Rattle.iol_cache.proofs.RangeReads.WholeRange.{tally_len}
use Rattle.iol_cache.proofs.RangeReads.SharedBytes.{length-places_over, readable_on, readable_places}

pub beside_few : (at to : ℕ) (gs : List Span) → AreInOrder at to gs → len_beside at to gs + at ≤ to
beside_few at to [] order = omega (arith, order)
beside_few at to (g ∷ gs) order = omega (arith, beside_few g.to to gs order.2, order.0, order.1)

shared_covers : {s t : Stored} {xs : List BufId} → Shares s t [] xs → Covers t xs
shared_covers m = record { each = λ b. omega (arith, m.counts.each b, tally_none b) }

pub still_covers : {s t : Stored} {xs ys : List BufId} → Covers s ys → Shares s t [] xs → Covers t ys
still_covers c m = record { each = λ b. omega (arith, c.each b, m.counts.each b, tally_none b) }

-- a part of the shared bytes outside the gaps may be added to the slices of the range so far
pub may_add_part : {s t : Stored} {from to : ℕ} {gaps : List Span} (xs ys : List Slice) (used next : ℕ)
    → LieBeside s from to gaps ys → Shares s t [] (bufs_of xs) → AllReadable s xs → CountsBelow s (2 ^ 61) → used ≤ next
    → next ≤ byte_len ys → byte_len xs + (next - used) < 2 ^ 32 → MayAddPart t xs ys used next
may_add_part xs ys used next beside m readable few ordered within small = record {
  ordered = ordered;
  within = within;
  held = still_covers beside.held m;
  readable = readable_on ys m beside.readable;
  own = shared_covers m;
  own_readable = readable_on xs m readable;
  few = record { each = λ b. omega (arith, m.counts.each b, tally_none b, few.each b, tally_len b xs, small) };
  small = small;
}

pub length-places_beside : (es : List Extent) (at to : ℕ) (gs : List Span)
    → length (places_beside es at to gs) ≡ len_beside at to gs
length-places_beside es at to [] = length-places_over es at to
length-places_beside es at to (g ∷ gs) =
    omega (
      arith,
      length-append (places_over es at g.from) (places_beside es g.to to gs),
      length-places_over es at g.from,
      length-places_beside es g.to to gs,
    )

-- the shared places outside the gaps, woven with those of the gaps, are the places of the read
pub woven-beside : (old new : List Extent) (at to : ℕ) (gs : List Span)
    → woven (places_beside old at to gs) new at to gs ≡ places_read old new at to gs
woven-beside old new at to [] = take_all (places_over old at to) (to - at) (length-places_over old at to)
  where
    take_all : (xs : List Place) (n : ℕ) → length xs ≡ n → take n xs ≡ xs
    take_all xs n is = ap (take n) (sym (append-nil xs)) ∙ take_at xs [] n is
woven-beside old new at to (g ∷ gs) =
    let here = places_over old at g.from in
    let rest = places_beside old g.to to gs in
    let n = g.from - at in
    let first : take n (here ++ rest) ≡ here = take_at here rest n (length-places_over old at g.from) in
    let later : drop n (here ++ rest) ≡ rest = drop_at here rest n (length-places_over old at g.from) in
    ap (λ l. l ++ places_over new g.from g.to ++ woven (drop n (here ++ rest)) new g.to to gs) first
    ∙ ap (λ l. here ++ places_over new g.from g.to ++ woven l new g.to to gs) later
    ∙ ap (λ l. here ++ places_over new g.from g.to ++ l) (woven-beside old new g.to to gs)

-- slices with a part of other readable slices are readable
pub readable_more : {s : Stored} (more xs ys : List Slice) (from to : ℕ)
    → places more ≡ places xs ++ slice_range (places ys) from to → AllReadable s xs → AllReadable s ys
    → AllReadable s more
readable_more {s = s} more xs ys from to e h k =
    readable_places more xs (slice_range (places ys) from to) e h
    (All-take (IsThere s) (to - from) (drop from (places ys)) (All-drop (IsThere s) from (places ys) k.each))

-- the places shared up to a gap, and then up to the next one
pub beside_more : (es : List Extent) (so_far more : List Place) (at to : ℕ) {gs rest : List Span} {g : Span}
    {all : List Place} → gs ≡ g ∷ rest → more ≡ so_far ++ places_over es at g.from
    → so_far ++ places_beside es at to gs ≡ all → more ++ places_beside es g.to to rest ≡ all
beside_more es so_far more at to {rest = rest} {g = g} next is whole =
    ap (λ l. l ++ places_beside es g.to to rest) is
    ∙ append_assoc so_far (places_over es at g.from) (places_beside es g.to to rest)
    ∙ sym (ap (λ l. so_far ++ places_beside es at to l) next) ∙ whole
