-- A range whose gaps were read.
use Rattle.std.proofs.Common.{inl, inr, ◌≡◌, ℕ, ◌+◌, ◌<◌, ◌≤◌, ◌^◌, ◌++◌, List, [], ◌∷◌, length, IsSome, refl, sym, ap}
use Rattle.std.proofs.Common.{◌∙◌, arith, subst, length-append}
use Rattle.std.specs.Prelude.{take, drop}
use Rattle.std.specs.List.{All, AllZip, AllByRecursion}
use Rattle.iol_core.specs.declared.numbers.BufId.{BufId}
use Rattle.iol_back.specs.Disk.{Disk}
use Rattle.iol_hold.specs.Moves.{tally, Covers}
use Rattle.iol_hold.specs.Places.{byte_len, places}
use Rattle.iol_hold.specs.StoreState.{Stored}
use Rattle.iol_hold.specs.Texts.{bufs_of, AllReadable}
use Rattle.iol_hold.specs.declared.slices.Slice.{Slice}
use Rattle.iol_hold.proofs.Counts.{tally-append, tally_none, same_few}
use Rattle.std.proofs.lemmas.List.{take_at, drop_at}
use Rattle.std.proofs.lemmas.List.Elements.{All-nil, All-cons}
use Rattle.iol_hold.proofs.ReadSlices.{readable_none, readable_joined, readable_stays, readable_taken, readable_rest}
use Rattle.iol_hold.proofs.SlicePlaces.{byte_len-cons, places-append}
use Rattle.iol_extent.specs.Extents.{Extent, ExtentMap, cover}
use Rattle.iol_extent.specs.Spans.{AreInOrder, IsGapSpan, LiesIn}
use Rattle.iol_extent.specs.declared.spans.Span.{Span}
use Rattle.iol_cache.specs.Gaps.{all_put, IsMade, FillsGaps}
use Rattle.iol_cache.specs.Evictions.{Holding}
use Rattle.iol_cache.specs.RangeReads.{MayFill, MayFillRange}
use Rattle.iol_cache.specs.Sound.{IsLaid, IsSound}
use Rattle.iol_cache.specs.SharedBytes.{AreHeld, CountsBelow, IsCoveredSpan}
use Rattle.iol_cache.proofs.Extents.FileEntries.{additive_tally, additive_bufs, sum-flat}
use Rattle.iol_cache.proofs.RangeReads.PutExtents.{made_fits, covered-made, sum-all_put, each-all_put}
use Rattle.iol_cache.proofs.Extents.HeldSlices.{covers_file}
use Rattle.iol_cache.specs.CacheState.{Cached, all_parts, extents_in, file_in, held}

pub tally_len : (b : BufId) (xs : List Slice) → tally b (bufs_of xs) ≤ byte_len xs
unfolding tally
tally_len b [] = omega arith
tally_len b (x ∷ xs) = omega (arith, same_few b x.hold.buf, tally_len b xs, byte_len-cons x xs, x.some)

pub made_len : (s t : Stored) (p low high : ℕ) (gs : List Span) (made : List Extent) → AreInOrder low high gs
    → AllZip (IsMade s t p) gs made → byte_len (all_parts made) + low ≤ high
made_len s t p low high [] [] order zip = omega (arith, order)
made_len s t p low high [] (e ∷ made) order zip = absurd zip
made_len s t p low high (g ∷ gs) [] order zip = absurd zip
made_len s t p low high (g ∷ gs) (e ∷ made) order zip =
    omega (
      arith,
      ap length (places-append e.parts (all_parts made)),
      length-append (places e.parts) (places (all_parts made)),
      made_len s t p g.to high gs made order.2 zip.1,
      zip.0.begins,
      zip.0.ends,
      order.0,
      order.1,
    )

-- a span is covered if each of its bytes is
each_covered : (es : List Extent) (gs : List Span) → ((i : ℕ) → LiesIn i gs → IsSome (cover es i))
    → All (IsCoveredSpan es) gs
each_covered es [] h = All-nil (IsCoveredSpan es)
each_covered es (g ∷ gs) h =
    All-cons (IsCoveredSpan es) g gs (record { each = λ i l u. h i (inl (l, u)) })
    (each_covered es gs (λ i lies. h i (inr lies)))

-- the new extents are held in addition to the old ones
pub tally-all_put : (b : BufId) (es made : List Extent)
    → tally b (bufs_of (all_parts (all_put es made))) ≡ tally b (bufs_of (all_parts es))
    + tally b (bufs_of (all_parts made))
tally-all_put b es made =
    let h = additive_bufs (additive_tally b) in
    let f : Extent → List Slice = λ (x : Extent). x.parts in
    omega (
      arith,
      sum-flat h f (all_put es made),
      sum-flat h f es,
      sum-flat h f made,
      sum-all_put (λ (x : Extent). tally b (bufs_of x.parts)) es made,
    )

module _ (s t : Stored) (old new : ExtentMap) (p file low high : ℕ) (gs : List Span) (d : Disk)
    (f : FillsGaps s t old new p gs d file) where
  pub range_held : Covers s (bufs_of (all_parts old.extents)) → Covers t (bufs_of (all_parts new.extents))
  range_held c =
      record {
        each =
            λ b. omega (
              arith,
              c.each b,
              f.moves.counts.each b,
              tally_none b,
              tally-all_put b old.extents f.made,
              ap (λ es. tally b (bufs_of (all_parts es))) f.extents,
            );
      }

  pub range_few : (high < 2 ^ 32) → AreInOrder low high gs → CountsBelow s (2 ^ 60) → CountsBelow t (2 ^ 61)
  range_few h order few =
      record {
        each =
            λ b. omega (
              arith,
              few.each b,
              f.moves.counts.each b,
              tally_none b,
              tally_len b (all_parts f.made),
              made_len s t p low high gs f.made order f.each.each,
              h,
            );
      }

  pub range_covered : AreInOrder low high gs → All (IsGapSpan old.extents) gs → All (IsCoveredSpan new.extents) gs
  range_covered order gaps =
      let fits = made_fits s t p low high old.extents gs f.made order gaps f.each.each in
      each_covered new.extents gs
      (λ i lies. subst (λ es. IsSome (cover es i)) (sym f.extents)
      (covered-made s t p old.extents gs f.made i fits f.each.each lies))

  pub range_still : (xs : List BufId) → Covers s xs → Covers t xs
  range_still xs c = record { each = λ b. omega (arith, c.each b, f.moves.counts.each b, tally_none b) }

-- Extents that can be read, and all their slices.

parts_split : {s : Stored} (xs ys : List Slice) → AllReadable s (xs ++ ys) → AllReadable s xs × AllReadable s ys
parts_split xs ys h =
    let e = places-append xs ys in (
      readable_taken xs (xs ++ ys) (length (places xs))
          (sym (ap (take (length (places xs))) e ∙ take_at (places xs) (places ys) (length (places xs)) refl)) h,
      readable_rest ys (xs ++ ys) (length (places xs))
          (sym (ap (drop (length (places xs))) e ∙ drop_at (places xs) (places ys) (length (places xs)) refl)) h,
    )

abbrev pub CanBeRead : Stored → Extent → Type 0
CanBeRead s e = AllReadable s e.parts

pub each_readable : {s : Stored} (es : List Extent) → AllReadable s (all_parts es) → AllByRecursion (CanBeRead s) es
each_readable [] h = tt
each_readable (x ∷ xs) h = (let b = parts_split x.parts (all_parts xs) h in (b.0, each_readable xs b.1))

pub readable_each : {s : Stored} (es : List Extent) → AllByRecursion (CanBeRead s) es → AllReadable s (all_parts es)
readable_each {s = s} [] h = readable_none s
readable_each (x ∷ xs) h = readable_joined h.0 (readable_each xs h.1)

pub laid_readable : {s : Stored} (p : ℕ) (es : List Extent) → AllByRecursion (IsLaid s p) es
    → AllReadable s (all_parts es)
laid_readable {s = s} p [] h = readable_none s
laid_readable p (x ∷ xs) h = readable_joined h.0.readable (laid_readable p xs h.1)

made_readable : (s t : Stored) (p : ℕ) (gs : List Span) (made : List Extent) → AllZip (IsMade s t p) gs made
    → AllByRecursion (CanBeRead t) made
made_readable s t p [] [] zip = tt
made_readable s t p [] (e ∷ made) zip = absurd zip
made_readable s t p (g ∷ gs) [] zip = absurd zip
made_readable s t p (g ∷ gs) (e ∷ made) zip = (zip.0.readable, made_readable s t p gs made zip.1)

pub made_laid : (s t : Stored) (p : ℕ) (gs : List Span) (made : List Extent) → AllZip (IsMade s t p) gs made
    → AllByRecursion (IsLaid t p) made
made_laid s t p [] [] zip = tt
made_laid s t p [] (e ∷ made) zip = absurd zip
made_laid s t p (g ∷ gs) [] zip = absurd zip
made_laid s t p (g ∷ gs) (e ∷ made) zip =
    (record { readable = zip.0.readable; home = zip.0.pooled.each }, made_laid s t p gs made zip.1)

pub range_readable : (s t : Stored) (old new : ExtentMap) (p file : ℕ) (gs : List Span) (d : Disk)
    → (f : FillsGaps s t old new p gs d file) → AllReadable s (all_parts old.extents)
    → Covers t (bufs_of (all_parts new.extents)) → AllReadable t (all_parts new.extents)
range_readable s t old new p file gs d f readable held =
    let was : Covers t (bufs_of (all_parts old.extents)) =
    record {
      each =
          λ b. omega (
            arith,
            held.each b,
            tally-all_put b old.extents f.made,
            ap (λ es. tally b (bufs_of (all_parts es))) f.extents,
          );
    } in
    let old' = readable_stays (all_parts old.extents) f.moves.stays was readable in
    subst (λ es. AllReadable t (all_parts es)) (sym f.extents)
    (readable_each (all_put old.extents f.made)
    (each-all_put (CanBeRead t) old.extents f.made (each_readable old.extents old')
    (made_readable s t p gs f.made f.each.each)))

-- the extents of a file of a sound cache
pub file_held : {s : Stored} {c : Cached} (f : ℕ) → IsSound s c → AreHeld s (extents_in c.files f)
file_held {c = c} f sound =
    record {
      apart = (sound.files f).apart;
      held = covers_file c.files f sound.covered;
      readable =
          laid_readable _ _ (sound.files f).laid;
    }

-- a file of a cache, a range of which may be filled
pub may_fill_range : {f from to : ℕ} {gs : List Span} {xs : List Slice} {h : Holding} → MayFill f from to gs xs h
    → MayFillRange h.store (file_in h.cache.files f) from to gs xs
may_fill_range {f = f} {xs = xs} {h = h} may =
    let at = file_held f may.sound in
    let r = may.range in
    record {
      gaps = record {
        apart = at.apart;
        in_order = r.in_order;
        each = r.gaps;
        room = r.room;
        opened =
            (may.sound.opened f r.file).is_open;
      };
      end = r.end;
      held = at.held;
      readable = at.readable;
      beside =
          record {
            long = may.long;
            held =
                record { each = λ b. omega (arith, may.held.each b, tally-append b (held h.cache.files) (bufs_of xs)) };
            readable = may.readable;
          };
      few = may.few;
    }
