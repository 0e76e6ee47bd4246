-- A read of a file whose hits were shared: the conditions of the rest, and the effect of the whole read.
use Rattle.std.proofs.Common.{◌≡◌, ℕ, ◌+◌, ◌<◌, ◌≤◌, ◌^◌, true, List, [], ◌∷◌, ◌++◌, length, map, Result, IfOk, IfErr}
use Rattle.std.proofs.Common.{OnErr, refl, sym, ap, ◌∙◌, arith, subst, inl, inr}
use Rattle.std.specs.List.{All}
use Rattle.std.proofs.lemmas.List.Elements.{All-append}
use Rattle.std.proofs.lemmas.Result.{IfOk-weaker, on_err_weaker}
use Rattle.iol_core.specs.Meaning.{WantOfRoomOrFault}
use Rattle.iol_core.specs.NumberedLists.{is_numbered}
use Rattle.iol_core.specs.declared.limits.TheConstants.{MAX_FILE_BYTES}
use Rattle.iol_core.specs.declared.refusals.Refusal.{Refusal}
use Rattle.iol_arena.specs.State.{page_count}
use Rattle.iol_back.specs.Disk.{Disk, last_failure}
use Rattle.iol_extent.specs.Extents.{Extent}
use Rattle.iol_extent.specs.Spans.{IsGapSpan}
use Rattle.iol_extent.specs.declared.spans.Span.{Span}
use Rattle.iol_hold.specs.Moves.{Covers, pool_meant, tally}
use Rattle.iol_hold.specs.Places.{byte_len, places}
use Rattle.iol_hold.specs.Room.{pages_of}
use Rattle.iol_hold.specs.StoreState.{Stored}
use Rattle.iol_hold.specs.Texts.{AllReadable, IsThere, bufs_of}
use Rattle.iol_hold.specs.declared.slices.Slice.{Slice}
use Rattle.iol_hold.proofs.Counts.{tally-append, tally_none}
use Rattle.iol_hold.proofs.Moves.{shares_move}
use Rattle.iol_cache.specs.declared.files.CachedFile.{CachedFile}
use Rattle.iol_cache.specs.CacheState.{Cached, clean_held, extents_in, file_in, held, all_parts}
use Rattle.iol_cache.specs.Evictions.{Holding}
use Rattle.iol_cache.specs.Gaps.{gap_pages}
use Rattle.iol_cache.specs.ReadSteps.{Goes}
use Rattle.iol_cache.specs.PinnedPages.{pinned_beside}
use Rattle.iol_cache.specs.Ranges.{CompletesRange, FillsAfter, PinsRange}
use Rattle.iol_cache.specs.RangeReads.{CanFill, MayFill}
use Rattle.iol_cache.specs.ReadResults.{FillsPinned, NoRoomToRead, Range, ReadsFile, RefusesRead, RoomToRead}
use Rattle.iol_cache.specs.ReadResults.{ReportsRoom}
use Rattle.iol_cache.specs.SharedBytes.{CountsBelow, places_over}
use Rattle.iol_cache.specs.Sound.{IsSound}
use Rattle.iol_cache.specs.Weave.{IsCoveredBeside, len_beside, places_beside, places_read, slices_read, woven}
use Rattle.iol_cache.proofs.Extents.FileEntries.{numbered_bounds, numbered_yes}
use Rattle.iol_cache.proofs.Evictions.FreePages.{at_most}
use Rattle.iol_cache.proofs.RangeReads.LackOfPages.{has_hit, lacks_hit}
use Rattle.iol_cache.proofs.RangeReads.WholeRange.{laid_readable, tally_len}
use Rattle.iol_cache.proofs.RangeReads.RangeHolds.{asks_ok, extents_filled, ok_both, some_lacked, reports_more}
use Rattle.iol_cache.proofs.RangeReads.RangeHolds.{reported_late}
use Rattle.iol_cache.proofs.RangeReads.SharedBytes.{over_there, readable_of, readable_same, reclaims_shares}
use Rattle.iol_cache.proofs.Extents.Steps.{goes_cache, goes_store, goes_trans, numbered_same}
use Rattle.iol_cache.proofs.RangeReads.CoveredBytes.{tile_beside}
use Rattle.iol_cache.proofs.RangeReads.SliceCounts.{meeting_few, read_long, same_count, woven_few}
use Rattle.iol_cache.proofs.RangeReads.Weave.{beside_few, length-places_beside, still_covers, woven-beside}

beside_there : {s : Stored} (es : List Extent) (at to : ℕ) (gs : List Span) → IsCoveredBeside es at to gs
    → AllReadable s (all_parts es) → All (IsThere s) (places_beside es at to gs)
beside_there {s = s} es at to [] covered all = over_there {s = s} es at to covered all
beside_there {s = s} es at to (g ∷ gs) covered all =
    All-append (IsThere s) (places_over es at g.from) (places_beside es g.to to gs)
    (over_there {s = s} es at g.from covered.0 all) (beside_there {s = s} es g.to to gs covered.1 all)

-- A read of a file whose hits were shared, with its remaining gaps.
pub record HitsShared (f at n : ℕ) (d : Disk) (a b : Holding) (pins : List Slice) (gs : List Span) : Type 0 where
  pub range : Range d a.cache f at n
  pub sound : IsSound a.store a.cache
  pub there : is_numbered a.cache.files f ≡ true
  pub pinned : PinsRange f range.from range.to a b pins gs

module _ {f at n : ℕ} {d : Disk} {a b : Holding} {pins : List Slice} {gs : List Span}
    (h : HitsShared f at n d a b pins gs) where
  abbrev es : List Extent
  es = extents_in a.cache.files f

  abbrev from : ℕ
  from = h.range.from

  abbrev to : ℕ
  to = h.range.to

  -- the pages that are needed while the hits are held, and the pages of the pool
  abbrev wanted : ℕ
  wanted = pinned_beside b.store (clean_held b.cache.files) (file_in b.cache.files f).pool + gap_pages gs

  abbrev pages : ℕ
  pages = length (pages_of b.store (file_in b.cache.files f).pool)

  short : to ≤ MAX_FILE_BYTES
  short = omega (arith, h.range.stops, h.range.ends.short)

  extents_same : (g : ℕ) → extents_in b.cache.files g ≡ extents_in a.cache.files g
  extents_same g = ap (λ (fs : List CachedFile). extents_in fs g) h.pinned.counted.files ∙ h.pinned.rooms.extents g

  pub pool_same : (g : ℕ) → (file_in b.cache.files g).pool ≡ (file_in a.cache.files g).pool
  pool_same g = ap (λ (fs : List CachedFile). (file_in fs g).pool) h.pinned.counted.files ∙ h.pinned.rooms.pools g

  held_same : held b.cache.files ≡ held a.cache.files
  held_same = ap held h.pinned.counted.files ∙ h.pinned.rooms.held

  numbered_hit : is_numbered b.cache.files f ≡ true
  numbered_hit = ap (λ (fs : List CachedFile). is_numbered fs f) h.pinned.counted.files
      ∙ numbered_same a.cache h.pinned.reserved f h.pinned.rooms h.there

  -- The gaps can be filled.

  can_fill : CanFill b.cache f from to gs
  can_fill = record {
    file = numbered_hit;
    ordered = omega (arith, h.range.begins, h.range.stops);
    end = short;
    in_order = h.pinned.tile.gaps;
    gaps = subst (λ (l : List Extent). All (IsGapSpan l) gs) (sym (extents_same f)) h.pinned.tile.empty;
    room = h.pinned.space;
    entries = h.pinned.entries;
  }

  len_hit : byte_len pins ≡ len_beside from to gs
  len_hit = ap length h.pinned.lies ∙ length-places_beside es from to gs

  covers_hit : Covers b.store (held b.cache.files ++ bufs_of pins)
  covers_hit =
      record {
        each =
            λ y. omega (
              arith,
              h.sound.covered.each y,
              h.pinned.shares.counts.each y,
              tally_none y,
              tally-append y (held b.cache.files) (bufs_of pins),
              ap (tally y) held_same,
            );
      }

  pub readable_hit : AllReadable b.store pins
  readable_hit =
      let covered = tile_beside es from to h.pinned.hits gs h.pinned.tile in
      let all = laid_readable (file_in a.cache.files f).pool es (h.sound.files f).laid in
      readable_same a.store b.store pins h.pinned.shares.arena h.pinned.shares.pools
      (readable_of pins (places_beside es from to gs) h.pinned.lies (beside_there es from to gs covered all))

  pub may_fill : IsSound b.store b.cache → CountsBelow a.store (2 ^ 59) → MayFill f from to gs pins b
  may_fill sound few = record {
    sound = sound;
    range = can_fill;
    long = len_hit;
    held = covers_hit;
    readable = readable_hit;
    few =
        record {
          each =
              λ y. omega (
                arith,
                few.each y,
                h.pinned.shares.counts.each y,
                tally_none y,
                tally_len y pins,
                len_hit,
                beside_few from to gs h.pinned.tile.gaps,
                short,
              );
        };
  }

  pub goes_hit : Goes d [] (bufs_of pins) a b
  goes_hit =
      let m = h.pinned.shares in
      let mid : Holding = record { store = b.store; cache = a.cache } in
      let shared =
      goes_store d [] (bufs_of pins) a.store b.store a.cache h.sound (shares_move m)
      (still_covers h.sound.covered m) (ap (map pool_meant) m.pools) (reclaims_shares m) (ap page_count m.arena) in
      goes_trans d [] (bufs_of pins) (bufs_of pins) a mid b shared
      (goes_cache d (bufs_of pins) b.store a.cache b.cache (ap length h.pinned.counted.files ∙ h.pinned.rooms.files)
      pool_same extents_same held_same)

  -- the places of the range's bytes in the result
  lies_read : (c : Holding) (xs : List Slice) → CompletesRange f from to pins gs d b c xs
      → places xs ≡ places_read es (extents_in c.cache.files f) from to gs
  lies_read c xs (inl e) = ap places e.all ∙ h.pinned.lies ∙ ap (places_beside es from to) e.none
      ∙ sym (ap (places_read es (extents_in c.cache.files f) from to) e.none)
  lies_read c xs (inr filled) =
      let k = numbered_bounds b.cache.files f numbered_hit in
      let there_mid = numbered_yes filled.mid.cache.files f k.0 (omega (arith, k.1, filled.less.keeps.count)) in
      let new = filled.fills.extents.extents in
      let is : extents_in c.cache.files f ≡ new = ap (λ (e : Cached). extents_in e.files f) filled.cache
      ∙ extents_filled f from to filled.mid filled.full (places pins) gs d xs there_mid filled.fills in
      filled.fills.range.lies ∙ ap (λ ps. woven ps new from to gs) h.pinned.lies ∙ woven-beside es new from to gs
      ∙ ap (λ (l : List Extent). places_read es l from to gs) (sym is)

  -- into how many slices the range is divided
  parts_few : (c : Holding) (xs : List Slice) → CompletesRange f from to pins gs d b c xs
      → length xs ≤ length (slices_read es (extents_in c.cache.files f) from to gs) + length gs
  parts_few c xs (inl e) =
      omega (
        arith,
        ap length e.all,
        same_count pins _ h.pinned.parts,
        read_long es (extents_in c.cache.files f) from to gs,
      )
  parts_few c xs (inr filled) =
      let new = extents_in c.cache.files f in
      omega (
        arith,
        same_count xs _ filled.parts,
        woven_few pins new 0 from to gs,
        meeting_few 0 (0 + len_beside from to gs) pins,
        same_count pins _ h.pinned.parts,
        read_long es new from to gs,
      )

  -- The room, while the hits are held.
  pub room_hit : (r : Result (List Slice) Refusal) → ReportsRoom (wanted ≤ pages) (pages < wanted) r
      → ReportsRoom (RoomToRead f at n d a) (NoRoomToRead f at n d a) r
  room_hit r reported =
      reports_more _ _ (RoomToRead f at n d a) (NoRoomToRead f at n d a) r
      (λ k. record { range = h.range; room = has_hit f from to a b pins gs h.pinned k })
      (λ k. record { range = h.range; lacks = lacks_hit f from to a b pins gs h.pinned k }) reported

  -- Without gaps.

  pub reads_hit : gs ≡ [] → ReadsFile f at n d a b pins
  reads_hit none =
      let whole : CompletesRange f from to pins gs d b b pins = inl (record { none = none; all = refl; same = refl }) in
      record {
        range = h.range;
        reads = record {
          pins = pins;
          gaps = gs;
          hit = b;
          pinned = h.pinned;
          completed =
              whole;
          lies = lies_read b pins whole;
          parts = parts_few b pins whole;
          answers =
              λ some. absurd (omega (arith, some, ap length none));
        };
      }

  pub fits_hit : gs ≡ [] → wanted ≤ pages
  fits_hit none =
      omega (
        arith,
        ap gap_pages none,
        at_most b.store (clean_held b.cache.files) (pages_of b.store (file_in b.cache.files f).pool),
      )

  -- With gaps, which were filled, or were not.
  module _ {e : Disk} {c : Holding} {r : Result (List Slice) Refusal} (filled : FillsPinned f from to pins gs d e b c r)
    where
      pub reads_filled : IfOk r (ReadsFile f at n d a c)
      reads_filled =
          let fills = FillsAfter f from to pins gs d b c in
          let answers = λ (xs : List Slice). 0 < length gs → d.failures < last_failure in
          IfOk-weaker r (λ xs. fills xs × answers xs) (ReadsFile f at n d a c) (λ xs k. record {
            range = h.range;
            reads = record {
              pins = pins;
              gaps = gs;
              hit = b;
              pinned = h.pinned;
              completed = inr k.0;
              lies =
                  lies_read c xs (inr k.0);
              parts = parts_few c xs (inr k.0);
              answers = k.1;
            };
          }) (ok_both fills answers r filled.filled (asks_ok (length gs) d e r filled.asks.counts))

      pub refused_filled : IfErr r (RefusesRead f at n d a c)
      refused_filled = reported_late (length gs) d e (wanted ≤ pages) (pages < wanted) r (RefusesRead f at n d a c)
          filled.asks.counts filled.room (λ y faults roomy u. record {
            range = h.range;
            leaves = inr (record {
              pins = pins;
              gaps = gs;
              faults = faults;
              roomy = λ q is. some_lacked b.store (clean_held b.cache.files) (file_in b.cache.files f).pool gs
                  (roomy q is);
              hit = b;
              pinned = h.pinned;
              undone = u;
            });
          }) filled.undone

      pub goes_filled : IfOk r (λ xs. Goes d [] (bufs_of xs) a c)
      goes_filled = IfOk-weaker r (λ xs. Goes d (bufs_of pins) (bufs_of xs) b c) (λ xs. Goes d [] (bufs_of xs) a c)
          (λ xs k. goes_trans d [] (bufs_of pins) (bufs_of xs) a b c goes_hit k) filled.goes

      pub gone_filled : OnErr r (Goes d [] [] a c)
      gone_filled = on_err_weaker r (λ k. goes_trans d [] (bufs_of pins) [] a b c goes_hit k) filled.gone

      pub late_filled : IfErr r (WantOfRoomOrFault (file_in a.cache.files f).pool f)
      late_filled = subst (λ p. IfErr r (WantOfRoomOrFault p f)) (pool_same f) filled.late
