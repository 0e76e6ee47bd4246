-- A file whose gaps were read.
use Rattle.std.proofs.Common.{inl, inr, ◌≡◌, ℕ, ◌+◌, ◌≤◌, Bool, true, cond, List, [], ◌∷◌, ◌++◌, get_or, map, refl, sym}
use Rattle.std.proofs.Common.{ap, ◌∙◌, arith, subst}
use Rattle.std.specs.Prelude.{sum_by}
use Rattle.std.specs.List.{All, AllZip, AllByRecursion}
use Rattle.std.proofs.lemmas.Bool.{cases_eq}
use Rattle.std.proofs.lemmas.List.{append-nil}
use Rattle.std.proofs.lemmas.List.Elements.{All-nil, All-cons}
use Rattle.std.proofs.lemmas.List.Sums.{sum_by-cons}
use Rattle.iol_core.specs.NumberedLists.{is_numbered}
use Rattle.iol_core.specs.declared.limits.TheConstants.{MAX_FILE_BYTES}
use Rattle.iol_core.specs.declared.numbers.BufId.{BufId}
use Rattle.iol_arena.specs.State.{page_count}
use Rattle.iol_back.specs.Disk.{Disk, content}
use Rattle.iol_pool.specs.Pools.{pool_in}
use Rattle.iol_hold.specs.Moves.{tally, pool_meant, Covers, Stays, SameLists}
use Rattle.iol_hold.specs.Places.{Place}
use Rattle.iol_hold.specs.StoreState.{Stored, AllReclaimed}
use Rattle.iol_hold.specs.Texts.{bufs_of}
use Rattle.iol_hold.specs.declared.slices.Slice.{Slice}
use Rattle.iol_hold.proofs.Counts.{tally_none, tally-append}
use Rattle.iol_hold.proofs.Moves.{stays_trans, shares_move}
use Rattle.iol_extent.specs.Extents.{Extent, end_of, last_end, dirty_count}
use Rattle.iol_extent.specs.Spans.{AreInOrder, IsGapSpan}
use Rattle.iol_extent.specs.declared.spans.Span.{Span}
use Rattle.iol_cache.specs.declared.files.CachedFile.{CachedFile}
use Rattle.iol_cache.specs.Marks.{at_page}
use Rattle.iol_cache.specs.CacheState.{file_in, order_in, extents_in, all_parts, clean_in, clean_parts, held, clean_at}
use Rattle.iol_cache.specs.CacheState.{begins_clean}
use Rattle.iol_cache.specs.Contents.{byte_in, AreStored}
use Rattle.iol_cache.specs.Evictions.{Holding}
use Rattle.iol_cache.specs.Gaps as gaps
use Rattle.iol_cache.specs.Gaps.{all_put, IsMade}
use Rattle.iol_cache.specs.ReadSteps.{FillsFile, Goes}
use Rattle.iol_cache.specs.RangeReads.{all_entered, parts_of_spans}
use Rattle.iol_cache.specs.Replacement.{Reindexes}
use Rattle.iol_cache.specs.Sound.{IsLaid, IsSound}
use Rattle.iol_cache.specs.Writes.{Changes}
use Rattle.iol_cache.proofs.Extents.ChangedFile as changed
use Rattle.iol_cache.proofs.Extents.FileEntries.{IsAdditive, additive_page, additive_bufs, sum-flat}
use Rattle.iol_cache.proofs.Extents.StoreSteps.{sound_on}
use Rattle.iol_cache.proofs.Extents.FewerExtents.{laid_stays}
use Rattle.iol_cache.proofs.Evictions.Files.{StaysFile, file_stays, bytes_same}
use Rattle.iol_cache.proofs.Extents.HeldSlices.{covers_file}
use Rattle.iol_cache.proofs.RangeReads.TakenBack.{none_gaps}
use Rattle.iol_cache.proofs.RangeReads.PutExtents.{Fits, IsMirrored, made_fits, mirrored_is, all_byte, all_stored}
use Rattle.iol_cache.proofs.RangeReads.PutExtents.{all_len, last_end-all_put, sum-all_put, each-all_put, begins_made}
use Rattle.iol_cache.proofs.RangeReads.PutExtents.{zip_begins, made_clean, all_entries, all_entries-other}
use Rattle.iol_cache.proofs.RangeReads.WholeRange.{tally-all_put, made_laid}
use Rattle.iol_cache.proofs.Evictions.Ready.{dirty-all_put, entered_kept, entered_low}

-- Sums over the extents that were put in.

clean_sums : (h : List BufId → ℕ) (s t : Stored) (p : ℕ) (gs : List Span) (made : List Extent)
    → AllZip (IsMade s t p) gs made → sum_by (λ (e : Extent). h (bufs_of (clean_parts e))) made
    ≡ sum_by (λ (e : Extent). h (bufs_of e.parts)) made
clean_sums h s t p [] [] zip = refl
clean_sums h s t p [] (e ∷ made) zip = absurd zip
clean_sums h s t p (g ∷ gs) [] zip = absurd zip
clean_sums h s t p (g ∷ gs) (e ∷ made) zip =
    omega (
      arith,
      sum_by-cons (λ (x : Extent). h (bufs_of (clean_parts x))) e made,
      sum_by-cons (λ (x : Extent). h (bufs_of x.parts)) e made,
      clean_sums h s t p gs made zip.1,
      ap (λ (b : Bool). h (bufs_of (cond b [] e.parts))) zip.0.clean,
    )

clean_put : (h : List BufId → ℕ) → IsAdditive h → (s t : Stored) (p : ℕ) (gs : List Span) (es made : List Extent)
    → AllZip (IsMade s t p) gs made → h (bufs_of (clean_in (all_put es made))) ≡ h (bufs_of (all_parts made))
    + h (bufs_of (clean_in es))
clean_put h a s t p gs es made zip =
    omega (
      arith,
      sum-flat (additive_bufs a) clean_parts es,
      sum-flat (additive_bufs a) (λ (e : Extent). e.parts) made,
      sum-flat (additive_bufs a) clean_parts (all_put es made),
      sum-all_put (λ (e : Extent). h (bufs_of (clean_parts e))) es made,
      clean_sums h s t p gs made zip,
    )

ends_below : (s t : Stored) (p low high : ℕ) (gs : List Span) (made : List Extent) → AreInOrder low high gs
    → AllZip (IsMade s t p) gs made → All (λ (e : Extent). end_of e ≤ high) made
ends_below s t p low high [] [] order zip = All-nil (λ (e : Extent). end_of e ≤ high)
ends_below s t p low high [] (e ∷ made) order zip = absurd zip
ends_below s t p low high (g ∷ gs) [] order zip = absurd zip
ends_below s t p low high (g ∷ gs) (e ∷ made) order zip =
    All-cons (λ (x : Extent). end_of x ≤ high) e made (omega (arith, zip.0.ends, last high g.to gs order.2))
    (ends_below s t p g.to high gs made order.2 zip.1)
  where
    last : (high low : ℕ) (ss : List Span) → AreInOrder low high ss → low ≤ high
    last high low [] h = h
    last high low (s ∷ ss) h = omega (arith, last high s.to ss h.2, h.0, h.1)

-- The cache and the store after the file was completed.

module _ (old new : Holding) (f from to : ℕ) (beside : List Place) (gs : List Span) (disk : Disk) (xs : List Slice)
    (sound : IsSound old.store old.cache) (there : is_numbered old.cache.files f ≡ true) (order : AreInOrder from to gs)
    (are_gaps : All (IsGapSpan (extents_in old.cache.files f)) gs)
    (filled : FillsFile f from to beside gs disk old new xs) where
  abbrev es : List Extent
  es = extents_in old.cache.files f

  abbrev pool : ℕ
  pool = (file_in old.cache.files f).pool

  abbrev mid : Stored
  mid = filled.range.mid

  -- before the range is put together
  abbrev before : Holding
  before = record { store = mid; cache = new.cache }

  abbrev made : List Extent
  made = filled.range.fills.made

  zip : AllZip (IsMade old.store mid pool) gs made
  zip = filled.range.fills.each.each

  fits : Fits es made
  fits = made_fits old.store mid pool from to es gs made order are_gaps zip

  parts_are : parts_of_spans filled.extents.extents gs ≡ all_parts made
  parts_are = ap (λ l. parts_of_spans l gs) filled.range.fills.extents
      ∙ (begins_made es from to gs made order (none_gaps es from to gs (sound.files f).apart order are_gaps)
      (zip_begins old.store mid pool gs made zip)).0

  follows : Reindexes f es filled.extents.extents (order_in old.cache.orders pool)
      (all_entered (order_in old.cache.orders pool) f filled.extents.extents gs) old.cache.marks new.cache.marks
  follows =
      let r = order_in old.cache.orders pool in
      let now = filled.extents.extents in
      let is = filled.range.fills.extents in
      record {
        ranked =
            λ was. record {
              each =
                  λ b. omega (
                    arith,
                    all_entries r f now gs b,
                    was.each b,
                    ap (clean_at b) is,
                    sum-all_put (begins_clean b) es made,
                    made_clean old.store mid pool gs made b zip,
                  );
            };
        others = λ g b ne. all_entries-other r f g now gs b (λ e. ne (sym e));
        low = entered_low r f now gs;
        kept =
            omega (arith, entered_kept r f now gs, ap dirty_count is, dirty-all_put old.store mid pool es gs made zip);
        each =
            λ q. omega (
              arith,
              filled.marks.each q,
              ap (λ l. at_page q (bufs_of l)) parts_are,
              ap (λ l. at_page q (bufs_of (clean_in l))) is,
              clean_put (at_page q) (additive_page q) old.store mid pool gs
                  es made zip,
            );
        long = filled.marks.long;
      }

  abbrev changes : Changes f [] old before
  changes = record {
    extents = filled.extents;
    order = all_entered (order_in old.cache.orders pool) f filled.extents.extents gs;
    apart = filled.range.fills.apart;
    files = filled.files;
    orders = filled.orders;
    follows = follows;
    moves = (let m = filled.range.fills.moves in record {
      counts =
          record {
            each =
                λ b. omega (
                  arith,
                  m.counts.each b,
                  tally_none b,
                  tally-all_put b es made,
                  ap (λ l. tally b (bufs_of l)) (append-nil (all_parts es)),
                  ap (λ l. tally b (bufs_of (all_parts l))) filled.range.fills.extents,
                );
          };
      stays = m.stays;
      still = m.still;
      tidy = m.tidy;
    });
    pages = filled.range.fills.places.pages.count;
    pools = λ p is. ap (λ ps. pool_in ps p) filled.range.fills.places.pools;
  }

  none_own : Covers old.store (held old.cache.files ++ [])
  none_own =
      record { each = λ b. omega (arith, sound.covered.each b, tally-append b (held old.cache.files) [], tally_none b) }

  held_is : (b : BufId)
      → tally b (held new.cache.files) ≡ tally b (bufs_of (all_parts made)) + tally b (held old.cache.files)
  held_is b =
      omega (
        arith,
        changed.held_is old before f [] sound there changes none_own b,
        tally-all_put b es made,
        ap (λ l. tally b (bufs_of (all_parts l))) filled.range.fills.extents,
      )

  stays_mid : Stays old.store mid
  stays_mid = filled.range.fills.moves.stays

  stays_new : Stays mid new.store
  stays_new = (shares_move filled.range.shares).stays

  covers_mid : Covers mid (held new.cache.files)
  covers_mid = changed.covers_new old before f [] sound there changes none_own

  pub covers_new : Covers new.store (held new.cache.files)
  covers_new = record { each = λ b. omega (arith, covers_mid.each b, filled.range.shares.counts.each b, tally_none b) }

  other_is : (g : ℕ) → (g ≡ f → ⊥) → file_in new.cache.files g ≡ file_in old.cache.files g
  other_is = changed.other_is old before f [] sound there changes none_own

  extents_are : extents_in new.cache.files f ≡ all_put es made
  extents_are =
      ap (λ (y : CachedFile). y.extents.extents) (changed.file_is old before f [] sound there changes none_own)
      ∙ filled.range.fills.extents

  covers_of : (g : ℕ) → Covers new.store (bufs_of (all_parts (extents_in new.cache.files g)))
  covers_of g = covers_file new.cache.files g covers_new

  covers_put : Covers mid (bufs_of (all_parts (all_put es made)))
  covers_put = subst (λ l. Covers mid (bufs_of (all_parts l))) extents_are (covers_file new.cache.files f covers_mid)

  covers_old : Covers mid (bufs_of (all_parts es))
  covers_old = record { each = λ b. omega (arith, covers_put.each b, tally-all_put b es made) }

  laid_put : AllByRecursion (IsLaid mid pool) (all_put es made)
  laid_put = each-all_put (IsLaid mid pool) es made (laid_stays pool es stays_mid covers_old (sound.files f).laid)
      (made_laid old.store mid pool gs made zip)

  pub pages_are : page_count new.store.arena ≡ page_count old.store.arena
  pages_are = ap page_count filled.range.shares.arena ∙ filled.range.fills.places.pages.count

  pub sound_filled : to ≤ MAX_FILE_BYTES → IsSound new.store new.cache
  sound_filled small =
      let laid = subst (λ (l : List Extent). AllByRecursion (IsLaid mid pool) l) (sym filled.range.fills.extents)
      laid_put in
      let short : last_end filled.extents.extents ≤ MAX_FILE_BYTES =
      omega (
        arith,
        ap last_end filled.range.fills.extents,
        last_end-all_put es made MAX_FILE_BYTES (sound.files f).short
            (below made (ends_below old.store mid pool from to gs made order zip) small),
      ) in
      sound_on mid new.store new.cache (changed.sound_laid old before f [] sound there changes none_own laid short)
      (shares_move filled.range.shares) covers_new (ap (map pool_meant) filled.range.shares.pools)
      (ap page_count filled.range.shares.arena)
    where
      below : (l : List Extent) → All (λ (e : Extent). end_of e ≤ to) l → to ≤ MAX_FILE_BYTES
          → All (λ (e : Extent). end_of e ≤ MAX_FILE_BYTES) l
      below l all small = λ k d h. omega (arith, all k d h, small)

  slot_filled : (g : ℕ) (honest : disk.honest ≡ true)
      → AreStored old.store (content disk.slots g) (extents_in old.cache.files g)
      → StaysFile old.store new.store (content disk.slots g) (extents_in old.cache.files g)
      (extents_in new.cache.files g)
  slot_filled g honest all = elim (cases_eq g f) [
    | inl same ↦
        subst (λ n. StaysFile old.store new.store (content disk.slots n) (extents_in old.cache.files n)
        (extents_in new.cache.files n)) (sym same)
        (here (subst (λ n. AreStored old.store (content disk.slots n) (extents_in old.cache.files n)) same all))
    | inr ne ↦ (
        let is : extents_in new.cache.files g ≡ extents_in old.cache.files g =
        ap (λ (y : CachedFile). y.extents.extents) (other_is g ne) in
        let c = subst (λ l. Covers new.store (bufs_of (all_parts l))) is (covers_of g) in
        subst (StaysFile old.store new.store (content disk.slots g) (extents_in old.cache.files g)) (sym is)
        (file_stays (file_in old.cache.files g).pool (content disk.slots g) (extents_in old.cache.files g)
        (stays_trans stays_mid stays_new) c (sound.files g).laid all))
  ]
    where
      mirrored : (l : List Extent) → All (gaps.Mirrors mid pool (content disk.slots f)) l
          → All (IsMirrored mid (content disk.slots f)) l
      mirrored l h = λ k d i. mirrored_is mid pool (content disk.slots f) (get_or l k d) (h k d i)

      here : AreStored old.store (content disk.slots f) es
          → StaysFile old.store new.store (content disk.slots f) es (extents_in new.cache.files f)
      here was =
          let stored = content disk.slots f in
          let first = file_stays pool stored es stays_mid covers_old (sound.files f).laid was in
          let m = mirrored made (filled.range.fills.mirrors honest).each in
          let put = all_stored stored es made fits m first.mirrors in
          let bytes =
          bytes_same (byte_in mid) (byte_in mid) stored (all_put es made) es (λ i. all_byte stored es made i fits m)
          (all_len stored es made m) in
          let last =
          file_stays pool stored (all_put es made) stays_new
          (subst (λ l. Covers new.store (bufs_of (all_parts l))) extents_are (covers_of f)) laid_put put in
          subst (StaysFile old.store new.store stored es) (sym extents_are)
          (record { mirrors = last.mirrors; bytes = last.bytes ∙ bytes ∙ first.bytes })

  pub goes_filled : (own : List BufId) → SameLists old.store new.store
      → (AllReclaimed old.store → AllReclaimed new.store) → Goes disk own (own ++ bufs_of xs) old new
  goes_filled own lists reclaims = record {
    moves = record {
      counts =
          record {
            each =
                λ b. omega (
                  arith,
                  held_is b,
                  filled.range.fills.moves.counts.each b,
                  filled.range.shares.counts.each b,
                  tally_none b,
                  tally-append b (held old.cache.files) own,
                  tally-append b (held new.cache.files) (own ++ bufs_of xs),
                  tally-append b own (bufs_of xs),
                );
          };
      stays = stays_trans stays_mid stays_new;
      still = λ h. (shares_move filled.range.shares).still (filled.range.fills.moves.still h);
      tidy = λ h. filled.range.shares.tidy (filled.range.fills.moves.tidy h);
    };
    lists = lists;
    reclaims = reclaims;
    pages = pages_are;
    count = changed.count_same old before f [] sound there changes none_own;
    pools = changed.pool_same old before f [] sound there changes none_own;
    mirrors = λ honest h. record { each = λ g. (slot_filled g honest (h.each g)).mirrors };
    files = λ honest h. record { each = λ g. (slot_filled g honest (h.each g)).bytes };
  }
