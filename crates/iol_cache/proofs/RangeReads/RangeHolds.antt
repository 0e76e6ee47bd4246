-- A range that is read after its hits were shared: the references, step by step.
use Rattle.std.proofs.Common.{inl, ◌≡◌, ℕ, ◌+◌, ◌-◌, ◌<◌, ◌≤◌, Bool, true, IsTrue, List, [], ◌∷◌, ◌++◌, length, IsSome}
use Rattle.std.proofs.Common.{None, Some, Result, Ok, Err, IfOk, IfErr, OnErr, refl, sym, ap, ◌∙◌, arith, subst}
use Rattle.std.specs.Prelude.{take, drop}
use Rattle.std.specs.List.{All, AllZip}
use Rattle.std.specs.Result.{IsErrAnd}
use Rattle.std.proofs.lemmas.List.Elements.{All-append, All-cons, All-drop, All-head, All-nil, All-tail, All-take}
use Rattle.std.proofs.lemmas.List.Elements.{All-weaker}
use Rattle.iol_core.specs.Meaning.{WantOfRoomOrFault}
use Rattle.iol_core.specs.NumberedLists.{is_numbered}
use Rattle.iol_core.specs.declared.numbers.BufId.{BufId}
use Rattle.iol_core.specs.declared.refusals.Refusal.{Refusal}
use Rattle.iol_core.specs.declared.refusals.Refusal.TheVariants as refusal
use Rattle.iol_arena.specs.State.{page_count}
use Rattle.iol_back.specs.Disk.{Disk, last_failure}
use Rattle.iol_extent.specs.Extents.{Extent, IsApart, begins_at, cover, put_in}
use Rattle.iol_extent.specs.Spans.{AreInOrder, IsGapSpan}
use Rattle.iol_extent.specs.declared.spans.Span.{Span}
use Rattle.iol_hold.specs.Moves.{tally, Moves, Covers, SameLists}
use Rattle.iol_hold.specs.Places.{Place, places}
use Rattle.iol_hold.specs.Releases.{FreesOnly}
use Rattle.iol_hold.specs.Room.{free_of, pages_of}
use Rattle.iol_hold.specs.StoreState.{Stored, AllReclaimed}
use Rattle.iol_hold.specs.Texts.{AllReadable, IsThere, bufs_of}
use Rattle.iol_hold.specs.declared.slices.Slice.{Slice}
use Rattle.iol_hold.proofs.Counts.{tally-append, tally_none}
use Rattle.iol_hold.proofs.PageChanges.{keeps_pages_same}
use Rattle.iol_hold.proofs.ReadSlices.{readable_stays}
use Rattle.iol_cache.specs.declared.files.CachedFile.{CachedFile}
use Rattle.iol_cache.specs.CacheState.{Cached, extents_in, file_in, held, all_parts, order_in}
use Rattle.iol_cache.specs.Evictions.{GivesUp, Holding, KeepsPlaces, MakesFree}
use Rattle.iol_cache.specs.Gaps.{IsMade, all_put, gap_pages}
use Rattle.iol_cache.specs.ReadSteps.{FillsAllOf, FillsFile, Goes}
use Rattle.iol_cache.specs.Loads.{AskCounts, Asks, PlacesSome}
use Rattle.iol_cache.specs.PinnedPages.{pinned_beside}
use Rattle.iol_cache.specs.Ranges.{IsCleanSpan}
use Rattle.iol_cache.specs.RangeReads.{MayFill, SameButRoom}
use Rattle.iol_cache.specs.ReadResults.{FaultCounts, FillsPinned, ReportsFault, ReportsRoom}
use Rattle.iol_cache.specs.SharedBytes.{IsCoveredSpan, places_over}
use Rattle.iol_cache.specs.Sound.{IsSound}
use Rattle.iol_cache.specs.Weave.{woven}
use Rattle.iol_cache.proofs.RangeReads.CompleteFile.{goes_filled}
use Rattle.iol_cache.proofs.Extents.FewerExtents.{begins_above, cover-begins, over_yes}
use Rattle.iol_cache.proofs.Extents.FileEntries.{file_same, numbered_bounds, numbered_yes}
use Rattle.iol_cache.proofs.RangeReads.FilledGaps.{order_wide}
use Rattle.iol_cache.proofs.RangeReads.PutExtents.{kept_begins, zip_begins}
use Rattle.iol_cache.proofs.RangeReads.WholeRange.{laid_readable}
use Rattle.iol_cache.proofs.Evictions.FreePages.{at_most}
use Rattle.iol_cache.proofs.RangeReads.SharedBytes.{over_there, readable_of}
use Rattle.iol_cache.proofs.Extents.StoreSteps.{sound_on}
use Rattle.iol_cache.proofs.RangeReads.TakenBack.{NoneBegins, begins_at-put_in, none_beside, none_gaps}
use Rattle.iol_cache.proofs.Extents.Steps.{covers_right, goes_cache, goes_covers, goes_less, goes_moved, goes_trans}

-- a fact that follows from both results
pub either_way : {A E : Type 0} (P Q : Type 0) (F : A → Type 0) (r : Result A E) → IfOk r F → OnErr r Q
    → ((x : A) → F x → P) → (Q → P) → P
either_way P Q F (Ok x) f e g h = g x f
either_way P Q F (Err y) f e g h = h e

-- the same, if the fact after an error depends on the error
pub either_reported : {A E P : Type 0} (F : A → Type 0) (Q : E → Type 0) (r : Result A E) → IfOk r F → IfErr r Q
    → ((x : A) → F x → P) → ((y : E) → Q y → P) → P
either_reported F Q (Ok x) f e g h = g x f
either_reported F Q (Err y) f e g h = h y e

-- a fact of an error that is `Memory`
pub on_memory : {A : Type 0} (r : Result A Refusal) (P : Refusal → Type 0) → IsErrAnd r (λ y. y ≡ refusal.Memory)
    → P refusal.Memory → IfErr r P
on_memory (Ok x) P is p = tt
on_memory (Err y) P is p = subst P (sym is) p

pub always_err : {A E Q : Type 0} (r : Result A E) → Q → OnErr r Q
always_err (Ok x) q = tt
always_err (Err y) q = q

pub ok_both : {A E : Type 0} (P Q : A → Type 0) (r : Result A E) → IfOk r P → IfOk r Q → IfOk r (λ x. P x × Q x)
ok_both P Q (Ok x) p q = (p, q)
ok_both P Q (Err y) p q = tt

pub asks_ok : {A : Type 0} (n : ℕ) (old new : Disk) (r : Result A Refusal) → AskCounts n old new r
    → IfOk r (λ (x : A). 0 < n → old.failures < last_failure)
asks_ok n old new (Ok x) h = h.1
asks_ok n old new (Err y) h = tt

faults_counted : {A : Type 0} (n : ℕ) (old new : Disk) (r : Result A Refusal) → AskCounts n old new r
    → FaultCounts old new r
faults_counted n old new (Ok x) h = h.0
faults_counted n old new (Err refusal.NoDomain) h = h
faults_counted n old new (Err refusal.BadFd) h = h
faults_counted n old new (Err refusal.BadAgg) h = h
faults_counted n old new (Err refusal.NoPool) h = h
faults_counted n old new (Err refusal.NoFile) h = h
faults_counted n old new (Err refusal.WrongMode) h = h
faults_counted n old new (Err refusal.BadRange) h = h
faults_counted n old new (Err refusal.TooLong) h = h
faults_counted n old new (Err refusal.TooMany) h = h
faults_counted n old new (Err (refusal.Denied p)) h = h
faults_counted n old new (Err (refusal.PoolClosed p)) h = h
faults_counted n old new (Err (refusal.PoolBusy p)) h = h
faults_counted n old new (Err refusal.BrokenPipe) h = h
faults_counted n old new (Err refusal.WouldBlock) h = h
faults_counted n old new (Err (refusal.NoRoom p)) h = h
faults_counted n old new (Err (refusal.Fault f)) h = h.0
faults_counted n old new (Err refusal.Memory) h = h

-- a fact of an error, if a Fault comes only from a request to the store, and NoRoom only without room
pub reported_late : {A : Type 0} {U : Refusal → Type 0} (n : ℕ) (old new : Disk) (has lacks : Type 0)
    (r : Result A Refusal) (P : Refusal → Type 0) → AskCounts n old new r → ReportsRoom has lacks r
    → ((y : Refusal) → ((g : ℕ) → y ≡ refusal.Fault g → 0 < n) → ((p : ℕ) → y ≡ refusal.NoRoom p → lacks) → U y → P y)
    → IfErr r U → IfErr r P
reported_late n old new has lacks (Ok x) P counts room f u = tt
reported_late {A = A} n old new has lacks (Err y) P counts room f u =
    f y (λ g is. (subst (λ z. AskCounts {A = A} n old new (Err z)) is counts).1)
    (λ p is. subst (λ z. ReportsRoom {A = A} has lacks (Err z)) is room) u

pub reports_fault : {A : Type 0} (n : ℕ) (old new : Disk) (r : Result A Refusal) → Asks n old new r
    → ReportsFault old new r
reports_fault n old new r h =
    record { honest = h.honest; slots = h.slots; counts = faults_counted n old new r h.counts }

-- Room.

-- if there is no room, there is a gap
pub some_lacked : (s : Stored) (clean : List BufId) (p : ℕ) (gaps : List Span)
    → length (pages_of s p) < pinned_beside s clean p + gap_pages gaps → 0 < length gaps
some_lacked s clean p [] lacks = absurd (omega (arith, lacks, at_most s clean (pages_of s p)))
some_lacked s clean p (g ∷ gs) lacks = omega arith

pub reports_has : {A : Type 0} (has lacks : Type 0) (r : Result A Refusal) → has
    → ((p : ℕ) → r ≡ Err (refusal.NoRoom p) → ⊥) → ReportsRoom has lacks r
reports_has has lacks (Ok x) h none = h
reports_has has lacks (Err refusal.NoDomain) h none = tt
reports_has has lacks (Err refusal.BadFd) h none = tt
reports_has has lacks (Err refusal.BadAgg) h none = tt
reports_has has lacks (Err refusal.NoPool) h none = tt
reports_has has lacks (Err refusal.NoFile) h none = tt
reports_has has lacks (Err refusal.WrongMode) h none = tt
reports_has has lacks (Err refusal.BadRange) h none = tt
reports_has has lacks (Err refusal.TooLong) h none = tt
reports_has has lacks (Err refusal.TooMany) h none = tt
reports_has has lacks (Err (refusal.Denied p)) h none = tt
reports_has has lacks (Err (refusal.PoolClosed p)) h none = tt
reports_has has lacks (Err (refusal.PoolBusy p)) h none = tt
reports_has has lacks (Err refusal.BrokenPipe) h none = tt
reports_has has lacks (Err refusal.WouldBlock) h none = tt
reports_has has lacks (Err (refusal.NoRoom p)) h none = absurd (none p refl)
reports_has has lacks (Err (refusal.Fault f)) h none = h
reports_has has lacks (Err refusal.Memory) h none = tt

pub reports_more : {A : Type 0} (has lacks more less : Type 0) (r : Result A Refusal) → (has → more) → (lacks → less)
    → ReportsRoom has lacks r → ReportsRoom more less r
reports_more has lacks more less (Ok x) g k h = g h
reports_more has lacks more less (Err refusal.NoDomain) g k h = tt
reports_more has lacks more less (Err refusal.BadFd) g k h = tt
reports_more has lacks more less (Err refusal.BadAgg) g k h = tt
reports_more has lacks more less (Err refusal.NoPool) g k h = tt
reports_more has lacks more less (Err refusal.NoFile) g k h = tt
reports_more has lacks more less (Err refusal.WrongMode) g k h = tt
reports_more has lacks more less (Err refusal.BadRange) g k h = tt
reports_more has lacks more less (Err refusal.TooLong) g k h = tt
reports_more has lacks more less (Err refusal.TooMany) g k h = tt
reports_more has lacks more less (Err (refusal.Denied p)) g k h = tt
reports_more has lacks more less (Err (refusal.PoolClosed p)) g k h = tt
reports_more has lacks more less (Err (refusal.PoolBusy p)) g k h = tt
reports_more has lacks more less (Err refusal.BrokenPipe) g k h = tt
reports_more has lacks more less (Err refusal.WouldBlock) g k h = tt
reports_more has lacks more less (Err (refusal.NoRoom p)) g k h = k h
reports_more has lacks more less (Err (refusal.Fault f)) g k h = g h
reports_more has lacks more less (Err refusal.Memory) g k h = tt

-- A step without a change.

pub same_none : (c : Cached) → SameButRoom c c
same_none c = record {
  pools = λ f. refl;
  extents = λ f. refl;
  files = refl;
  held = refl;
  clean = refl;
  entries =
      λ p. refl;
  low = λ p. refl;
  kept = λ p. refl;
  orders = refl;
  marks = refl;
}

pub places_none : (s : Stored) (p n : ℕ) → PlacesSome s s p n
places_none s p n = record { count = 0; few = omega arith; pages = keeps_pages_same s s refl refl }

-- gaps are still gaps after evictions
pub gaps_kept : (a b : Holding) (f : ℕ) (gs : List Span) → KeepsPlaces a.cache b.cache
    → All (IsGapSpan (extents_in a.cache.files f)) gs → All (IsGapSpan (extents_in b.cache.files f)) gs
gaps_kept a b f gs keeps all =
    All-weaker (IsGapSpan (extents_in a.cache.files f)) (IsGapSpan (extents_in b.cache.files f))
    (λ g h. record { each = λ i l u. keeps.gaps f i (h.each i l u) }) gs all

-- Filled gaps are clean extents.

pub stand_made : (s t : Stored) (p : ℕ) (es : List Extent) (low high : ℕ) (gs : List Span) (made : List Extent)
    → AreInOrder low high gs → NoneBegins es low gs → AllZip (IsMade s t p) gs made
    → All (IsCleanSpan (all_put es made)) gs
unfolding all_put
stand_made s t p es low high [] [] order none zip = All-nil (IsCleanSpan es)
stand_made s t p es low high [] (e ∷ made) order none zip = absurd zip
stand_made s t p es low high (g ∷ gs) [] order none zip = absurd zip
stand_made s t p es low high (g ∷ gs) (e ∷ made) order none zip =
    let beside = none_beside es e (g.from + 1) gs (omega (arith, zip.0.begins)) none.2 in
    let lower = order_wide g.to high (g.from + 1) high gs (omega (arith, order.1)) (omega arith) order.2 in
    let rest = stand_made s t p (put_in es e) (g.from + 1) high gs made lower beside zip.1 in
    let at : begins_at es e.at ≡ None = ap (begins_at es) zip.0.begins ∙ none.1 in
    let here : begins_at (all_put (put_in es e) made) g.from ≡ Some e =
    kept_begins (put_in es e) (g.from + 1) high g.from gs made (omega arith) lower (zip_begins s t p gs made zip.1)
    ∙ ap (begins_at (put_in es e)) (sym zip.0.begins) ∙ begins_at-put_in es e at in
    All-cons (IsCleanSpan (all_put (put_in es e) made)) g gs
    (record { extent = e; begins = here; ends = zip.0.ends; clean = zip.0.clean }) rest

pub span_cover : (es : List Extent) (g : Span) (i : ℕ) → IsApart 0 es → IsCleanSpan es g → g.from ≤ i → i < g.to
    → IsSome (cover es i)
span_cover es g i apart stands low high =
    let above = begins_above 0 es g.from stands.extent apart stands.begins in
    let over = over_yes stands.extent i (omega (arith, above.1, low)) (omega (arith, stands.ends, high)) in
    subst IsSome (sym (cover-begins 0 es g.from stands.extent i apart stands.begins over)) refl

pub covered_span : (es : List Extent) (g : Span) → IsApart 0 es → IsCleanSpan es g → IsCoveredSpan es g
covered_span es g apart stands = record { each = λ i low high. span_cover es g i apart stands low high }

pub woven_there : {s : Stored} (ps : List Place) (es : List Extent) (at to : ℕ) (gs : List Span) → All (IsThere s) ps
    → All (IsCoveredSpan es) gs → AllReadable s (all_parts es) → All (IsThere s) (woven ps es at to gs)
woven_there {s = s} ps es at to [] all covered readable = All-take (IsThere s) (to - at) ps all
woven_there {s = s} ps es at to (g ∷ gs) all covered readable =
    let n = g.from - at in
    let rest =
    woven_there {s = s} (drop n ps) es g.to to gs (All-drop (IsThere s) n ps all)
    (All-tail (IsCoveredSpan es) g gs covered) readable in
    let gap = over_there {s = s} es g.from g.to (All-head (IsCoveredSpan es) g gs covered) readable in
    All-append (IsThere s) (take n ps ++ places_over es g.from g.to) (woven (drop n ps) es g.to to gs)
    (All-append (IsThere s) (take n ps) (places_over es g.from g.to) (All-take (IsThere s) n ps all) gap) rest

pub extents_filled : (f from to : ℕ) (b c : Holding) (beside : List Place) (gs : List Span) (d : Disk) (xs : List Slice)
    → is_numbered b.cache.files f ≡ true → (filled : FillsFile f from to beside gs d b c xs)
    → extents_in c.cache.files f ≡ filled.extents.extents
extents_filled f from to b c beside gs d xs there filled =
    let n = numbered_bounds b.cache.files f there in
    let x : CachedFile = record { pool = (file_in b.cache.files f).pool; extents = filled.extents } in
    ap (λ (l : List CachedFile). extents_in l f) filled.files
    ∙ ap (λ (y : CachedFile). y.extents.extents) (file_same b.cache.files f x n.0 n.1)

-- Some references are released, and others remain.
pub goes_released : (d : Disk) (own gone more : List BufId) (s t : Stored) (c : Cached)
    → ((x : BufId) → tally x own ≡ tally x gone + tally x more) → IsSound s c → Covers s (held c.files ++ own)
    → Moves s t gone [] → SameLists s t → (AllReclaimed s → AllReclaimed t) → page_count t.arena ≡ page_count s.arena
    → Goes d own more (record { store = s; cache = c }) (record { store = t; cache = c })
goes_released d own gone more s t c split sound covers m lists reclaims pages =
    let left : Covers t (held c.files) =
    record {
      each =
          λ x. omega (
            arith,
            covers.each x,
            m.counts.each x,
            tally_none x,
            tally-append x (held c.files) own,
            split x,
          );
    } in
    goes_moved d own more gone [] s t c (λ x. omega (arith, split x, tally_none x)) sound m left lists reclaims pages

-- only room changed
pub goes_reserved : (d : Disk) (a b : Holding) → IsSound a.store a.cache → SameButRoom a.cache b.cache
    → Moves a.store b.store [] [] → SameLists a.store b.store → (AllReclaimed a.store → AllReclaimed b.store)
    → page_count b.store.arena ≡ page_count a.store.arena → Goes d [] [] a b
goes_reserved d a b sound same moves lists reclaims pages =
    let mid : Holding = record { store = b.store; cache = a.cache } in
    let covers : Covers a.store (held a.cache.files ++ []) =
    record {
      each =
          λ x. omega (arith, sound.covered.each x, tally-append x (held a.cache.files) [], tally_none x);
    } in
    goes_trans d [] [] [] a mid b (goes_released d [] [] [] a.store b.store a.cache (λ x. omega (arith, tally_none x))
    sound covers moves lists reclaims pages)
    (goes_cache d [] b.store a.cache b.cache same.files same.pools same.extents same.held)

-- The references of the shared slices (`pins`) remain, in addition to others (`more`).
pub record Went (d : Disk) (a c : Holding) (pins more : List BufId) : Type 0 where
  pub own : List BufId
  pub split : (x : BufId) → tally x own ≡ tally x pins + tally x more
  pub goes : Goes d pins own a c

-- the references of a result
abbrev pub given : {E : Type 0} → Result (List Slice) E → List BufId
given (Ok xs) = bufs_of xs
given (Err y) = []

-- After room was made.
module _ (d : Disk) {f from to : ℕ} {a b : Holding} {pins : List Slice} {gs : List Span}
    (may : MayFill f from to gs pins a) (less : GivesUp a b) (sound : IsSound b.store b.cache) where
  there_b : is_numbered b.cache.files f ≡ true
  there_b = let n = numbered_bounds a.cache.files f may.range.file in
      numbered_yes b.cache.files f n.0 (omega (arith, n.1, less.keeps.count))

  gaps_b : All (IsGapSpan (extents_in b.cache.files f)) gs
  gaps_b = gaps_kept a b f gs less.keeps may.range.gaps

  covers_b : Covers b.store (held b.cache.files ++ bufs_of pins)
  covers_b = goes_covers d (bufs_of pins) (bufs_of pins) a b (goes_less d (bufs_of pins) a b less) may.held

  pub pins_left : Covers b.store (bufs_of pins)
  pins_left = covers_right b.store (held b.cache.files) (bufs_of pins) covers_b

  pub may_left : MayFill f from to gs pins b
  may_left = record {
    sound = sound;
    range = record {
      file = there_b;
      ordered = may.range.ordered;
      end = may.range.end;
      in_order = may.range.in_order;
      gaps = gaps_b;
      room = omega (arith, may.range.room, less.keeps.rooms f);
      entries =
          omega (
            arith,
            may.range.entries,
            less.keeps.entries (file_in a.cache.files f).pool,
            ap (λ p. (order_in b.cache.orders p).room) (less.keeps.pools f),
          );
    };
    long = may.long;
    held = covers_b;
    readable = readable_stays pins less.moves.stays pins_left may.readable;
    few = record { each = λ x. omega (arith, may.few.each x, less.fewer x) };
  }

  pub went_none : Went d a b (bufs_of pins) []
  went_none = record {
    own = bufs_of pins;
    split = λ x. omega (arith, tally_none x);
    goes =
        goes_less d (bufs_of pins) a b less;
  }

  -- the gaps were filled, or were not
  pub went : {e : Disk} {c : Holding} (r : Result (List Slice) Refusal) → FillsAllOf f from to gs pins d e b c r
      → Went d a c (bufs_of pins) (given r)
  went {c = c} (Ok xs) h = record {
    own = bufs_of pins ++ bufs_of xs;
    split = λ x. tally-append x (bufs_of pins) (bufs_of xs);
    goes =
        goes_trans d (bufs_of pins) (bufs_of pins) (bufs_of pins ++ bufs_of xs) a b c
        (goes_less d (bufs_of pins) a b less)
        (goes_filled b c f from to (places pins) gs d xs sound there_b may.range.in_order gaps_b h.filled (bufs_of pins)
        h.reads.leaves.lists h.reads.leaves.reclaims);
  }
  went {c = c} (Err y) h =
      let own = bufs_of pins in
      let left = h.reads.leaves in
      let same = h.reads.same in
      let mid : Holding = record { store = c.store; cache = b.cache } in
      let first = goes_released d own [] own b.store c.store b.cache (λ x. omega (arith, tally_none x)) sound covers_b
      left.none left.lists left.reclaims left.given_back.pages.count in
      let last = goes_cache d own c.store b.cache c.cache same.files same.pools same.extents same.held in
      record {
        own = own;
        split = λ x. omega (arith, tally_none x);
        goes =
            goes_trans d own own own a b c (goes_less d own a b less) (goes_trans d own own own b mid c first last);
      }

  stand_filled : {c : Holding} {xs : List Slice} → FillsFile f from to (places pins) gs d b c xs
      → All (IsCleanSpan (extents_in c.cache.files f)) gs
  stand_filled {c = c} {xs = xs} filled =
      let es = extents_in b.cache.files f in
      let fills = filled.range.fills in
      let none = none_gaps es from to gs (sound.files f).apart may.range.in_order gaps_b in
      let stand = stand_made b.store filled.range.mid (file_in b.cache.files f).pool es from to gs fills.made
      may.range.in_order none fills.each.each in
      subst (λ (l : List Extent). All (IsCleanSpan l) gs)
      (sym (extents_filled f from to b c (places pins) gs d xs there_b filled ∙ fills.extents)) stand

  readable_filled : {c : Holding} {xs : List Slice} → FillsFile f from to (places pins) gs d b c xs
      → IsSound c.store c.cache → AllReadable c.store pins → AllReadable c.store xs
  readable_filled {c = c} {xs = xs} filled sound_c held_pins =
      let es = extents_in c.cache.files f in
      let is = extents_filled f from to b c (places pins) gs d xs there_b filled in
      let laid = sound_c.files f in
      readable_of xs (woven (places pins) es from to gs) (filled.range.lies
      ∙ ap (λ (l : List Extent). woven (places pins) l from to gs) (sym is))
      (woven_there (places pins) es from to gs held_pins.each
      (All-weaker (IsCleanSpan es) (IsCoveredSpan es) (λ g h. covered_span es g laid.apart h) gs
      (stand_filled filled)) (laid_readable (file_in c.cache.files f).pool es laid.laid))

-- After the shared slices were released.
module _ (d : Disk) {f from to : ℕ} {a c : Holding} {pins : List Slice} {gs : List Span} {more : List BufId}
    (may : MayFill f from to gs pins a) (went : Went d a c (bufs_of pins) more) where
  covers_c : Covers c.store (held c.cache.files ++ went.own)
  covers_c = goes_covers d (bufs_of pins) went.own a c went.goes may.held

  pub pins_held : Covers c.store (bufs_of pins)
  pins_held =
      record { each = λ x. omega (arith, covers_c.each x, tally-append x (held c.cache.files) went.own, went.split x) }

  readable_c : AllReadable c.store pins
  readable_c = readable_stays pins went.goes.moves.stays pins_held may.readable

  module _ {t : Stored} (sound : IsSound c.store c.cache) (m : Moves c.store t (bufs_of pins) []) where
    pub goes_out : SameLists c.store t → (AllReadable c.store pins → AllReclaimed c.store → AllReclaimed t)
        → page_count t.arena ≡ page_count c.store.arena
        → Goes d (bufs_of pins) more a (record { store = t; cache = c.cache })
    goes_out lists reclaims pages =
        goes_trans d (bufs_of pins) went.own more a c (record { store = t; cache = c.cache }) went.goes
        (goes_released d went.own (bufs_of pins) more c.store t c.cache went.split sound covers_c m lists
        (reclaims readable_c) pages)

    pub sound_out : SameLists c.store t → page_count t.arena ≡ page_count c.store.arena → IsSound t c.cache
    sound_out lists pages =
        let left : Covers t (held c.cache.files) =
        record {
          each =
              λ x. omega (
                arith,
                covers_c.each x,
                m.counts.each x,
                tally_none x,
                tally-append x (held c.cache.files) went.own,
                went.split x,
              );
        } in
        sound_on c.store t c.cache sound m left lists pages

    readable_out : (xs : List Slice) → more ≡ bufs_of xs → AllReadable c.store xs → AllReadable t xs
    readable_out xs is all =
        let left : Covers t (bufs_of xs) =
        record {
          each =
              λ x. omega (
                arith,
                covers_c.each x,
                m.counts.each x,
                tally_none x,
                tally-append x (held c.cache.files) went.own,
                went.split x,
                ap (tally x) is,
              );
        } in
        readable_stays xs m.stays left all

err_is : {A : Type 0} (x y : Refusal) → (let r : Result A Refusal = Err x in r) ≡ Err y → x ≡ y
err_is x y e = cc

-- The whole read, if there was room.
pub pinned_filled : {d e : Disk} {f from to : ℕ} {a b c : Holding} {t : Stored} {pins : List Slice} {gs : List Span}
    {ok : Bool} (r : Result (List Slice) Refusal) → MayFill f from to gs pins a
    → MakesFree (file_in a.cache.files f).pool (gap_pages gs) a b ok → IsTrue ok → IsSound b.store b.cache
    → FillsAllOf f from to gs pins d e b c r
    → Moves c.store t (bufs_of pins) [] → FreesOnly c.store t → SameLists c.store t
    → (AllReadable c.store pins → AllReclaimed c.store → AllReclaimed t)
    → FillsPinned f from to pins gs d e a (record { store = t; cache = c.cache }) r
pinned_filled {d = d} {b = b} {c = c} (Ok xs) may made has sound h m frees lists reclaims =
    let less = made.gives_up in
    let gone = went d may less sound (Ok xs) h in
    let here = readable_filled d may less sound h.filled h.sound (readable_c d may gone) in
    record {
      filled = record {
        mid = b;
        victims = made.victims;
        less = less;
        full = c;
        fills = h.filled;
        parts =
            h.parts;
        stand = stand_filled d may less sound h.filled;
        cache = refl;
        released = m;
        frees = frees;
      };
      undone = tt;
      readable = readable_out d may gone h.sound m xs refl here;
      goes = goes_out d may gone h.sound m lists reclaims frees.count;
      gone = tt;
      sound = sound_out d may gone h.sound m lists frees.count;
      room = made.room.0 has;
      asks = h.reads.asks;
      late = tt;
    }
pinned_filled {d = d} {f = f} {b = b} {c = c} {gs = gs} (Err y) may made has sound h m frees lists reclaims =
    let less = made.gives_up in
    let pool = less.keeps.pools f in
    let gone = went d may less sound (Err y) h in
    let left = h.reads.leaves in
    let roomy : (p : ℕ) → y ≡ refusal.NoRoom p → ⊥ =
    λ p is. absurd (omega (arith, made.free has, left.no_room p is, ap (λ q. length (free_of b.store q)) pool)) in
    record {
      filled = tt;
      undone = record {
        mid = b;
        victims = made.victims;
        less = less;
        full = c;
        met = inl (made.room.0 has);
        kept = λ p is. absurd (roomy p is);
        same = h.reads.same;
        moves = left.none;
        placed = subst (λ q. PlacesSome b.store c.store q (gap_pages gs)) pool left.given_back;
        lists = left.lists;
        cache = refl;
        released = m;
        frees = frees;
      };
      readable = tt;
      goes = tt;
      gone = goes_out d may gone h.sound m lists reclaims frees.count;
      sound = sound_out d may gone h.sound m lists frees.count;
      room =
          reports_has {A = List Slice} _ _ (Err y) (made.room.0 has) (λ p is. roomy p (err_is y (refusal.NoRoom p) is));
      asks = h.reads.asks;
      late = subst (λ q. WantOfRoomOrFault q f y) pool h.reads.late;
    }
