use Rattle.std.proofs.Common.{◌≡◌, ◌==◌, ◌≤◌, Bool, true, List, [], ◌∷◌, length, Result, Ok, Err, inl, refl, sym, arith}
use Rattle.std.proofs.Common.{subst}
use Rattle.std.specs.Result.{IsErrAnd}
use Rattle.std.proofs.lemmas.Bool.Decides.{nat_tests}
use Rattle.std.proofs.lemmas.Result.{IfOk-from_err}
use Rattle.iol_core.specs.Meaning.{WantOfRoomOrFault}
use Rattle.iol_core.specs.Text.{labelled}
use Rattle.iol_core.specs.declared.refusals.Refusal.{Refusal}
use Rattle.iol_core.specs.declared.refusals.Refusal.TheVariants.{Memory}
use Rattle.iol_back.specs.Disk.{Disk}
use Rattle.iol_extent.specs.declared.spans.Span.{Span}
use Rattle.iol_hold.specs.Places.{byte_len}
use Rattle.iol_hold.specs.Texts.{AllReadable, bufs_of, text_of}
use Rattle.iol_cache.specs.CacheState.{file_in}
use Rattle.iol_cache.specs.Cache.{cached_of, holding}
use Rattle.iol_cache.specs.Evictions.{Holding}
use Rattle.iol_cache.specs.Gaps.{AreOf}
use Rattle.iol_cache.specs.ReadSteps.{Goes}
use Rattle.iol_cache.specs.Ranges.{PinsRange}
use Rattle.iol_cache.specs.ReadResults.{FaultCounts, Range, ReadsFile, RefusesRead, ReportsRoom, bytes_read}
use Rattle.iol_cache.proofs.RangeReads.Hits.{HitsShared, fits_hit, goes_filled, goes_hit, gone_filled, late_filled}
use Rattle.iol_cache.proofs.RangeReads.Hits.{may_fill, readable_hit, reads_filled, reads_hit, refused_filled, room_hit}
use Rattle.iol_cache.proofs.RangeReads.PageChanges.{fills_none}
use Rattle.iol_cache.proofs.RangeReads.RangeHolds.{always_err, goes_reserved, on_memory, reports_fault}
use Rattle.iol_cache.proofs.RangeReads.Whole.{file_backed, file_pages, file_pool, file_short, file_text, range_of}
use Rattle.iol_cache.proofs.cache.Cache.read.Given.{Over}
use Rattle.iol_cache.proofs.cache.Cache.read.Goals.{After-pin, In_ok-pins}
use Rattle.iol_cache.proofs.cache.Cache.read.Goals as goal

-- the range, and the states that it is read from
module _ (g : Over) (c : After-pin g) where
  abbrev disk : Disk
  disk = g.B.Backing.disk c.args.backing.now

  abbrev old : Holding
  old = holding c.args.store.now c.args.self.now

  abbrev hit : Holding
  hit = holding c.pin.new.store c.pin.new.self

  abbrev range : Range disk old.cache c.args.file c.args.at c.args.count
  range = range_of disk old.cache c.args.file c.args.at c.args.count c.file_end-end.result c.min-from.result
      c.min.result c.file_end-end.ensures c.min-from.ensures c.min.ensures

-- Refused for lack of memory, before any slice was shared.

room_unreported : {A : Type 0} (has lacks : Type 0) (r : Result A Refusal) → IsErrAnd r (λ y. y ≡ Memory)
    → ReportsRoom has lacks r
room_unreported has lacks (Ok x) is = absurd is
room_unreported {A = A} has lacks (Err y) is = subst (λ z. ReportsRoom {A = A} has lacks (Err z)) (sym is) tt

no_fault : {A : Type 0} (d : Disk) (r : Result A Refusal) → IsErrAnd r (λ y. y ≡ Memory) → FaultCounts d d r
no_fault d (Ok x) is = refl
no_fault {A = A} d (Err y) is = subst (λ z. FaultCounts {A = A} d d (Err z)) (sym is) refl

pub returns-in_err-pins : goal.returns-in_err-pins
returns-in_err-pins g c =
    let at = (goal.at.returns-in_err-pins g c).After-pin in
    let e = c.in_err-pins.ensures in
    let r = c.from_residual.result in
    let err = c.from_residual.ensures.0 in
    let memory = c.from_residual.ensures.1 in
    let f = c.args.file in
    let p = (file_in c.args.self.now.files.items f).pool in
    let t = c.pin.new.store in
    let goes = IfOk-from_err r (λ xs. Goes (disk g at) [] (bufs_of xs) (old g at) (hit g at)) err in
    let gone =
    always_err r (goes_reserved (disk g at) (old g at) (hit g at) c.requires.sound e.same e.none e.lists e.reclaims
    e.frees.count) in
    record {
      text =
          λ b. IfOk-from_err r
          (λ xs. text_of t xs
          ≡ labelled p (bytes_read c.args.store.now (disk g at).slots (cached_of c.args.self.now) f c.args.at
          c.args.count)) err;
      readable = IfOk-from_err r (AllReadable t) err;
      pool = IfOk-from_err r (AreOf p) err;
      short = IfOk-from_err r (λ xs. byte_len xs ≤ c.args.count) err;
      reads = IfOk-from_err r (ReadsFile f c.args.at c.args.count (disk g at) (old g at) (hit g at)) err;
      backed = file_backed (disk g at) (disk g at) (old g at) (hit g at) r goes gone refl (λ h. refl);
      goes = goes;
      gone = gone;
      pages = fills_none p e.frees;
      sound = e.sound;
      refused = on_memory r (RefusesRead f c.args.at c.args.count (disk g at) (old g at) (hit g at)) memory
          (record {
            range = range g at;
            leaves =
                inl (refl, record { same = e.same; moves = e.none; frees = e.frees });
          });
      room = room_unreported _ _ r memory;
      fault = record { honest = refl; slots = λ h. refl; counts = no_fault (disk g at) r memory };
      late = on_memory r (WantOfRoomOrFault p f) memory tt;
    }

-- The bytes in memory were shared.
abbrev shared : (g : Over) (c : In_ok-pins g) (gs : List Span) → gs ≡ c.in_ok-pins.gaps.items
    → HitsShared c.args.file c.args.at c.args.count (g.B.Backing.disk c.args.backing.now)
    (holding c.args.store.now c.args.self.now) (holding c.pin.new.store c.pin.new.self) c.in_ok-pins.pins gs
shared g c gs is =
    let at = (goal.at.In_ok-pins g c).After-pin in
    let r = range g at in
    record {
      range = r;
      sound = c.requires.sound;
      there = c.requires.file;
      pinned =
          subst (PinsRange c.args.file r.from r.to (old g at) (hit g at) c.in_ok-pins.pins) (sym is)
          c.in_ok-pins.ensures.pinned;
    }

-- Without gaps.

none_of : (gs : List Span) (b : Bool) → b ≡ (length gs == 0) → b ≡ true → gs ≡ []
none_of [] b is empty = refl
none_of (x ∷ xs) b is empty = absurd (let long : length (x ∷ xs) ≡ 0 = grind (arith, nat_tests, is, empty) in
    omega (arith, long))

pub returns-then-is_empty : goal.returns-then-is_empty
returns-then-is_empty g c =
    let at = (goal.at.returns-then-is_empty g c).After-pin in
    let h = shared g (goal.at.returns-then-is_empty g c).In_ok-pins c.as_slice.result.now c.as_slice.ensures.value in
    let none = none_of c.as_slice.result.now c.is_empty.result c.is_empty.ensures c.if-is_empty.true in
    let f = c.args.file in
    let from = c.args.at in
    let n = c.args.count in
    let reads = reads_hit h none in
    let goes = goes_hit h in
    record {
      text = file_text f from n (disk g at) (old g at) (hit g at) (Ok c.in_ok-pins.pins) reads c.requires.sound
          c.pin.ensures.sound c.requires.file goes (readable_hit h);
      readable = readable_hit h;
      pool = file_pool f from n (disk g at) (old g at) (hit g at) (Ok c.in_ok-pins.pins) reads c.requires.sound
          c.pin.ensures.sound goes;
      short = file_short f from n (disk g at) (old g at) (hit g at) (Ok c.in_ok-pins.pins) reads;
      reads = reads;
      backed = file_backed (disk g at) (disk g at) (old g at) (hit g at) (Ok c.in_ok-pins.pins) goes tt refl
          (λ h. refl);
      goes = goes;
      gone = tt;
      pages = file_pages f from n (disk g at) (old g at) (hit g at) (Ok c.in_ok-pins.pins) reads tt;
      sound = c.pin.ensures.sound;
      refused = tt;
      room = room_hit h (Ok c.in_ok-pins.pins) (fits_hit h none);
      fault = record { honest = refl; slots = λ h. refl; counts = refl };
      late = tt;
    }

-- With gaps.

pub fill_pinned-requires : goal.fill_pinned-requires
fill_pinned-requires g c =
    may_fill (shared g (goal.at.fill_pinned-requires g c).In_ok-pins c.deref.result.now c.deref.ensures.value)
    c.pin.ensures.sound c.requires.few

pub returns : goal.returns
returns g c =
    let at = (goal.at.returns g c).After-pin in
    let h = shared g (goal.at.returns g c).In_ok-pins c.deref.result.now c.deref.ensures.value in
    let e = c.fill_pinned.ensures in
    let f = c.args.file in
    let from = c.args.at in
    let n = c.args.count in
    let new = holding c.fill_pinned.new.store c.fill_pinned.new.self in
    let after = g.B.Backing.disk c.fill_pinned.new.backing in
    let r = c.fill_pinned.result in
    let reads = reads_filled h e in
    let refused = refused_filled h e in
    let goes = goes_filled h e in
    let gone = gone_filled h e in
    record {
      text = file_text f from n (disk g at) (old g at) new r reads c.requires.sound e.sound c.requires.file goes
          e.readable;
      readable = e.readable;
      pool = file_pool f from n (disk g at) (old g at) new r reads c.requires.sound e.sound goes;
      short = file_short f from n (disk g at) (old g at) new r reads;
      reads = reads;
      backed = file_backed (disk g at) after (old g at) new r goes gone e.asks.honest e.asks.slots;
      goes = goes;
      gone = gone;
      pages = file_pages f from n (disk g at) (old g at) new r reads refused;
      sound = e.sound;
      refused = refused;
      room = room_hit h r e.room;
      fault = reports_fault (length c.deref.result.now) (disk g at) after r e.asks;
      late = late_filled h e;
    }
