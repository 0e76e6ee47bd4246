use Rattle.std.proofs.Common.{◌≡◌, ◌∙◌, ℕ, suc, refl, ◌+◌, ◌<◌, Bool, true, false, cond, None, Ok, sym, ap, arith}
use Rattle.std.proofs.Common.{subst}
use Rattle.iol_back.specs.Disk.{Disk, raised}
use Rattle.iol_core.specs.Meaning.{FaultOf}
use Rattle.iol_core.specs.NumberedLists.{is_numbered}
use Rattle.iol_hold.specs.StoreState.{Stored}
use Rattle.iol_extent.specs.Extents.{dirty_in, dirty_count}
use Rattle.iol_cache.specs.Cache.{cached_of}
use Rattle.iol_cache.specs.CacheState.{Cached, extents_in}
use Rattle.iol_cache.specs.Sound.{IsSound}
use Rattle.iol_cache.specs.WriteBack.{AreCleaned, StoresFirst, Syncs}
use Rattle.iol_cache.proofs.Extents.FileEntries.{numbered_bounds, numbered_yes}
use Rattle.iol_cache.proofs.RangeWrites.WriteBack.{clean_fewer, syncs_fail, syncs_more}
use Rattle.iol_cache.proofs.cache.Cache.sync.Given.{Over}
use Rattle.iol_cache.proofs.cache.Cache.sync.Goals.{In-Ok}
use Rattle.iol_cache.proofs.cache.Cache.sync.Goals as goal

still_there : (s : Stored) (f : ℕ) (old new : Cached) (d e : Disk) → Syncs s f old new d e
    → is_numbered old.files f ≡ true → is_numbered new.files f ≡ true
still_there s f old new d e a there =
    (let b = numbered_bounds old.files f there in numbered_yes new.files f b.0 (omega (arith, b.1, a.files)))

true_false : true ≡ false → ⊥
true_false h = cc

-- the state after the first dirty extent was written back, or there was none
after : (s : Stored) (f : ℕ) (old mid new : Cached) (d m e : Disk) → IsSound s old → IsSound s mid
    → is_numbered mid.files f ≡ true → Syncs s f old mid d m → m.failures ≡ d.failures
    → (b : Bool) → StoresFirst s f mid new m e (Ok b)
    → Syncs s f old new d e × (e.failures ≡ d.failures) × (b ≡ false → dirty_in (extents_in new.files f) ≡ None)
    × (dirty_count (extents_in new.files f) + cond {A = ℕ} b 1 0 < dirty_count (extents_in mid.files f) + 1)
after s f old mid new d m e sound now there a fails true w = (
  syncs_more s f old mid new d m e sound now there a w,
  w.counts.0 ∙ fails,
  λ h. absurd (true_false h),
  omega (arith, clean_fewer s f mid new m e now there w),
)
after s f old mid new d m e sound now there a fails false w =
    let none : dirty_in (extents_in new.files f) ≡ None = ap (λ (c : Cached). dirty_in (extents_in c.files f)) w.same
    ∙ w.none in (
      subst (λ (c : Cached). Syncs s f old c d e) (sym w.same) (subst (Syncs s f old mid d) (sym w.disk) a),
      ap (λ (k : Disk). k.failures) w.disk ∙ fails,
      λ h. none,
      omega (arith, ap (λ (c : Cached). dirty_count (extents_in c.files f)) w.same),
    )

-- the number of extents written back, after one more step
one_more : (s : Stored) (f : ℕ) (old mid new : Cached) (d m e : Disk) → (n : ℕ) × AreCleaned s f n old mid d m
    → (b : Bool) → StoresFirst s f mid new m e (Ok b) → (n : ℕ) × AreCleaned s f n old new d e
one_more s f old mid new d m e a true w = (suc a.0, (mid, m, a.1, w))
one_more s f old mid new d m e a false w = (
  a.0,
  subst (λ (c : Cached). AreCleaned s f a.0 old c d e) (sym w.same)
      (subst (AreCleaned s f a.0 old mid d) (sym w.disk) a.1),
)

pub returns : goal.returns
returns g c =
    let v = c.loop-more.invariant in
    let done = v.done c.loop-more-test.false in
    record {
      writes =
          record {
            count = v.cleaned.0;
            mid = cached_of c.loop-more.self;
            disk = g.B.Backing.disk c.loop-more.backing;
            each = v.cleaned.1;
            ends = record { none = done; same = refl; disk = refl };
          };
      clean = done;
      syncs = v.syncs;
      files = v.syncs.contents;
      mirrors = v.syncs.mirrors;
      sound = v.sound;
      fails = tt;
      succeeds = v.failures;
      late = tt;
    }

pub returns-in-Err : goal.returns-in-Err
returns-in-Err g c =
    let v = c.loop-more.invariant in
    let e = c.in-Err.ensures in
    let syncs = syncs_fail c.args.store.now c.args.file (cached_of c.args.self.now) (cached_of c.loop-more.self)
    (cached_of c.store_first.new.self) (g.B.Backing.disk c.args.backing.now) (g.B.Backing.disk c.loop-more.backing)
    (g.B.Backing.disk c.store_first.new.backing) v.sound v.syncs e.stores.0 in
    record {
      writes =
          record {
            count = v.cleaned.0;
            mid = cached_of c.loop-more.self;
            disk = g.B.Backing.disk c.loop-more.backing;
            each = v.cleaned.1;
            ends = e.stores;
          };
      clean = tt;
      syncs = syncs;
      files = syncs.contents;
      mirrors = syncs.mirrors;
      sound = e.sound;
      fails = e.stores.0.counts ∙ ap raised v.failures;
      succeeds = tt;
      late = subst (FaultOf c.args.file) (sym e.stores.1) refl;
    }

-- the state after one more step
step : (g : Over) (c : In-Ok g) → let old = cached_of c.args.self.now in let mid = cached_of c.loop-more.self in
    let new = cached_of c.store_first.new.self in
    let d = g.B.Backing.disk c.args.backing.now in let e = g.B.Backing.disk c.store_first.new.backing in
    Syncs c.args.store.now c.args.file old new d e × (e.failures ≡ d.failures)
    × (c.in-Ok.more ≡ false → dirty_in (extents_in new.files c.args.file) ≡ None)
    × (dirty_count (extents_in new.files c.args.file) + cond {A = ℕ} c.in-Ok.more 1 0
    < dirty_count (extents_in mid.files c.args.file) + 1)
step g c =
    let v = c.loop-more.invariant in
    after c.args.store.now c.args.file _ _ _ _ _ _ c.requires.sound v.sound
    (still_there c.args.store.now c.args.file _ _ _ _ v.syncs c.requires.file) v.syncs v.failures c.in-Ok.more
    c.in-Ok.ensures.stores

pub loop-more-smaller : goal.loop-more-smaller
loop-more-smaller g c =
    let left = λ (k : Cached). dirty_count (extents_in k.files c.args.file) in
    subst (λ b. left (cached_of c.store_first.new.self) + cond {A = ℕ} c.in-Ok.more 1 0
    < left (cached_of c.loop-more.self) + cond {A = ℕ} b 1 0) (sym c.loop-more-test.true)
    (step g (goal.at.loop-more-smaller g c).In-Ok).3

pub loop-more-preserved : goal.loop-more-preserved
loop-more-preserved g c =
    let r = step g (goal.at.loop-more-preserved g c).In-Ok in
    record {
      sound = c.store_first.ensures.sound;
      syncs = r.0;
      cleaned = one_more c.args.store.now c.args.file _ _ _ _ _ _ c.loop-more.invariant.cleaned c.in-Ok.more
          c.in-Ok.ensures.stores;
      failures = r.1;
      done = r.2;
    }
