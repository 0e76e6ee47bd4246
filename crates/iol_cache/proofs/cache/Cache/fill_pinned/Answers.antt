use Rattle.std.proofs.Common.{inl, inr, ◌≡◌, ◌∙◌, ◌+◌, ℕ, Bool, true, false, length, refl, ap, arith, subst}
use Rattle.std.proofs.lemmas.Bool.{cases_lt}
use Rattle.iol_hold.specs.Room.{pages_of}
use Rattle.iol_hold.proofs.Moves.{moves_none}
use Rattle.iol_cache.specs.declared.files.CachedFile.{CachedFile}
use Rattle.iol_cache.specs.CacheState.{clean_held, file_in}
use Rattle.iol_cache.specs.Cache.{holding}
use Rattle.iol_pool.specs.Pools.{pool_in}
use Rattle.iol_cache.specs.Evictions.{Holding, MakesFree}
use Rattle.iol_cache.specs.Gaps.{gap_pages}
use Rattle.iol_cache.specs.PinnedPages.{pinned_beside}
use Rattle.iol_cache.specs.ReadResults.{LacksPages}
use Rattle.iol_cache.proofs.Extents.Lookups.{file_here}
use Rattle.iol_cache.proofs.RangeReads.FilledGaps.{order_wide}
use Rattle.iol_cache.proofs.RangeReads.RangeHolds.{goes_out, may_left, pinned_filled, pins_held, pins_left, places_none}
use Rattle.iol_cache.proofs.RangeReads.RangeHolds.{same_none, sound_out, went, went_none}
use Rattle.iol_cache.proofs.cache.Cache.fill_pinned.Given.{Over}
use Rattle.iol_cache.proofs.cache.Cache.fill_pinned.Goals.{After-make_room}
use Rattle.iol_cache.proofs.cache.Cache.fill_pinned.Goals as goal

pub count_pages-requires : goal.count_pages-requires
count_pages-requires g c = order_wide c.args.part.now.from c.args.part.now.to 0 4294967295 c.args.gaps.now (omega arith)
    (omega (arith, c.requires.range.end)) c.requires.range.in_order

pub make_room-requires-clause-open : goal.make_room-requires-clause-open
make_room-requires-clause-open g c =
    ap (λ (y : CachedFile). (pool_in c.args.store.now.pools y.pool).closed)
    (file_here _ c.number.ensures c.index.ensures c.requires.range.file)
    ∙ (c.requires.sound.opened c.args.part.now.file c.requires.range.file).is_open

-- room was made for the gaps, or there is none
makes : (g : Over) (c : After-make_room g)
    → MakesFree (file_in c.args.self.now.files.items c.args.part.now.file).pool (gap_pages c.args.gaps.now)
    (holding c.args.store.now c.args.self.now) (holding c.make_room.new.store c.make_room.new.self) c.make_room.result
makes g c =
    let old = holding c.args.store.now c.args.self.now in
    let mid = holding c.make_room.new.store c.make_room.new.self in
    let b = c.make_room.ensures in
    let made : MakesFree c.index.result.now.pool c.count_pages.result old mid c.make_room.result =
    record { room = b.room; free = b.free; victims = b.victims; gives_up = b.gives_up; sound = b.sound } in
    subst (λ (y : CachedFile). MakesFree y.pool (gap_pages c.args.gaps.now) old mid c.make_room.result)
    (file_here _ c.number.ensures c.index.ensures c.requires.range.file)
    (subst (λ n. MakesFree c.index.result.now.pool n old mid c.make_room.result) c.count_pages.ensures made)

-- Without room.

pub release-requires : goal.release-requires
release-requires g c =
    pins_left (g.B.Backing.disk c.args.backing.now) c.requires c.make_room.ensures.gives_up c.make_room.ensures.sound

none_true : (b : Bool) → b ≡ true → b ≡ false → ⊥
none_true b p q = cc

lacks : {p n : ℕ} {a b : Holding} (ok : Bool) → MakesFree p n a b ok → ok ≡ false → LacksPages p n a
lacks {p = p} {n = n} {a = a} ok made none =
    elim (cases_lt (length (pages_of a.store p)) (pinned_beside a.store (clean_held a.cache.files) p + n)) [
      | inl h ↦ h
      | inr h ↦ absurd (none_true ok (made.room.1 h) none)
    ]

pub returns-then-not-make_room : goal.returns-then-not-make_room
returns-then-not-make_room g c =
    let d = g.B.Backing.disk c.args.backing.now in
    let mid = holding c.make_room.new.store c.make_room.new.self in
    let made = makes g (goal.at.returns-then-not-make_room g c).After-make_room in
    let sound = c.make_room.ensures.sound in
    let same = c.make_room.ensures.refused c.if-not-make_room.true in
    let gone = went_none d c.requires made.gives_up sound in
    let r = c.release.ensures in
    record {
      filled = tt;
      undone = record {
        mid = mid;
        victims = made.victims;
        less = made.gives_up;
        full = mid;
        met = inr same;
        kept = λ p is. same;
        same = same_none mid.cache;
        moves = moves_none mid.store;
        placed = places_none mid.store (file_in c.args.self.now.files.items c.args.part.now.file).pool
            (gap_pages c.args.gaps.now);
        lists = refl;
        cache = refl;
        released = r.moves;
        frees = r.frees;
      };
      readable = tt;
      goes = tt;
      gone = goes_out d c.requires gone sound r.moves r.lists r.reclaims r.frees.count;
      sound = sound_out d c.requires gone sound r.moves r.lists r.frees.count;
      room = lacks c.make_room.result made c.if-not-make_room.true;
      asks = record { honest = refl; slots = λ y. refl; counts = refl };
      late = ap (λ (y : CachedFile). y.pool) (file_here _ c.number.ensures c.index.ensures c.requires.range.file);
    }

-- With room.

pub fill-filled-requires : goal.fill-filled-requires
fill-filled-requires g c =
    may_left (g.B.Backing.disk c.args.backing.now) c.requires c.make_room.ensures.gives_up c.make_room.ensures.sound

pub release-requires-2 : goal.release-requires-2
release-requires-2 g c =
    let d = g.B.Backing.disk c.args.backing.now in
    pins_held d c.requires (went d c.requires c.make_room.ensures.gives_up c.make_room.ensures.sound
    c.fill-filled.result c.fill-filled.ensures)

pub returns : goal.returns
returns g c =
    let r = c.release-2.ensures in
    pinned_filled c.fill-filled.result c.requires (makes g (goal.at.returns g c).After-make_room)
    c.if-not-make_room.false c.make_room.ensures.sound c.fill-filled.ensures r.moves r.frees r.lists r.reclaims
