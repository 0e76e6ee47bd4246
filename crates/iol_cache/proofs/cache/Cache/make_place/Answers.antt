use Rattle.std.proofs.Common.{inl, inr, true, false, ◌≡◌, ◌∙◌, ◌+◌, ◌≤◌, Some, length, sym, ap, arith, rules, subst}
use Rattle.std.proofs.lemmas.Bool.{cases_lt}
use Rattle.iol_pool.specs.Pools.{pool_in}
use Rattle.iol_hold.specs.Room.{free_of, pages_of}
use Rattle.iol_hold.specs.StoreState.{Stored}
use Rattle.iol_cache.specs.declared.files.CachedFile.{CachedFile}
use Rattle.iol_cache.specs.Cache.{cached_of, holding}
use Rattle.iol_cache.specs.CacheState.{Cached, clean_held}
use Rattle.iol_cache.specs.Composition.{copied_pages}
use Rattle.iol_cache.specs.Evictions.{EvictsAll, HasPages, Holding}
use Rattle.iol_cache.specs.Overwrites.{LeavesAll, MakesRoom, pages_copied, pool_of}
use Rattle.iol_cache.specs.PinnedPages.{pinned_beside}
use Rattle.iol_cache.specs.RangeReads.{SameButRoom}
use Rattle.iol_cache.specs.ReadResults.{LacksPages}
use Rattle.iol_cache.proofs.Extents.Lookups.{file_here}
use Rattle.iol_cache.proofs.Evictions.Roomy.{sound_same}
use Rattle.iol_cache.proofs.cache.Cache.make_place.Goals.{After-make_room}
use Rattle.iol_cache.proofs.cache.Cache.make_place.Goals as goal

-- without room, only the reserved room differs
refused_room : (s : Stored) (c reserved : Cached) (new : Holding) → SameButRoom c reserved
    → new ≡ record { store = s; cache = reserved } → LeavesAll (record { store = s; cache = c }) new
refused_room s c reserved new same is =
    record {
      store = ap (λ (h : Holding). h.store) is;
      same =
          subst (SameButRoom c) (sym (ap (λ (h : Holding). h.cache) is)) same;
    }

pub returns-in_default : goal.returns-in_default
returns-in_default c = record {
  room = search (rules);
  free = tt;
  fits = tt;
  lacks = search (rules);
  kept = search (rules);
  late = tt;
  places = tt;
  sound = sound_same c.args.store.now (cached_of c.args.self.now) (cached_of c.reserve_places.new.self) c.requires.sound
      c.in_default.ensures.same;
}

pub make_room-requires-clause-sound : goal.make_room-requires-clause-sound
make_room-requires-clause-sound c =
    sound_same c.args.store.now (cached_of c.args.self.now) (cached_of c.reserve_places.new.self) c.requires.sound
    c.in-Ok.ensures.same

pub make_room-requires-clause-open : goal.make_room-requires-clause-open
make_room-requires-clause-open c =
    ap (λ (y : CachedFile). (pool_in c.args.store.now.pools y.pool).closed)
    (file_here _ c.number.ensures c.index.ensures c.requires.file)
    ∙ (c.requires.sound.opened c.args.file c.requires.file).is_open

-- the room in the pool, as the code has the file
room : (c : After-make_room)
    → MakesRoom c.index.result.now.pool (copied_pages c.index.result.now.pool c.args.source.now)
    (holding c.args.store.now c.args.self.now) (holding c.make_room.new.store c.make_room.new.self)
room c = record {
  reserved = cached_of c.reserve_places.new.self;
  rooms = c.in-Ok.ensures.same;
  victims =
      subst (λ n. EvictsAll c.index.result.now.pool (Some n) (holding c.args.store.now c.reserve_places.new.self)
      (holding c.make_room.new.store c.make_room.new.self)) c.foreign_pages.ensures c.make_room.ensures.victims;
  gives_up = c.make_room.ensures.gives_up;
}

pinned : (c : After-make_room)
    → pinned_beside c.args.store.now (clean_held c.reserve_places.new.self.files.items) c.index.result.now.pool
    ≡ pinned_beside c.args.store.now (clean_held c.args.self.now.files.items) c.index.result.now.pool
pinned c = ap (λ l. pinned_beside c.args.store.now l c.index.result.now.pool) c.in-Ok.ensures.same.clean

-- the pool, as the contract has it
here : (c : After-make_room) → c.index.result.now.pool ≡ pool_of c.args.self.now c.args.file
here c = ap (λ (y : CachedFile). y.pool) (file_here _ c.number.ensures c.index.ensures c.requires.file)

rooms : (c : After-make_room)
    → MakesRoom (pool_of c.args.self.now c.args.file) (pages_copied c.args.self.now c.args.file c.args.source.now)
    (holding c.args.store.now c.args.self.now) (holding c.make_room.new.store c.make_room.new.self)
rooms c =
    subst (λ p. MakesRoom p (copied_pages p c.args.source.now) (holding c.args.store.now c.args.self.now)
    (holding c.make_room.new.store c.make_room.new.self)) (here c) (room c)

pub returns-then-make_room : goal.returns-then-make_room
returns-then-make_room c =
    let made = c.make_room.ensures in
    let at = (goal.at.returns-then-make_room c).After-make_room in
    let xs = c.args.source.now in
    record {
      room = rooms at;
      free =
          subst (λ p. copied_pages p xs ≤ length (free_of c.make_room.new.store p)) (here at)
          (omega (arith, made.free c.if-make_room.true, c.foreign_pages.ensures));
      fits = subst (λ p. HasPages p (copied_pages p xs) (holding c.args.store.now c.args.self.now)) (here at)
          (omega (arith, made.room.0 c.if-make_room.true, c.foreign_pages.ensures, pinned at));
      lacks = search (rules);
      kept = tt;
      late = tt;
      places = search (rules);
      sound = made.sound;
    }

pub returns : goal.returns
returns c =
    let made = c.make_room.ensures in
    let at = (goal.at.returns c).After-make_room in
    let p = c.index.result.now.pool in
    let xs = c.args.source.now in
    let old = holding c.args.store.now c.args.self.now in
    record {
      room = rooms at;
      free = tt;
      fits = tt;
      lacks =
          λ q e. subst (λ k. LacksPages k (copied_pages k xs) old) (here at)
          (elim
          (cases_lt (length (pages_of c.args.store.now p))
          (pinned_beside c.args.store.now (clean_held c.args.self.now.files.items) p + copied_pages p xs)) [
            | inl lacks ↦ lacks
            | inr fits ↦
                absurd (true_false (sym (made.room.1 (omega (arith, fits, pinned at, c.foreign_pages.ensures)))
                ∙ c.if-make_room.false))
          ]);
      kept = refused_room c.args.store.now (cached_of c.args.self.now) (cached_of c.reserve_places.new.self)
          (holding c.make_room.new.store c.make_room.new.self) c.in-Ok.ensures.same (made.refused c.if-make_room.false);
      late = here at;
      places = tt;
      sound = made.sound;
    }
  where
    true_false : true ≡ false → ⊥
    true_false h = cc
