use Rattle.std.proofs.Common.{inl, inr, ◌≡◌, ◌∙◌, ℕ, ◌+◌, ◌<◌, ◌≤◌, List, [], ◌∷◌, length, refl, rules, sym, ap, arith}
use Rattle.std.proofs.Common.{subst}
use Rattle.std.specs.Prelude.{Result, Err, IfErr}
use mathlib.Core.Bool.{not}
use Rattle.std.proofs.lemmas.Bool.Decides.{nat_tests}
use Rattle.std.proofs.lemmas.Grind.{common_steps}
use Rattle.std.proofs.lemmas.List.Filters.{length-filter_both}
use Rattle.iol_back.specs.Disk.{overwritten}
use Rattle.iol_hold.specs.Places.{byte_len}
use Rattle.iol_hold.specs.Room.{free_of, pages_of}
use Rattle.iol_hold.specs.StoreState.{Stored}
use Rattle.iol_hold.specs.declared.slices.Slice.{Slice}
use Rattle.iol_hold.proofs.Moves.{moves_none, shares_none}
use Rattle.iol_hold.proofs.SlicePlaces.{byte_len-cons}
use Rattle.iol_core.specs.Meaning.{WantOfRoom}
use Rattle.iol_core.specs.declared.numbers.BufId.{BufId}
use Rattle.iol_core.specs.declared.refusals.Refusal.{Refusal}
use Rattle.iol_core.specs.declared.refusals.Refusal.TheVariants.{NoRoom}
use Rattle.iol_cache.specs.declared.cache.Cache.{Cache}
use Rattle.iol_cache.specs.Cache.{cached_of, holding}
use Rattle.iol_cache.specs.CacheState.{Cached, clean_held, extents_in}
use Rattle.iol_cache.specs.Composition.{copied_pages}
use Rattle.iol_cache.specs.Evictions.{Holding}
use Rattle.iol_cache.specs.Overwrites.{IsWritten, LiesDirty, OnlyMakesRoom, WritesFile, bytes_in, pages_copied, pool_of}
use Rattle.iol_cache.specs.PinnedPages.{is_pinned, pinned_beside}
use Rattle.iol_cache.proofs.RangeWrites.Composition.{pages_for-zero}
use Rattle.iol_cache.proofs.RangeReads.FilledGaps.{leaves_as}
use Rattle.iol_cache.proofs.RangeReads.PageChanges.{fills_none, frees_shares, unwritten_pages, write_pages}
use Rattle.iol_cache.proofs.RangeReads.RangeHolds.{places_none}
use Rattle.iol_cache.proofs.RangeReads.SharedBytes.{length-places_over}
use Rattle.iol_cache.proofs.RangeWrites.WriteAfterRoom.{KeepsAll, Wrote, all_wrote, goes_all, goes_refused, goes_room}
use Rattle.iol_cache.proofs.RangeWrites.WriteAfterRoom.{room_held, room_numbered, room_readable}
use Rattle.iol_cache.proofs.cache.Cache.write.Goals as goal

pages_none : (p : ℕ) (xs : List Slice) → byte_len xs ≡ 0 → copied_pages p xs ≡ 0
pages_none p [] none = pages_for-zero
pages_none p (x ∷ xs) none = absurd (omega (arith, none, byte_len-cons x xs, x.some))

pinned_few : (s : Stored) (clean : List BufId) (p : ℕ) → pinned_beside s clean p ≤ length (pages_of s p)
pinned_few s clean p =
    omega (arith, length-filter_both (is_pinned s clean) (λ q. not (is_pinned s clean q)) (λ q. refl) (pages_of s p))

-- A write of no bytes.

whole : (at : ℕ) (old : List ℕ) → old ≡ overwritten at [] old
whole at old = grind (arith, common_steps)

written_none : (h : Holding) (f at : ℕ) (xs : List Slice) → byte_len xs ≡ 0 → IsWritten f at xs h h
written_none h f at [] none = record { each = λ slots mirrors begins. whole at (bytes_in h slots f) }
written_none h f at (x ∷ xs) none = absurd (omega (arith, none, byte_len-cons x xs, x.some))

lies_none : (c : Cached) (f at : ℕ) (xs : List Slice) → byte_len xs ≡ 0 → LiesDirty f at xs c
lies_none c f at xs none = record {
  dirty = λ i lo hi. absurd (omega (arith, none, lo, hi));
  own = record {
    long = omega (arith, none, length-places_over (extents_in c.files f) at (at + byte_len xs));
    each =
        λ i h own. absurd (omega (arith, none, h));
  };
}

pub returns-then-is_empty : goal.returns-then-is_empty
returns-then-is_empty c =
    let xs = c.args.source.now in
    let p = pool_of c.args.self.now c.args.file in
    let none : byte_len xs ≡ 0 = grind (arith, nat_tests, c.if-is_empty.ensures, c.is_empty.ensures) in
    let s = c.args.store.now in
    let same = moves_none s in
    record {
      written = written_none (holding s c.args.self.now) c.args.file c.args.at xs none;
      others = record { each = λ slots mirrors g ne. refl };
      refused = tt;
      mirrors = record { each = λ slots mirrors. mirrors };
      lies = lies_none (cached_of c.args.self.now) c.args.file c.args.at xs none;
      writes = λ some. absurd (omega (arith, none, some));
      evicts = tt;
      nothing = λ is. refl;
      room = omega (arith, pages_none p xs none, pinned_few s (clean_held c.args.self.now.files.items) p);
      no_room = search (rules);
      kept = search (rules);
      late = tt;
      moves = record { counts = record { each = λ b. refl }; stays = same.stays; still = same.still; tidy = same.tidy };
      pages = fills_none p (frees_shares (shares_none s));
      lists = refl;
      reclaims = λ h. h;
      sound = c.requires.sound;
    }

-- Refused before there was room.

kept : (c : goal.In-Err)
    → KeepsAll c.args.file (holding c.args.store.now c.args.self.now)
    (holding c.make_place.new.store c.make_place.new.self)
kept c = goes_all c.args.file _ _ (λ d. goes_room d [] _ _ _ _ c.make_place.ensures.room)

only_room : (c : goal.In-Err)
    → OnlyMakesRoom (pool_of c.args.self.now c.args.file) (pages_copied c.args.self.now c.args.file c.args.source.now)
    (holding c.args.store.now c.args.self.now) (holding c.make_place.new.store c.make_place.new.self)
only_room c =
    let mid = holding c.make_place.new.store c.make_place.new.self in
    record {
      mid = mid;
      room = c.make_place.ensures.room;
      placed =
          places_none mid.store (pool_of c.args.self.now c.args.file)
          (pages_copied c.args.self.now c.args.file c.args.source.now);
      cache = refl;
      met = inr c.in-Err.ensures.kept;
    }

pub returns-in-Err : goal.returns-in-Err
returns-in-Err c =
    let some : 0 < byte_len c.args.source.now = grind (arith, nat_tests, c.if-is_empty.ensures, c.is_empty.ensures) in
    let m = c.make_place.ensures in
    let e = c.in-Err.ensures in
    record {
      written = tt;
      others = (kept c).others;
      refused = (kept c).files;
      mirrors = (kept c).mirrors;
      lies = tt;
      writes = λ more. tt;
      evicts = only_room c;
      nothing = λ none. absurd (omega (arith, none, some));
      room = tt;
      no_room = e.lacks;
      kept = λ q is. e.kept;
      late = e.late;
      moves = (kept c).moves;
      pages = unwritten_pages _ _ _ _ (only_room c);
      lists = m.room.gives_up.lists;
      reclaims = m.room.gives_up.reclaims;
      sound = m.sound;
    }

pub overwrite-requires : goal.overwrite-requires
overwrite-requires c =
    let m = c.make_place.ensures in
    record {
      may = record {
        sound = m.sound;
        file = room_numbered _ _ c.args.file _ _ m.room c.requires.file;
        short = c.requires.short;
        held = room_held _ _ c.args.source.now _ _ m.room c.requires.held;
        readable = room_readable _ _ c.args.source.now _ _ m.room c.requires.held c.requires.readable;
        few = record { each = λ b. omega (arith, c.requires.few.each b, m.room.gives_up.fewer b) };
      };
      some = grind (arith, nat_tests, c.if-is_empty.ensures, c.is_empty.ensures);
      places = search (rules);
    }

-- Carried out.

done : (c : goal.In-Ok) → Wrote c.args.file c.args.at c.args.source.now (holding c.args.store.now c.args.self.now)
    (holding c.overwrite.new.store c.overwrite.new.self)
done c =
    let some : 0 < byte_len c.args.source.now = grind (arith, nat_tests, c.if-is_empty.ensures, c.is_empty.ensures) in
    all_wrote _ _ _ c.args.file c.args.at _ _ c.args.source.now c.make_place.ensures.room c.make_place.ensures.sound
    c.requires.file c.overwrite.ensures.sound some c.in-Ok.ensures.overwrites c.requires.held c.requires.readable

wrote : (c : goal.In-Ok) → WritesFile c.args.file c.args.at c.args.source.now (holding c.args.store.now c.args.self.now)
    (holding c.overwrite.new.store c.overwrite.new.self)
wrote c = record {
  mid = holding c.make_place.new.store c.make_place.new.self;
  room = c.make_place.ensures.room;
  over =
      c.in-Ok.ensures.overwrites;
}

pub returns-in-Ok : goal.returns-in-Ok
returns-in-Ok c =
    let some : 0 < byte_len c.args.source.now = grind (arith, nat_tests, c.if-is_empty.ensures, c.is_empty.ensures) in
    let m = c.make_place.ensures.room.gives_up in
    let e = c.overwrite.ensures in
    record {
      written = (done c).written;
      others = (done c).others;
      refused = tt;
      mirrors = (done c).mirrors;
      lies = (done c).lies;
      writes = λ more. wrote c;
      evicts = tt;
      nothing = λ none. absurd (omega (arith, none, some));
      room = search (rules);
      no_room = search (rules);
      kept = search (rules);
      late = tt;
      moves = (done c).moves;
      pages = write_pages c.args.file c.args.at c.args.source.now _ _ (wrote c);
      lists = e.leaves.lists ∙ m.lists;
      reclaims = λ h. e.leaves.reclaims (m.reclaims h);
      sound = e.sound;
    }

-- Refused after room was made: the store made a step, and the cache did not change.

stayed : (c : goal.In-Err-overwrite)
    → KeepsAll c.args.file (holding c.args.store.now c.args.self.now)
    (holding c.overwrite.new.store c.overwrite.new.self)
stayed c =
    let old = holding c.args.store.now c.args.self.now in
    let t = c.overwrite.new.store in
    let e = c.in-Err-overwrite.ensures.leaves in
    subst (λ (x : Cache). KeepsAll c.args.file old (holding t x)) (sym c.in-Err-overwrite.ensures.same)
    (goes_all c.args.file old _ (λ d. goes_refused d _ _ _ _ t c.make_place.ensures.room c.make_place.ensures.sound
    e.none e.lists e.reclaims e.given_back.pages.count))

-- the pool of the file is unchanged
same_pool : (c : goal.In-Err-overwrite)
    → pool_of c.make_place.new.self c.args.file ≡ pool_of c.args.self.now c.args.file
same_pool c = (let m = c.make_place.ensures.room in m.gives_up.keeps.pools c.args.file ∙ m.rooms.pools c.args.file)

-- so the refusal is not NoRoom, because that many pages are free
roomy : (c : goal.In-Err-overwrite) (q : ℕ)
    → ◌≡◌ {A = Result (Unit {0}) Refusal} (Err c.in-Err-overwrite.refusal) (Err (NoRoom q)) → ⊥
roomy c q is =
    let refusal = c.in-Err-overwrite.refusal in
    let xs = c.args.source.now in
    let free : pages_copied c.args.self.now c.args.file xs
    ≤ length (free_of c.make_place.new.store (pool_of c.args.self.now c.args.file)) = search (rules) in
    let left =
    leaves_as {B = Unit {0}} (same_pool c) (ap (λ p. copied_pages p xs) (same_pool c))
    c.in-Err-overwrite.ensures.leaves in
    omega (arith, free, left.no_room q (subst (λ (r : Result (Unit {0}) Refusal). IfErr r (λ x. refusal ≡ x)) is refl))

back : (c : goal.In-Err-overwrite)
    → OnlyMakesRoom (pool_of c.args.self.now c.args.file) (pages_copied c.args.self.now c.args.file c.args.source.now)
    (holding c.args.store.now c.args.self.now) (holding c.overwrite.new.store c.overwrite.new.self)
back c =
    let xs = c.args.source.now in
    let left =
    leaves_as {B = Unit {0}} (same_pool c) (ap (λ p. copied_pages p xs) (same_pool c))
    c.in-Err-overwrite.ensures.leaves in
    record {
      mid = holding c.make_place.new.store c.make_place.new.self;
      room = c.make_place.ensures.room;
      placed = left.given_back;
      cache = ap (λ (x : Cache). cached_of x) c.in-Err-overwrite.ensures.same;
      met = inl (search (rules));
    }

pub returns-in-Err-overwrite : goal.returns-in-Err-overwrite
returns-in-Err-overwrite c =
    let some : 0 < byte_len c.args.source.now = grind (arith, nat_tests, c.if-is_empty.ensures, c.is_empty.ensures) in
    let m = c.make_place.ensures.room.gives_up in
    let e = c.in-Err-overwrite.ensures in
    record {
      written = tt;
      others = (stayed c).others;
      refused = (stayed c).files;
      mirrors = (stayed c).mirrors;
      lies = tt;
      writes = λ more. tt;
      evicts = back c;
      nothing = λ none. absurd (omega (arith, none, some));
      room = tt;
      no_room = λ q is. absurd (roomy c q is);
      kept = λ q is. absurd (roomy c q is);
      late = subst (λ p. WantOfRoom p c.in-Err-overwrite.refusal) (same_pool c) e.late;
      moves = (stayed c).moves;
      pages = unwritten_pages _ _ _ _ (back c);
      lists = e.leaves.lists ∙ m.lists;
      reclaims = λ h. e.leaves.reclaims (m.reclaims h);
      sound = e.sound;
    }
