use Rattle.std.proofs.Common.{◌≡◌, ◌∙◌, ◌-◌, List, true, length, set, refl, sym, ap, arith, rules, subst}
use Rattle.iol_core.specs.NumberedLists.{is_numbered}
use Rattle.iol_hold.proofs.Moves.{shares_move}
use Rattle.iol_hold.proofs.Releases.{frees_none}
use Rattle.iol_evict.specs.Order.{Ranking}
use Rattle.iol_extent.specs.Extents.{Extent, IsApart}
use Rattle.iol_extent.specs.Spans.{AreInOrder, Tile}
use Rattle.iol_extent.specs.declared.spans.Span.{Span}
use Rattle.iol_hold.specs.Texts.{bufs_of}
use Rattle.iol_cache.specs.declared.files.CachedFile.{CachedFile}
use Rattle.iol_cache.specs.CacheState.{Cached, extents_in, file_in, order_in, with_order}
use Rattle.iol_cache.specs.Cache.{cached_of}
use Rattle.iol_cache.specs.ReadSteps.{CountsHits}
use Rattle.iol_cache.specs.RangeReads.{RanksFile, hits_counted}
use Rattle.iol_cache.specs.SharedBytes.{AreHeld}
use Rattle.iol_cache.specs.Sound.{IsSound}
use Rattle.iol_cache.specs.Weave.{IsCoveredBeside, places_beside, slices_beside}
use Rattle.iol_cache.proofs.Extents.Lookups.{file_here, order_here, order_put, pool_bounds}
use Rattle.iol_cache.proofs.Extents.StoreSteps.{sound_on, sound_to}
use Rattle.iol_cache.proofs.Extents.Steps.{hits_entries_left, numbered_same}
use Rattle.iol_cache.proofs.Evictions.Roomy.{ranks_file, sound_hits, sound_same}
use Rattle.iol_cache.proofs.RangeReads.WholeRange.{file_held}
use Rattle.iol_cache.proofs.RangeReads.CoveredBytes.{tile_beside}
use Rattle.iol_cache.proofs.RangeReads.Weave.{still_covers}
use Rattle.iol_cache.proofs.cache.Cache.pin.Goals.{After-count_hits, After-index-cached}
use Rattle.iol_cache.proofs.cache.Cache.pin.Goals as goal

-- room was reserved, and the file is indexed
module _ (c : After-index-cached) where
  abbrev now : Cached
  now = cached_of c.reserve_places.new.self

  sound : IsSound c.args.store.now now
  sound = sound_same c.args.store.now (cached_of c.args.self.now) now c.requires.sound c.reserve_places.ensures.same

  there : is_numbered now.files c.args.part.now.file ≡ true
  there = numbered_same (cached_of c.args.self.now) now c.args.part.now.file c.reserve_places.ensures.same
      c.requires.file

  tile : Tile (extents_in c.args.self.now.files.items c.args.part.now.file) c.args.part.now.from c.args.part.now.to
      c.in_ok-found.found.hits.items c.in_ok-found.found.gaps.items
  tile =
      let x = file_here _ c.number.ensures c.index.ensures c.requires.file in
      subst (λ (y : CachedFile). Tile y.extents.extents c.args.part.now.from c.args.part.now.to
      c.in_ok-found.found.hits.items c.in_ok-found.found.gaps.items) x
      (c.in_ok-found.ensures.tile c.requires.ordered)

  here : c.index-cached.result.now ≡ file_in now.files c.args.part.now.file
  here = file_here _ c.number.ensures c.index-cached.ensures there

pub returns-in_err-reserve_places : goal.returns-in_err-reserve_places
returns-in_err-reserve_places c =
    let s = c.args.store.now in
    record {
      pinned = search (rules);
      sound =
          sound_same s (cached_of c.args.self.now) (cached_of c.reserve_places.new.self) c.requires.sound
          c.reserve_places.ensures.same;
      same = search (rules);
      none = search (rules);
      frees =
          frees_none s s refl refl refl;
      lists = refl;
      reclaims = λ all. all;
    }

pub share_beside-requires : goal.share_beside-requires
share_beside-requires c =
    let at = (goal.at.share_beside-requires c).After-index-cached in
    let from = c.args.part.now.from in
    let to = c.args.part.now.to in
    let gaps = c.in_ok-found.found.gaps.items in
    let es = extents_in c.args.self.now.files.items c.args.part.now.file in
    let same = ap (λ (y : CachedFile). y.extents.extents) (here at)
    ∙ c.reserve_places.ensures.same.extents c.args.part.now.file in
    let beside = tile_beside es from to c.in_ok-found.found.hits.items gaps (tile at) in
    let value = sym c.deref.ensures.value in
    record {
      there = subst (λ (y : CachedFile). AreHeld c.args.store.now y.extents.extents) (sym (here at))
          (file_held c.args.part.now.file (sound at));
      in_order = subst (AreInOrder from to) value (tile at).gaps;
      covered =
          subst (λ (l : List Extent). IsCoveredBeside l from to c.deref.result.now) (sym same)
          (subst (IsCoveredBeside es from to) value beside);
      few = record { each = λ b. omega (arith, c.requires.few.each b) };
    }

pub returns-in_err-pins : goal.returns-in_err-pins
returns-in_err-pins c =
    let at = (goal.at.returns-in_err-pins c).After-index-cached in
    let w = c.share_beside.ensures.shared in
    record {
      pinned = search (rules);
      sound =
          sound_to c.args.store.now c.share_beside.new.store (now at) (sound at) c.in_err-pins.ensures.shared.gone
          w.lists
          w.frees.count;
      same = search (rules);
      none = search (rules);
      frees = w.frees;
      lists = w.lists;
      reclaims =
          w.reclaims;
    }

pub overflow_sub-number : goal.overflow_sub-number
overflow_sub-number c =
    let at = (goal.at.overflow_sub-number c).After-index-cached in
    let b = pool_bounds c.args.part.now.file (sound at) (there at) in
    omega (arith, b.0, c.number-2.ensures, ap (λ (y : CachedFile). y.pool) (here at))

pub index_mut-requires : goal.index_mut-requires
index_mut-requires c =
    let at = (goal.at.index_mut-requires c).After-index-cached in
    let b = pool_bounds c.args.part.now.file (sound at) (there at) in
    omega (
      arith,
      b.0,
      b.1,
      c.number-2.ensures,
      ap (λ (y : CachedFile). y.pool) (here at),
      c.reserve_places.new.self.orders.ok.0,
    )

pub count_hits-requires-clause-apart : goal.count_hits-requires-clause-apart
count_hits-requires-clause-apart c =
    let at = (goal.at.count_hits-requires-clause-apart c).After-index-cached in
    subst (λ (y : CachedFile). IsApart 0 y.extents.extents) (sym (here at))
    ((sound at).files c.args.part.now.file).apart

pub count_hits-requires-clause-ranked : goal.count_hits-requires-clause-ranked
count_hits-requires-clause-ranked c =
    let at = (goal.at.count_hits-requires-clause-ranked c).After-index-cached in
    let f = c.args.part.now.file in
    let n = now at in
    let x = here at in
    let sound-n = sound at in
    let o = order_here f sound-n (there at) x c.number-2.ensures c.index_mut.ensures.value in
    subst (λ (r : Ranking). RanksFile r f c.index-cached.result.now.extents.extents) (sym o)
    (subst (λ (y : CachedFile). RanksFile (order_in n.orders (file_in n.files f).pool) f y.extents.extents) (sym x)
    (ranks_file c.args.store.now n f sound-n))

-- the hits were counted
module _ (c : After-count_hits) where
  abbrev indexed : After-index-cached
  indexed = (goal.at.After-count_hits c).After-index-cached

  abbrev next : Cached
  next = let n = now indexed in
      record { files = n.files; orders = set n.orders (c.number-2.result - 1) c.count_hits.new.order; marks = n.marks }

  counted : CountsHits c.args.part.now.file c.in_ok-found.found.hits.items (now indexed) next
  counted =
      let f = c.args.part.now.file in
      let n = now indexed in
      let sound-n = sound indexed in
      let there-n = there indexed in
      let x = here indexed in
      let p = (file_in n.files f).pool in
      let o = order_here f sound-n there-n x c.number-2.ensures c.index_mut.ensures.value in
      let is = c.count_hits.ensures
      ∙ ap (λ (r : Ranking). hits_counted r f c.index-cached.result.now.extents.extents c.deref-2.result.now) o
      ∙ ap (λ (y : CachedFile). hits_counted (order_in n.orders p) f y.extents.extents c.deref-2.result.now) x
      ∙ ap (hits_counted (order_in n.orders p) f (extents_in n.files f)) c.deref-2.ensures.value in
      record {
        files = refl;
        marks = refl;
        orders =
            order_put f sound-n there-n c.count_hits.new.order x c.number-2.ensures ∙ ap (with_order n.orders p) is;
      }

pub returns : goal.returns
returns c =
    let at = goal.at.returns c in
    let f = c.args.part.now.file in
    let found = c.in_ok-found.found in
    let s = c.args.store.now in
    let t = c.share_beside.new.store in
    let n = now at.After-index-cached in
    let same = c.reserve_places.ensures.same in
    let hits = counted at.After-count_hits in
    let w = c.share_beside.ensures.shared in
    let shares = c.in_ok-pins.ensures.shared.shares in
    let sound-n = sound at.After-index-cached in
    let sound-t = sound_on s t n sound-n (shares_move shares) (still_covers sound-n.covered shares) w.lists
    w.frees.count in
    let lies = c.in_ok-pins.ensures.places
    ∙ ap (places_beside c.index-cached.result.now.extents.extents c.args.part.now.from c.args.part.now.to)
    c.deref.ensures.value
    ∙ ap (λ (es : List Extent). places_beside es c.args.part.now.from c.args.part.now.to found.gaps.items)
    (ap (λ (y : CachedFile). y.extents.extents) (here at.After-index-cached) ∙ same.extents f) in
    let parts = c.in_ok-pins.ensures.parts
    ∙ ap
    (λ (gs : List Span). bufs_of (slices_beside c.index-cached.result.now.extents.extents c.args.part.now.from
    c.args.part.now.to gs)) c.deref.ensures.value
    ∙ ap (λ (es : List Extent). bufs_of (slices_beside es c.args.part.now.from c.args.part.now.to found.gaps.items))
    (ap (λ (y : CachedFile). y.extents.extents) (here at.After-index-cached) ∙ same.extents f) in
    record {
      pinned = record {
        hits = found.hits.items;
        tile = tile at.After-index-cached;
        lies = lies;
        parts = parts;
        shares = shares;
        reserved = n;
        rooms = same;
        counted = hits;
        space = omega (arith, c.len.ensures, c.in_ok-reserve_places.ensures.extents);
        entries = hits_entries_left s n (next at.After-count_hits) f (length found.gaps.items) found.hits.items sound-n
            (there at.After-index-cached) hits
            (omega (
              arith,
              c.len.ensures,
              c.in_ok-reserve_places.ensures.entries,
              ap (λ p. (order_in n.orders p).room) (same.pools f),
            ));
      };
      sound = sound_hits t n (next at.After-count_hits) f found.hits.items sound-t (there at.After-index-cached) hits;
      same = tt;
      none = tt;
      frees = w.frees;
      lists = w.lists;
      reclaims = w.reclaims;
    }
