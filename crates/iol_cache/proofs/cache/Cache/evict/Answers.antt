use Rattle.std.proofs.Common.{◌≡◌, ℕ, ◌<◌, ◌≤◌, ◌∙◌, Bool, List, [], length, Some, IsSome, refl, sym, ap, arith, subst}
use Rattle.iol_hold.specs.Moves.{Covers, Moves}
use Rattle.iol_hold.specs.StoreState.{Stored}
use Rattle.iol_hold.specs.Texts.{bufs_of, AllReadable}
use Rattle.iol_hold.specs.declared.slices.Slice.{Slice}
use Rattle.iol_extent.specs.Extents.{Extent, begins_at}
use Rattle.iol_evict.specs.Order.{Ranking, entry_at, evicted_at}
use Rattle.iol_evict.specs.Victims.{AreUsedBelow}
use Rattle.iol_evict.specs.declared.entry.Rank.{Rank}
use Rattle.iol_cache.specs.declared.files.CachedFile.{CachedFile}
use Rattle.iol_cache.specs.Marks.{HaveMarks, Unmarks}
use Rattle.iol_cache.specs.CacheState.{Cached, file_in, order_in, extents_in, parts_at, parts_in}
use Rattle.iol_cache.specs.Cache.{cached_of, holding}
use Rattle.iol_cache.specs.Sound.{IsSound, IsLaid}
use Rattle.iol_cache.specs.Evictions.{Evicts, EvictsOne, Holding, IsCleanAt}
use Rattle.iol_cache.proofs.Extents.FileEntries.{file_at_number, order_at_number, numbered_bounds, numbered_yes}
use Rattle.iol_cache.proofs.Extents.FileEntries.{additive_page, each-begins}
use Rattle.iol_cache.proofs.Extents.HeldSlices.{clean_numbered, are_within, covers_at, sum-clean_at}
use Rattle.iol_cache.proofs.Evictions.RankedEntries.{clean_ranked, entry_there}
use Rattle.iol_cache.proofs.Evictions.AfterEviction.{given_is, begins_in, files_are, orders_are, sound_evicted}
use Rattle.iol_cache.proofs.Evictions.PassedExtents.{passed_evicted}
use Rattle.iol_cache.proofs.cache.Cache.evict.Goals.{After-index_mut-2}
use Rattle.iol_cache.proofs.cache.Cache.evict.Goals as goal

ordered_pool : (s : Stored) (c : Cached) (f at : ℕ) → IsSound s c → IsCleanAt c.files f at
    → (0 < (file_in c.files f).pool) × ((file_in c.files f).pool ≤ length c.orders)
ordered_pool s c f at sound there =
    (let n = clean_numbered there in
    numbered_bounds c.orders (file_in c.files f).pool (sound.opened f (numbered_yes c.files f n.0 n.1)).ordered)

some_of : (es : List Extent) (at : ℕ) (e : Extent) → begins_at es at ≡ Some e → IsSome (begins_at es at)
some_of es at e h = subst IsSome (sym h) refl

-- the order of its pool
order : (c : After-index_mut-2)
    → c.index_mut-2.result.now ≡ order_in c.args.self.now.orders.items
    (file_in c.args.self.now.files.items c.args.file).pool
order c =
    let fs = c.args.self.now.files.items in
    let read =
    file_at_number fs c.args.file c.number.result c.index.result.now c.number.ensures
    (clean_numbered c.requires.clean) c.index.ensures in
    order_at_number c.args.self.now.orders.items (file_in fs c.args.file).pool c.number-2.result
    c.index_mut-2.result.now (c.number-2.ensures ∙ ap (λ (y : CachedFile). y.pool) read)
    (ordered_pool c.args.store.now (cached_of c.args.self.now) c.args.file c.args.at c.requires.sound
    c.requires.clean) c.index_mut-2.ensures.value

pub overflow_sub-place : goal.overflow_sub-place
overflow_sub-place c = let b = clean_numbered c.requires.clean in omega (arith, b.0, c.number.ensures)

pub index-requires : goal.index-requires
index-requires c = let b = clean_numbered c.requires.clean in
    omega (arith, b.0, b.1, c.number.ensures, c.args.self.now.files.ok.0)

pub index_mut-requires : goal.index_mut-requires
index_mut-requires c = let b = clean_numbered c.requires.clean in
    omega (arith, b.0, b.1, c.number.ensures, c.args.self.now.files.ok.0)

pub remove-agg-requires : goal.remove-agg-requires
remove-agg-requires c =
    let fs = c.args.self.now.files.items in
    let x =
    file_at_number fs c.args.file c.number.result c.index_mut.result.now c.number.ensures
    (clean_numbered c.requires.clean) c.index_mut.ensures.value in
    some_of c.index_mut.result.now.extents.extents c.args.at c.requires.clean.extent
    (begins_in fs c.args.file c.args.at c.index_mut.result.now c.requires.clean.extent x c.requires.clean.begins)

pub set_clean-requires-clause-within : goal.set_clean-requires-clause-within
set_clean-requires-clause-within c =
    let fs = c.args.self.now.files.items in
    let x =
    file_at_number fs c.args.file c.number.result c.index_mut.result.now c.number.ensures
    (clean_numbered c.requires.clean) c.index_mut.ensures.value in
    let parts = c.slices.ensures ∙ given_is c.index_mut.result.now.extents.extents c.args.at c.requires.clean.extent
    c.remove-agg.result (begins_in fs c.args.file c.args.at c.index_mut.result.now c.requires.clean.extent x
    c.requires.clean.begins) c.remove-agg.ensures.given in
    are_within c.slices.result.now _ c.requires.sound.pages
    (subst (λ xs. Covers c.args.store.now (bufs_of xs)) (sym parts)
    (covers_at fs c.args.file c.args.at c.requires.clean.extent c.requires.clean.begins c.requires.sound.covered))

pub set_clean-requires-clause-can : goal.set_clean-requires-clause-can
set_clean-requires-clause-can c =
    let fs = c.args.self.now.files.items in
    let there = c.requires.clean in
    let x = file_at_number fs c.args.file c.number.result c.index_mut.result.now c.number.ensures (clean_numbered there)
    c.index_mut.ensures.value in
    let parts = c.slices.ensures ∙ given_is c.index_mut.result.now.extents.extents c.args.at there.extent
    c.remove-agg.result (begins_in fs c.args.file c.args.at c.index_mut.result.now there.extent x there.begins)
    c.remove-agg.ensures.given in
    subst (HaveMarks c.args.self.now.marks) (sym parts)
    (record {
      each =
          λ p. omega (
            arith,
            c.requires.sound.marked.each p,
            sum-clean_at _ (additive_page p) fs c.args.file c.args.at
                there.extent there.begins there.clean,
          );
    })

pub overflow_sub-number : goal.overflow_sub-number
overflow_sub-number c =
    let fs = c.args.self.now.files.items in
    let x =
    file_at_number fs c.args.file c.number.result c.index.result.now c.number.ensures
    (clean_numbered c.requires.clean) c.index.ensures in
    let b = ordered_pool c.args.store.now (cached_of c.args.self.now) c.args.file c.args.at c.requires.sound
    c.requires.clean in
    omega (arith, b.0, c.number-2.ensures, ap (λ (y : CachedFile). y.pool) x)

pub index_mut-requires-2 : goal.index_mut-requires-2
index_mut-requires-2 c =
    let fs = c.args.self.now.files.items in
    let x =
    file_at_number fs c.args.file c.number.result c.index.result.now c.number.ensures
    (clean_numbered c.requires.clean) c.index.ensures in
    let b = ordered_pool c.args.store.now (cached_of c.args.self.now) c.args.file c.args.at c.requires.sound
    c.requires.clean in
    omega (arith, b.0, b.1, c.number-2.ensures, ap (λ (y : CachedFile). y.pool) x, c.args.self.now.orders.ok.0)

pub evict-requires : goal.evict-requires
evict-requires c =
    let fs = c.args.self.now.files.items in
    let os = c.args.self.now.orders.items in
    let there =
    entry_there (order_in os (file_in fs c.args.file).pool).entries c.args.file c.args.at
    (clean_ranked fs os c.args.file c.args.at c.requires.sound.ranked (c.requires.sound.files c.args.file)
    c.requires.clean) in
    λ none.
    there
    (sym
    (ap (λ (r : Ranking). entry_at r.entries c.args.file c.args.at)
    (order (goal.at.evict-requires c).After-index_mut-2)) ∙ none)

pub release-requires : goal.release-requires
release-requires c =
    let fs = c.args.self.now.files.items in
    let there = c.requires.clean in
    let x = file_at_number fs c.args.file c.number.result c.index_mut.result.now c.number.ensures (clean_numbered there)
    c.index_mut.ensures.value in
    let parts = given_is c.index_mut.result.now.extents.extents c.args.at there.extent c.remove-agg.result
    (begins_in fs c.args.file c.args.at c.index_mut.result.now there.extent x there.begins)
    c.remove-agg.ensures.given in
    subst (λ xs. Covers c.args.store.now (bufs_of xs)) (sym parts)
    (covers_at fs c.args.file c.args.at there.extent there.begins c.requires.sound.covered)

-- the eviction keeps the cache sound, and the extents that the search passed in use
evicted : (old new : Holding) (f at : ℕ) (was now : Rank) (r s : Ranking) → IsSound old.store old.cache
    → Unmarks old.cache.marks new.cache.marks (parts_at old.cache.files f at)
    → r ≡ order_in old.cache.orders (file_in old.cache.files f).pool → s ≡ evicted_at r f at
    → ((u : ℕ → ℕ → Bool) → AreUsedBelow u was r.entries → AreUsedBelow u now s.entries) → Evicts f at old new
    → EvictsOne f at was now old new
evicted old new f at was now r s sound unmarks order is keeps gone =
    let after = sound_evicted old new f at sound gone unmarks in
    record {
      evicts = gone;
      sound = after;
      below =
          passed_evicted old new f at was now r s sound after gone order is keeps;
    }

pub returns : goal.returns
returns c =
    let fs = c.args.self.now.files.items in
    let os = c.args.self.now.orders.items in
    let there = c.requires.clean in
    let numbered = clean_numbered there in
    let p = (file_in fs c.args.file).pool in
    let read = file_at_number fs c.args.file c.number.result c.index.result.now c.number.ensures numbered
    c.index.ensures in
    let x = file_at_number fs c.args.file c.number.result c.index_mut.result.now c.number.ensures numbered
    c.index_mut.ensures.value in
    let parts = given_is c.index_mut.result.now.extents.extents c.args.at there.extent c.remove-agg.result
    (begins_in fs c.args.file c.args.at c.index_mut.result.now there.extent x there.begins)
    c.remove-agg.ensures.given in
    let whole : c.remove-agg.result ≡ parts_at fs c.args.file c.args.at = parts ∙ sym (ap parts_in there.begins) in
    let b = ordered_pool c.args.store.now (cached_of c.args.self.now) c.args.file c.args.at c.requires.sound there in
    let pool = c.number-2.ensures ∙ ap (λ (y : CachedFile). y.pool) read in
    let o = order (goal.at.returns c).After-index_mut-2 in
    let laid = each-begins (IsLaid c.args.store.now p) (extents_in fs c.args.file) c.args.at there.extent
    (c.requires.sound.files c.args.file).laid there.begins in
    let unmarks =
    subst (Unmarks c.args.self.now.marks c.set_clean.new.self) (c.slices.ensures ∙ whole) c.set_clean.ensures in
    evicted (holding c.args.store.now c.args.self.now) _ c.args.file c.args.at c.args.passed.now c.evict.new.passed
    c.index_mut-2.result.now c.evict.new.self c.requires.sound unmarks o c.evict.ensures.evicted
    c.evict.ensures.below (record {
      there = there;
      files = files_are fs c.args.file c.args.at c.number.result c.index_mut.result.now c.remove-agg.new.self
          c.number.ensures numbered.0 x c.remove-agg.ensures.extents c.remove-agg.ensures.room;
      orders = orders_are os p c.args.file c.args.at c.number-2.result c.index_mut-2.result.now c.evict.new.self pool
          b.0 o c.evict.ensures.evicted;
      moves = subst (λ (xs : List Slice). Moves c.args.store.now c.release.new.store (bufs_of xs) []) whole
          c.release.ensures.moves;
      frees = c.release.ensures.frees;
      lists = c.release.ensures.lists;
      reclaims = c.release.ensures.reclaims (subst (AllReadable c.args.store.now) (sym parts) laid.readable);
    })
