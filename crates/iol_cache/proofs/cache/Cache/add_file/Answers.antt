use Rattle.std.proofs.Common.{◌≡◌, ◌∙◌, ◌∷◌, ◌++◌, List, [], ℕ, ap, refl, arith, rules}
use Rattle.iol_extent.specs.Extents.{ExtentMap}
use Rattle.iol_cache.specs.declared.files.CachedFile.{CachedFile}
use Rattle.iol_cache.specs.CacheState.{new_file}
use Rattle.iol_cache.specs.Cache.{cached_of}
use Rattle.iol_cache.proofs.Extents.NewFiles.{sound_added}
use Rattle.iol_cache.proofs.cache.Cache.add_file.Goals as goal

pushed : (fs gs : List CachedFile) (p : ℕ) (m : ExtentMap) → gs ≡ fs ++ record { pool = p; extents = m } ∷ []
    → m ≡ record { extents = []; room = 0 } → gs ≡ fs ++ new_file p ∷ []
pushed fs gs p m e is =
    e ∙ ap (λ (y : ExtentMap). fs ++ (let x : CachedFile = record { pool = p; extents = y } in x) ∷ []) is

pub returns : goal.returns
returns c =
    let e = c.add_orders.ensures in
    let added = pushed c.args.self.now.files.items _ c.args.pool c.new.result (c.push_reserved.ensures.items
    ∙ ap (λ (l : List CachedFile). l ++ record { pool = c.args.pool; extents = c.new.result } ∷ [])
    c.reserve.ensures.items) c.new.ensures in
    record {
      number = search (rules);
      added = added;
      err = tt;
      orders = e.same;
      sound = λ s sound is. sound_added s (cached_of c.args.self.now) _ c.args.pool sound c.requires is added e.same
          (omega (arith, c.in_ok-add_orders.ensures.enough, c.number.ensures)) e.no_fewer
          (omega (arith, e.no_more, sound.few_orders, c.number.ensures)) refl;
    }
