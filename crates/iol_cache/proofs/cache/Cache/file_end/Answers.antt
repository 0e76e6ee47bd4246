use Rattle.std.proofs.Common.{◌≡◌, ap, ◌∙◌, arith}
use Rattle.iol_extent.specs.Extents.{last_end}
use Rattle.iol_cache.specs.declared.files.CachedFile.{CachedFile}
use Rattle.iol_cache.specs.CacheState.{extents_in}
use Rattle.iol_cache.proofs.Extents.FileEntries.{file_at_number, numbered_bounds}
use Rattle.iol_cache.proofs.cache.Cache.file_end.Goals as goal

pub returns : goal.returns
returns g c =
    let fs = c.args.self.now.files.items in
    let x =
    file_at_number fs c.args.file c.number.result c.index.result.now c.number.ensures
    (numbered_bounds fs c.args.file c.requires.file) c.index.ensures in
    let last : c.end.result ≡ last_end (extents_in fs c.args.file) =
    c.end.ensures ∙ ap (λ (y : CachedFile). last_end y.extents.extents) x in
    record {
      short = omega (arith, c.max.ensures, c.min-stored.ensures, last, c.requires.short);
      is = omega (arith, c.max.ensures, c.min-stored.ensures, last, c.length.ensures.reported);
      stored = λ honest. omega (arith, c.max.ensures, c.min-stored.ensures, last, c.length.ensures.honest honest);
    }
