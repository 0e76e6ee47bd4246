use Rattle.iol_cache.specs.Cache.{cached_of}
use Rattle.iol_cache.proofs.Extents.Lengths.{end_is}
use Rattle.iol_cache.proofs.cache.Cache.file_length.Goals as goal

pub returns : goal.returns
returns g c = record {
  end = c.file_end.ensures;
  length =
      λ s backed. end_is (g.B.Backing.disk c.args.backing.now) (record { store = s; cache = cached_of c.args.self.now })
      c.args.file c.file_end.result c.requires.file c.file_end.ensures backed;
}
