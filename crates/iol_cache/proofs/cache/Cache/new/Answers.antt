use Rattle.iol_cache.proofs.Extents.NewFiles.{sound_new}
use Rattle.iol_cache.proofs.cache.Cache.new.Goals as goal

pub returns : goal.returns
returns c = record {
  files = c.new.ensures.items;
  orders = c.new-2.ensures.items;
  sound = λ s pages tidy still. sound_new s _ c.args.pages c.new.ensures.items c.new-2.ensures.items c.in_ok-new.ensures
      pages tidy still;
}
