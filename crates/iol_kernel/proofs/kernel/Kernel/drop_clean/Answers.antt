use Rattle.std.proofs.Common.{Ok, refl}
use Rattle.iol_core.specs.Calls.Outside as outside
use Rattle.iol_cache.specs.Cache.{cached_of}
use Rattle.iol_cache.specs.Evictions.{Holding}
use Rattle.iol_cache.proofs.RangeReads.PageChanges.{given_up_pages}
use Rattle.iol_kernel.specs.FileCalls.{holding_of}
use Rattle.iol_kernel.specs.Kernel.{state_of}
use Rattle.iol_kernel.proofs.FileCalls.KeptCover.{drop_keeps}
use Rattle.iol_kernel.proofs.FileCalls.FileNames.{cache_sound}
use Rattle.iol_kernel.proofs.FileCalls.CopyingWrites.{files_apart}
use Rattle.iol_kernel.proofs.FileCalls.WriteBack.{given_serves}
use Rattle.iol_kernel.proofs.kernel.Kernel.drop_clean.Goals as goal

pub drop_clean-requires : goal.drop_clean-requires
drop_clean-requires c = cache_sound (state_of c.args.self.now) c.requires

pub returns : goal.returns
returns c =
    let h = state_of c.args.self.now in
    let new : Holding = record { store = c.drop_clean.new.store; cache = cached_of c.drop_clean.new.self } in
    let e = c.drop_clean.ensures in
    record {
      serves =
          given_serves outside.drop_clean h _ new (Ok tt) c.requires e.gives_up e.sound (λ stored. (refl, refl, refl))
          refl;
      pages = given_up_pages (holding_of h) new e.gives_up;
      none = e.none;
      victims = e.victims;
      rest = refl;
      keeps = drop_keeps _ (holding_of h) new e.victims (files_apart h c.requires);
    }
