use Rattle.std.proofs.Common.{subst, List}
use Rattle.iol_arena.specs.Pages.{PublishesParts}
use Rattle.iol_arena.specs.declared.pages.Part.{Part}
use Rattle.iol_arena.proofs.arena.Arena.publish_reserved.Goals as goal

pub returns : goal.returns
returns c =
    subst (λ (ps : List Part). PublishesParts c.args.self.now c.publish_all.new.self ps c.args.len
    c.publish_all.new.bufs.items) c.as_slice.ensures c.publish_all.ensures
