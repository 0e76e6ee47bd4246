use Rattle.std.proofs.Common.{sym, ◌∙◌, ap, subst, List}
use Rattle.iol_pool.specs.Pools.{Pool, with_closed}
use Rattle.iol_pool.specs.Owners.{AreOwned}
use Rattle.iol_pool.proofs.Owners.{owned_closed}
use Rattle.iol_pool.proofs.pools.Pools.close.Goals as goal

pub reclaim-requires : goal.reclaim-requires
reclaim-requires c =
    let is = c.set_closed.ensures ∙ ap (λ (l : List Pool). with_closed l c.args.p) c.self.view_is in
    subst (λ (l : List Pool). AreOwned c.args.arena.now l) (sym is)
    (owned_closed c.args.arena.now c.args.self.now c.args.p c.requires.there c.requires.owned)
