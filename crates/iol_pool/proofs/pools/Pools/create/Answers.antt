use Rattle.std.proofs.Common.{◌++◌, ◌∷◌, [], sym, ◌∙◌, ap, subst, List, false, rules}
use Rattle.iol_pool.specs.Pools.{Pool}
use Rattle.iol_pool.specs.Owners.{AreOwned}
use Rattle.iol_pool.proofs.Owners.{owned_added}
use Rattle.iol_pool.proofs.pools.Pools.create.Goals as goal

pub returns : goal.returns
returns c =
    let x : Pool = record { domains = c.args.names; closed = false; chunks = c.in_ok-chunks.chunks } in
    let is = c.push_reserved.ensures.items ∙ ap (λ (l : List Pool). l ++ x ∷ []) (c.reserve.ensures.items ∙ c.self.view_is) in
    let owned = subst (λ (l : List Pool). AreOwned c.take_chunks.new.self l) (sym is) (owned_added c.args.arena.now c.take_chunks.new.self c.args.self.now x c.in_ok-chunks.ensures.taken c.requires.owned) in
    search rules
