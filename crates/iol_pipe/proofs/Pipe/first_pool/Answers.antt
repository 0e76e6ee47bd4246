use Rattle.std.proofs.Common.{Some, ◌<◌, arith, refl, subst, ap, ◌∙◌, get_or, length}
use Rattle.iol_pipe.proofs.Prefixes.{first_pool-is}
use Rattle.iol_pipe.proofs.Pipe.first_pool.Goals as goal

pub returns : goal.returns
returns c =
    let some : 0 < length c.self.inside.queue.items =
    omega (arith, c.in_ok-first.ensures.variant.0 refl, c.self.inside.queue.ok.0) in
    ap Some c.pool.ensures
    ∙ first_pool-is c.args.self.now c.in_ok-first.first.now (subst (λ xs. 0 < length xs) c.self.view_is some)
    (c.in_ok-first.ensures.lookup ∙ ap (λ xs. get_or xs 0 c.in_ok-first.first.now) c.self.view_is)
