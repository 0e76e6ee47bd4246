use Rattle.std.proofs.Common.{sym, ◌∙◌, ap, subst, List}
use Rattle.iol_arena.specs.State.{State}
use Rattle.iol_pool.specs.Pools.{Pool, pool_in, with_emptied, with_returned}
use Rattle.iol_pool.specs.Owners.{AreOwned}
use Rattle.iol_pool.proofs.Owners.{owned_reclaimed, reclaimed-no, reclaimed-nowhere, reclaimed-yes, reclaimed_arena-no}
use Rattle.iol_pool.proofs.Owners.{reclaimed_arena-nowhere, reclaimed_arena-yes}
use Rattle.iol_pool.proofs.pools.Pools.reclaim.Goals as goal

pub returns-then-not-is_pool : goal.returns-then-not-is_pool
returns-then-not-is_pool c = record {
  pools =
      sym (reclaimed-nowhere c.args.arena.now c.args.self.now c.args.p (sym c.is_pool.ensures ∙ c.if-not-is_pool.true));
  arena =
      sym (reclaimed_arena-nowhere c.args.arena.now c.args.self.now c.args.p (sym c.is_pool.ensures
      ∙ c.if-not-is_pool.true));
  owned = c.requires;
}

pub returns-then-not-goes_back : goal.returns-then-not-goes_back
returns-then-not-goes_back c = record {
  pools =
      sym (reclaimed-no c.args.arena.now c.args.self.now c.args.p (sym c.goes_back.ensures ∙ c.if-not-goes_back.true));
  arena =
      sym (reclaimed_arena-no c.args.arena.now c.args.self.now c.args.p (sym c.goes_back.ensures
      ∙ c.if-not-goes_back.true));
  owned = c.requires;
}

pub returns : goal.returns
returns c =
    let p = c.set_emptied.ensures ∙ ap (λ (l : List Pool). with_emptied l c.args.p) c.self.view_is in
    let a = c.return_all.ensures ∙ ap (λ l. with_returned c.args.arena.now l) c.chunks_in.ensures.value in
    record {
      pools =
          p
          ∙ sym (reclaimed-yes c.args.arena.now c.args.self.now c.args.p (sym c.goes_back.ensures
          ∙ c.if-not-goes_back.false));
      arena =
          a
          ∙ sym (reclaimed_arena-yes c.args.arena.now c.args.self.now c.args.p (sym c.goes_back.ensures
          ∙ c.if-not-goes_back.false));
      owned = subst (λ (s : State). AreOwned s c.set_emptied.new.pools.items) (sym a)
          (subst (λ (l : List Pool). AreOwned (with_returned c.args.arena.now (pool_in c.args.self.now c.args.p).chunks)
          l) (sym p)
          (owned_reclaimed c.args.arena.now c.args.self.now c.args.p (sym c.is_pool.ensures ∙ c.if-not-is_pool.false)
          c.requires));
    }
