use Rattle.std.proofs.Common.{◌∙◌, ◌+◌, ◌<◌, ap, sym, subst, rules}
use Rattle.iol_kernel.specs.Kernel.{state_of}
use Rattle.iol_kernel.proofs.State.Effects.{pooled}
use Rattle.iol_kernel.proofs.State.ReadOf.{length_pools-read_of}
use Rattle.iol_kernel.proofs.kernel.Kernel.add_pool.Goals as goal

pub create_pool-requires : goal.create_pool-requires
create_pool-requires c = subst (λ n. n < 1024) (length_pools-read_of _ (state_of c.args.self.now)) c.requires.few

pub returns : goal.returns
returns c =
    let h = state_of c.args.self.now in
    let e = c.in_ok-create_pool.ensures in
    let added = pooled h c.create_pool.new.self c.requires.sound e.moves e.reclaims e.pages c.args.names e.added
    (subst (λ n. n < 1024) (length_pools-read_of _ h) c.requires.few) in
    record {
      number = λ f. e.number ∙ ap (λ n. n + 1) (sym (length_pools-read_of f h));
      added = added;
      chunks =
          e.pools;
      room = e.room;
      no_room = λ p is. absurd (cc is);
      late = tt;
      err = tt;
    }

pub returns-in_err-create_pool : goal.returns-in_err-create_pool
returns-in_err-create_pool c = record {
  number = search (rules);
  added = search (rules);
  chunks = search (rules);
  room =
      search (rules);
  no_room = search (rules);
  late = search (rules, length_pools-read_of);
  err = search (rules);
}
