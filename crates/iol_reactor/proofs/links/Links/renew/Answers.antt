use Rattle.std.proofs.Common.{arith, sym}
use Rattle.std.proofs.lemmas.List.Sums.{count_by-le-length}
use Rattle.std.specs.Prelude.{is_some}
use Rattle.iol_reactor.proofs.Connections.{all_earlier, come_renewed, count_all, none_new}
use Rattle.iol_reactor.proofs.links.Links.renew.Goals as goal

pub invariant_of-self : goal.invariant_of-self
invariant_of-self c = let s = c.args.self.now in
    let all = count_all s.generation s.table.items in
    let most = count_by-le-length is_some s.table.items in
    let new = all_earlier s.generation s.last s.table.items s.came in
    record {
      apart = s.apart;
      came = come_renewed s.generation s.last s.table.items s.came;
      counted = sym (none_new s.generation s.last s.table.items s.came);
      earlier =
          omega (arith, all, most, new, s.counted, s.earlier, c.len-places.ensures, c.saturating_add-self.ensures);
    }

pub returns-clause-earlier : goal.returns-clause-earlier
returns-clause-earlier c = λ _. all_earlier c.args.self.now.generation c.args.self.now.last c.args.self.now.table.items
    c.args.self.now.came
