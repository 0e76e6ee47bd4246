use Rattle.std.proofs.Common.{arith}
use Rattle.std.proofs.lemmas.List.Sums.{count_by-le-length}
use Rattle.std.specs.Prelude.{is_some}
use Rattle.iol_reactor.proofs.Connections.{count_all}
use Rattle.iol_reactor.proofs.links.Links.count.Goals as goal

pub returns : goal.returns
returns c =
    let all = count_all c.args.self.now.generation c.args.self.now.table.items in
    let most = count_by-le-length is_some c.args.self.now.table.items in
    omega (
      arith,
      all,
      most,
      c.args.self.now.counted,
      c.args.self.now.earlier,
      c.len-places.ensures,
      c.saturating_add.ensures,
    )
