use Rattle.std.proofs.Common.{ℕ, ◌==◌, ◌∙◌, List, ap}
use Rattle.std.specs.List.{list_any}
use Rattle.iol_hold.specs.declared.slices.Slice.{Slice}
use Rattle.iol_sock.specs.Connections.{Conn}
use Rattle.iol_sock.specs.Table.{ConnTable}
use Rattle.iol_sock.proofs.OfPools.{any-there}
use Rattle.iol_sock.proofs.table.Connections.is_busy.Goals as goal

pub returns : goal.returns
returns c =
    c.any_of.ensures
    ∙ any-there c.list.result.now c.args.pool
    ∙ ap (λ (es : List (ℕ × Conn (List Slice))). list_any (λ e. e.1.pool == c.args.pool) es) c.list.ensures
    ∙ ap (λ (t : ConnTable). list_any (λ e. e.1.pool == c.args.pool) t.conns) c.self.view_is
