use Rattle.std.proofs.Common.{◌≡◌, ◌∙◌, ℕ, List, [], ◌∷◌, ◌++◌, Some, sym, ap, subst}
use Rattle.iol_core.specs.NumberedLists.{lookup}
use Rattle.iol_hold.specs.declared.slices.Slice.{Slice}
use Rattle.iol_sock.specs.Connections.{Conn, new_conn}
use Rattle.test_iol_store.proofs.Sharing.{first_there}
use Rattle.test_iol_store.proofs.tests.by_number.table_of_one.Goals as goal

pub returns : goal.returns
returns g c =
    let n = c.reserve.new.self.next in
    let before : c.reserve.new.self.conns ≡ [] = c.reserve.ensures.conns ∙ c.new-table.ensures.none in
    let after : c.add-conn.new.self.conns ≡ (n, new_conn c.args.pool) ∷ [] = c.add-conn.ensures.conns
    ∙ ap (λ (l : List (ℕ × Conn (List Slice))). l ++ (n, new_conn c.args.pool) ∷ []) before in
    subst (λ (k : ℕ). lookup c.add-conn.new.self.conns k ≡ Some (new_conn c.args.pool)) (sym c.add-conn.ensures.number)
    (ap (λ (l : List (ℕ × Conn (List Slice))). lookup l n) after ∙ first_there n (new_conn c.args.pool))
