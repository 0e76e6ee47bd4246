use Rattle.std.proofs.Common.{◌≡◌, ◌≢◌, List, None, false, true, ap, ◌∙◌, sym, subst}
use Rattle.iol_core.specs.NumberedLists.{lookup, changed}
use Rattle.iol_hold.specs.declared.slices.Slice.{Slice}
use Rattle.iol_sock.specs.Connections.{Conn}
use Rattle.iol_sock.specs.Table.{ConnTable, conn_in}
use Rattle.iol_sock.proofs.WaitingList.{accepts, waiting-rising, accepted-there}
use Rattle.iol_sock.proofs.table.Connections.accept.Goals as goal

pub unlist-requires-clause-rising : goal.unlist-requires-clause-rising
unlist-requires-clause-rising c =
    waiting-rising c.self.inside.live.entries _ c.self.inside.live.next c.self.invariant.0 c.numbers_rise.ensures

pub unlist-requires-clause-there : goal.unlist-requires-clause-there
unlist-requires-clause-there c =
    let there = subst (λ (t : ConnTable). lookup t.conns c.args.c ≢ None) (sym c.self.view_is) c.requires.there in
    let waits = subst (λ (t : ConnTable). (conn_in t.conns c.args.c).accepted ≡ false) (sym c.self.view_is)
    c.requires.waits in
    (accepts c.self.inside.live.entries _ c.self.inside.live.next c.args.c _ c.self.invariant.0 c.numbers_rise.ensures
    c.number-number.ensures there waits).0

pub invariant_of-self : goal.invariant_of-self
invariant_of-self c =
    let there = subst (λ (t : ConnTable). lookup t.conns c.args.c ≢ None) (sym c.self.view_is) c.requires.there in
    let waits = subst (λ (t : ConnTable). (conn_in t.conns c.args.c).accepted ≡ false) (sym c.self.view_is)
    c.requires.waits in
    let accepted : c.accept.new.self.accepted ≡ true = ap (λ (x : Conn (List Slice)). x.accepted) c.accept.ensures in (
      c.unlist.ensures.items
          ∙ (accepts c.self.inside.live.entries _ c.self.inside.live.next c.args.c _ c.self.invariant.0
          c.numbers_rise.ensures c.number-number.ensures there waits).1 c.accept.new.self accepted,
      c.self.invariant.1,
    )

pub returns-clause-accepted : goal.returns-clause-accepted
returns-clause-accepted c =
    subst (λ (t : ConnTable). changed c.self.inside.live.entries c.number-number.result c.accept.new.self
    ≡ changed t.conns c.args.c (record (conn_in t.conns c.args.c) { accepted = true })) c.self.view_is
    (accepted-there c.self.inside.live.entries c.args.c c.number-number.result _ _ c.number-number.ensures
    c.value_mut.ensures.value c.accept.ensures)
