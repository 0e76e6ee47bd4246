use Rattle.std.proofs.Common.{◌≡◌, false, true, ◌∙◌, sym, ap}
use Rattle.iol_sock.specs.Table.{waiting_in}
use Rattle.iol_sock.proofs.WaitingList.{Conns, forgets, waiting-gone, waiting-rising}
use Rattle.iol_sock.proofs.table.Connections.forget.Goals as goal

pub unlist-requires-clause-rising : goal.unlist-requires-clause-rising
unlist-requires-clause-rising c =
    waiting-rising c.self.inside.live.entries _ c.self.inside.live.next c.self.invariant.0 c.numbers_rise.ensures

pub unlist-requires-clause-there : goal.unlist-requires-clause-there
unlist-requires-clause-there c =
    let waits : c.take-conn.result.accepted ≡ false = sym c.is_accepted.ensures ∙ c.if-not-is_accepted.true in
    (forgets c.self.inside.live.entries _ _ c.take-conn.result c.self.invariant.0 (sym c.take-conn.ensures.given)
    waits).0

pub invariant_of-self : goal.invariant_of-self
invariant_of-self c =
    let waits : c.take-conn.result.accepted ≡ false = sym c.is_accepted.ensures ∙ c.if-not-is_accepted.true in (
      c.unlist.ensures.items
          ∙ (forgets c.self.inside.live.entries _ _ c.take-conn.result c.self.invariant.0
          (sym c.take-conn.ensures.given) waits).1
          ∙ ap (λ (es : Conns). waiting_in es) (sym c.take-conn.ensures.entries),
      rw c.take-conn.ensures.next c.self.invariant.1,
    )

pub invariant_of-self-else-not-is_accepted : goal.invariant_of-self-else-not-is_accepted
invariant_of-self-else-not-is_accepted c =
    let accepted : c.take-conn.result.accepted ≡ true = sym c.is_accepted.ensures ∙ c.if-not-is_accepted.false in (
      c.self.invariant.0
          ∙ sym (waiting-gone c.self.inside.live.entries _ c.take-conn.result (sym c.take-conn.ensures.given) accepted)
          ∙ ap (λ (es : Conns). waiting_in es) (sym c.take-conn.ensures.entries),
      rw c.take-conn.ensures.next c.self.invariant.1,
    )
