use Rattle.std.proofs.Common.{◌∙◌, refl, sym, [], append-nil, arith, false}
use Rattle.iol_reactor.proofs.LinkVisits.{slot_before, slot_current, slot_same}
use Rattle.iol_reactor.proofs.worlds.Worlds.collect.Goals as goal

pub returns-then-is_current-clause-visits : goal.returns-then-is_current-clause-visits
returns-then-is_current-clause-visits g c = let v = c.collect.ensures.visits in (
  v.0,
  v.1,
  slot_current g.P.Process.turns g.V.Service.starts _ _ _ _ _ _ c.in-Some.link _ [] v.0 false (sym c.get.ensures
      ∙ c.in-Some.is) c.conn-conn.ensures (sym c.is_current.ensures ∙ c.if-is_current.true) v.2,
)

pub returns-then-not-is_before-clause-visits : goal.returns-then-not-is_before-clause-visits
returns-then-not-is_before-clause-visits g c =
    ([], sym (append-nil _), slot_same g.P.Process.turns g.V.Service.starts _ _ _)

pub returns-in-Some-retiring-clause-visits : goal.returns-in-Some-retiring-clause-visits
returns-in-Some-retiring-clause-visits g c = let v = c.collect-in-Some-retiring.ensures.visits in (
  v.0,
  v.1,
  slot_before g.P.Process.turns g.V.Service.starts _ _ _ c.in-Some-retiring.world.world
      c.collect-in-Some-retiring.new.self.world _ _ c.in-Some.link c.conn-conn.result [] v.0 false (sym c.get.ensures
      ∙ c.in-Some.is) c.conn-conn.ensures
      (rw c.in-Some-retiring.is refl) (sym c.is_current.ensures
      ∙ c.if-is_current.false) (sym c.is_before.ensures ∙ grind (arith, c.if-not-is_before.false)) v.2,
)

pub returns-in-None-clause-visits : goal.returns-in-None-clause-visits
returns-in-None-clause-visits g c = ([], sym (append-nil _), slot_same g.P.Process.turns g.V.Service.starts _ _ _)
