use Rattle.std.proofs.Common.{◌∙◌, [], arith, false, refl, sym}
use Rattle.iol_reactor.proofs.LinkVisits.{slot_before, slot_same}
use Rattle.iol_reactor.proofs.worlds.Worlds.hand_in.Goals as goal

pub returns-then-not-is_before-clause-visits : goal.returns-then-not-is_before-clause-visits
returns-then-not-is_before-clause-visits g c = ([], refl, slot_same g.P.Process.turns g.V.Service.starts _ _ _)

pub returns-in-None-clause-visits : goal.returns-in-None-clause-visits
returns-in-None-clause-visits g c = ([], refl, slot_same g.P.Process.turns g.V.Service.starts _ _ _)

pub returns-in-Some-retiring-clause-visits : goal.returns-in-Some-retiring-clause-visits
returns-in-Some-retiring-clause-visits g c = let v = c.hand_in-in-Some-retiring.ensures.visits in (
  v.0,
  v.1,
  slot_before g.P.Process.turns g.V.Service.starts _ _ _ c.in-Some-retiring.world.world
      c.hand_in-in-Some-retiring.new.self.world _ _ c.in-Some.link c.conn-conn.result v.0 [] false (sym c.get.ensures
      ∙ c.in-Some.is) c.conn-conn.ensures
      (rw c.in-Some-retiring.is refl) (sym c.is_current.ensures
      ∙ c.if-is_current.false) (sym c.is_before.ensures ∙ grind (arith, c.if-not-is_before.false)) v.2,
)
