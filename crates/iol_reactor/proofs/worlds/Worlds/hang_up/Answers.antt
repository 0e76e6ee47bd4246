use Rattle.std.proofs.Common.{◌∙◌, refl, sym, [], false, true}
use Rattle.iol_core.specs.declared.descriptors.How.TheVariants as how
use Rattle.iol_reactor.proofs.LinkVisits.{reports_before, slot_before, slot_same}
use Rattle.iol_reactor.proofs.worlds.Worlds.hang_up.Goals as goal

pub returns-in-Some-retiring-clause-visits : goal.returns-in-Some-retiring-clause-visits
returns-in-Some-retiring-clause-visits g c = (
  true,
  slot_before g.P.Process.turns g.V.Service.starts _ _ _ c.in-Some-retiring.world.world
      c.hang_up-in-Some-retiring.new.self.world _ _ c.in-Some.link c.conn-conn.result [] [] true (sym c.get.ensures
      ∙ c.in-Some.is) c.conn-conn.ensures
      (rw c.in-Some-retiring.is refl)
      (sym c.is_current-is_current.ensures ∙ c.if-is_current.false) (sym c.is_before.ensures ∙ c.if-is_before.true)
      c.hang_up-in-Some-retiring.ensures.visits,
)

pub returns-in_default-retiring-clause-visits : goal.returns-in_default-retiring-clause-visits
returns-in_default-retiring-clause-visits g c = (false, slot_same g.P.Process.turns g.V.Service.starts _ _ _)

pub returns-else-is_before-clause-visits : goal.returns-else-is_before-clause-visits
returns-else-is_before-clause-visits g c = (false, slot_same g.P.Process.turns g.V.Service.starts _ _ _)

pub returns-in-Some-retiring-clause-reported : goal.returns-in-Some-retiring-clause-reported
returns-in-Some-retiring-clause-reported g c =
    reports_before g.P.Process.turns how.Gone _ _ c.in-Some-retiring.world.world
    c.hang_up-in-Some-retiring.new.self.world _ _ c.in-Some.link c.conn-conn.result (sym c.get.ensures ∙ c.in-Some.is)
    c.conn-conn.ensures (rw c.in-Some-retiring.is refl)
    (sym c.is_current-is_current.ensures ∙ c.if-is_current.false) (sym c.is_before.ensures ∙ c.if-is_before.true)
    c.hang_up-in-Some-retiring.ensures.reported
