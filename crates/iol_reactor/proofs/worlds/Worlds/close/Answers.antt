use Rattle.std.proofs.Common.{◌∙◌, refl, sym, []}
use Rattle.iol_core.specs.declared.descriptors.How.TheVariants as how
use Rattle.iol_reactor.proofs.LinkVisits.{reports_before, slot_before}
use Rattle.iol_reactor.proofs.worlds.Worlds.close.Goals as goal

pub returns-in-Some-retiring-clause-visits : goal.returns-in-Some-retiring-clause-visits
returns-in-Some-retiring-clause-visits g c =
    slot_before g.P.Process.turns g.V.Service.starts _ _ _ c.in-Some-retiring.world.world
    c.close-in-Some-retiring.new.self.world _ _ c.in-Some.link c.conn-conn.result [] [] _ (sym c.get.ensures
    ∙ c.in-Some.is) c.conn-conn.ensures
    (rw c.in-Some-retiring.is refl)
    (sym c.is_current-is_current.ensures ∙ c.if-is_current.false) (sym c.is_before.ensures ∙ c.if-is_before.true)
    c.close-in-Some-retiring.ensures.visits

pub returns-in-Some-retiring-clause-reported : goal.returns-in-Some-retiring-clause-reported
returns-in-Some-retiring-clause-reported g c =
    reports_before g.P.Process.turns how.Done _ _ c.in-Some-retiring.world.world
    c.close-in-Some-retiring.new.self.world _ _ c.in-Some.link c.conn-conn.result (sym c.get.ensures ∙ c.in-Some.is)
    c.conn-conn.ensures (rw c.in-Some-retiring.is refl)
    (sym c.is_current-is_current.ensures ∙ c.if-is_current.false) (sym c.is_before.ensures ∙ c.if-is_before.true)
    c.close-in-Some-retiring.ensures.reported
