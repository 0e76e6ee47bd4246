use Rattle.std.proofs.Common.{◌≡◌, ◌+◌, ℕ, ap, arith, refl, subst, sym}
use Rattle.iol_reactor.proofs.LinkVisits.{links_renewed_as, links_same, links_then}
use Rattle.iol_reactor.specs.LinkVisits.{LinksStay, serving}
use Rattle.iol_reactor.proofs.worlds.Worlds.renew.Goals as goal

pub returns-clause-visits : goal.returns-clause-visits
returns-clause-visits g c =
    let more : c.renew.new.self.generation ≡ c.args.self.now.links.generation + 1 =
    c.renew.ensures.current (grind (arith, c.if-not-renew.false)) in
    links_then g.P.Process.turns g.V.Service.starts _ _ _ _ (omega (arith, more))
    (links_renewed_as g.P.Process.turns g.V.Service.starts _ _ _ _ _ _ _ more
    (rw (c.replace.ensures.after, c.replace-before.ensures.value) refl))
    c.retire.ensures.visits

pub returns-then-not-renew-clause-visits : goal.returns-then-not-renew-clause-visits
returns-then-not-renew-clause-visits g c =
    let s = c.args.self.now in
    let same : c.renew.new.self.generation ≡ s.links.generation =
    ap (λ l. l.generation) (c.renew.ensures.refused (grind (arith, c.if-not-renew.true))) in
    subst (λ (n : ℕ). LinksStay g.P.Process.turns g.V.Service.starts g.V.Service.POOL
    (serving s.links.generation s.current.world (λ h. h.world) s.retiring)
    (serving n s.current.world (λ h. h.world) s.retiring)) (sym same)
    (links_same g.P.Process.turns g.V.Service.starts _ _)

pub returns-then-not-renew-clause-full : goal.returns-then-not-renew-clause-full
returns-then-not-renew-clause-full g c = λ _.
    let s = c.args.self.now in
    ap (λ l. record { links = l; current = s.current; is_worn = s.is_worn; retiring = s.retiring })
    (c.renew.ensures.refused (grind (arith, c.if-not-renew.true)))
