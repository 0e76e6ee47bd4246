use Rattle.std.proofs.Common.{◌≡◌, ◌∙◌, ◌<◌, ap, inl, length, subst, sym}
use Rattle.std.specs.Prelude.{◌⊎◌, ◌++◌, IfSome, option_to_list}
use Rattle.iol_reactor.specs.Served.{HasSocketAt, next_free}
use Rattle.iol_reactor.proofs.Free.{next_free_pushed}
use Rattle.iol_reactor.proofs.engine.Engine.admit.Goals.{in-Some-get_mut, in_default-get_mut}
use Rattle.iol_reactor.proofs.engine.Engine.admit.Goals as goal

pub returns-clause-admits : goal.returns-clause-admits
returns-clause-admits g c =
    let same : c.match-get_mut.self.places ≡ c.args.self.now.places = elim c.match-get_mut.branch [
      | in-Some-get_mut w ↦ ap (λ k. k.places) w.self-is
      | in_default-get_mut w ↦ ap (λ k. k.places) w.self-is
    ] in
    subst
    (λ o. IfSome o (λ slot. slot < length c.args.self.now.places.clients.items
    → HasSocketAt c.args.socket slot c.admit.new.self.clients.items
    ⊎ (c.admit.new.self ≡ c.args.self.now.places)))
    (sym (ap next_free c.pop.ensures.items ∙ (ap (λ o. next_free (c.pop.new.self.items ++ option_to_list o)) c.in-Some.is
    ∙ next_free_pushed c.pop.new.self.items c.in-Some.slot)))
    (λ within. inl (c.admit.ensures.admits (subst (λ k. c.in-Some.slot < length k.clients.items) (sym same) within)))
