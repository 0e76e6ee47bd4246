use Rattle.std.proofs.Common.{◌≡◌, ◌∙◌, refl, sym}
use Rattle.std.specs.Prelude.{count_by}
use Rattle.iol_reactor.specs.Connections.{AreApart, HaveCome, is_current, is_earlier}
use Rattle.iol_reactor.proofs.Connections.{apart_pushed, come_pushed, count_pushed, grown}
use Rattle.iol_reactor.proofs.links.Links.add_place.Goals as goal

pub invariant_of-self : goal.invariant_of-self
invariant_of-self c = let s = c.args.self.now in record {
  apart = grown c.push.result AreApart _ _ c.push.ensures.items s.apart (apart_pushed _ s.apart);
  came = grown c.push.result (HaveCome s.generation s.last) _ _ c.push.ensures.items s.came (come_pushed _ _ _ s.came);
  counted = grown c.push.result (λ t. s.current_count ≡ count_by (is_current s.generation) t) _ _ c.push.ensures.items
      s.counted (s.counted ∙ sym (count_pushed (is_current s.generation) s.table.items refl));
  earlier = grown c.push.result (λ t. s.earlier_count ≡ count_by (is_earlier s.generation) t) _ _ c.push.ensures.items
      s.earlier (s.earlier ∙ sym (count_pushed (is_earlier s.generation) s.table.items refl));
}
