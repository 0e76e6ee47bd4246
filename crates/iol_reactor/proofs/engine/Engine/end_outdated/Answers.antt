use Rattle.std.proofs.Common.{◌∙◌, ◌+◌, ap, subst, sym}
use Rattle.iol_reactor.specs.Connections.{AreCurrent, is_earlier, link_at}
use Rattle.iol_reactor.proofs.Retiring.{current_next, current_released}
use Rattle.iol_reactor.proofs.engine.Engine.end_outdated.Goals.{then-is_outdated+in_ok-list, else-is_outdated}
use Rattle.iol_reactor.proofs.engine.Engine.end_outdated.Goals as goal

pub loop-slot-preserved : goal.loop-slot-preserved
loop-slot-preserved g c = elim c.if-is_outdated.branch [
  | then-is_outdated+in_ok-list w ↦
      let at = ap (λ k. k.places) w.self-is ∙ w.list.ensures.places in
      record {
        generation = ap (λ k. k.worlds.links.generation) at ∙ (w.abandon.ensures.generation
            ∙ c.loop-slot.invariant.generation);
        current = current_released _ _ _ _ (ap (λ k. k.worlds.links.table.items) at ∙ w.abandon.ensures.released)
            c.loop-slot.invariant.current;
      }
  | else-is_outdated w ↦
      let at = ap (λ k. k.places) w.self-is in
      record {
        generation = ap (λ k. k.worlds.links.generation) at ∙ c.loop-slot.invariant.generation;
        current = subst
            (λ k. AreCurrent c.args.self.now.places.worlds.links.generation (c.loop-slot.slot + 1)
            k.worlds.links.table.items)
            (sym at)
            (current_next _ _ _ c.loop-slot.invariant.current
            (ap (λ n. is_earlier n (link_at c.loop-slot.self.places.worlds.links.table.items c.loop-slot.slot))
            (sym c.loop-slot.invariant.generation)
            ∙ (ap (λ k. is_earlier k.links.generation (link_at k.links.table.items c.loop-slot.slot)) (sym c.worlds.ensures)
            ∙ (sym c.is_outdated.ensures ∙ w.if-is_outdated.false))));
      }
]
