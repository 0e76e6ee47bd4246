use Rattle.std.proofs.Common.{arith, subst, List, ap, ◌∙◌, not}
use Rattle.std.proofs.lemmas.List.{take_all}
use Rattle.iol_arena.specs.State.{State}
use Rattle.iol_arena.specs.Parts.{part_pages}
use Rattle.iol_arena.specs.WriteSteps.{reserved_kind}
use Rattle.iol_arena.specs.declared.pages.Part.{Part}
use Rattle.iol_arena.proofs.Keeps.{spares_trans}
use Rattle.iol_arena.proofs.Grows.{grows_trans}
use Rattle.iol_arena.proofs.MarkedParts.{AreMarked, still_all, marked_more, all_marked, others-marked, unraised-marked}
use Rattle.iol_arena.proofs.arena.Arena.set_all_pending.Goals as goal

pub set_pending-requires : goal.set_pending-requires
set_pending-requires c =
    let m = c.loop-part.invariant in
    still_all (reserved_kind (not c.args.pending)) (reserved_kind c.args.pending) c.args.self.now c.loop-part.self
    c.args.parts.now c.loop-part.part-index
    c.requires.apart c.requires.each c.loop-part-test.true m.grows.limit m.grows.count m.marked

pub loop-part-preserved : goal.loop-part-preserved
loop-part-preserved c =
    let m = c.loop-part.invariant in
    record {
      marked = marked_more (reserved_kind (not c.args.pending)) (reserved_kind c.args.pending) c.args.self.now
          c.loop-part.self c.args.parts.now c.loop-part.part-index
          c.requires.apart c.requires.each c.loop-part-test.true m.grows.limit m.grows.count m.marked
          c.set_pending.new.self c.set_pending.ensures.arena;
      memory = ap (λ (x : State). x.memory) c.set_pending.ensures.arena ∙ m.memory;
      grows = grows_trans m.grows c.set_pending.ensures.grows;
      spares = spares_trans m.spares c.set_pending.ensures.spares;
    }

pub returns : goal.returns
returns c =
    let s = c.args.self.now in
    let t = c.loop-part.self in
    let ps = c.args.parts.now in
    let k = reserved_kind c.args.pending in
    let m = c.loop-part.invariant in
    let all =
    subst (λ (qs : List Part). AreMarked k (part_pages qs) s t) (take_all c.loop-part.part-index ps (omega arith))
    m.marked in
    record {
      each = all_marked (reserved_kind (not c.args.pending)) k s t (part_pages ps) ps all (λ q h. h) m.grows.limit
          m.grows.count c.requires.each;
      others = others-marked k s t ps all;
      unraised = unraised-marked k s t ps all;
      memory = m.memory;
      grows = m.grows;
      spares = m.spares;
    }
