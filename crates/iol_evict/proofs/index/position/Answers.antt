use Rattle.std.proofs.Common.{◌∙◌, ap, arith, subst}
use Rattle.iol_evict.specs.declared.entry.Rank.{Rank}
use Rattle.iol_evict.specs.Ranks.{rank_by, RankLt, RankLe}
use Rattle.iol_evict.specs.Indexes.{entry_of}
use Rattle.iol_evict.proofs.Places.{read-key, all_below, all_from}
use Rattle.iol_evict.proofs.index.position.Goals as goal

pub loop-low-preserved-then-comes_before : goal.loop-low-preserved-then-comes_before
loop-low-preserved-then-comes_before c =
    let key = read-key c.args.keys.now.items _ _ c.index.ensures (omega arith) in
    let rank = c.rank_of.ensures
    ∙ ap (rank_by c.args.by) (c.read_entry-entry.ensures ∙ ap (entry_of c.args.entries.now) key) in
    let below =
    subst (λ (r : Rank). RankLt r c.args.rank.now) rank (c.comes_before.ensures.yes c.if-comes_before.true) in
    record {
      ordered = omega arith;
      within = c.loop-low.invariant.within;
      before = λ i upto. all_below _ _ _ _ _ i c.requires.rising (omega arith) below upto;
      after = c.loop-low.invariant.after;
    }

pub loop-low-preserved : goal.loop-low-preserved
loop-low-preserved c =
    let key = read-key c.args.keys.now.items _ _ c.index.ensures (omega arith) in
    let rank = c.rank_of.ensures
    ∙ ap (rank_by c.args.by) (c.read_entry-entry.ensures ∙ ap (entry_of c.args.entries.now) key) in
    let above =
    subst (λ (r : Rank). RankLe c.args.rank.now r) rank (c.comes_before.ensures.no c.if-comes_before.false) in
    record {
      ordered = omega arith;
      within = omega arith;
      before = c.loop-low.invariant.before;
      after = λ i from within. all_from _ _ _ _ _ i c.requires.rising above from within;
    }
