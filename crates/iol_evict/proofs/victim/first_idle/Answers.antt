use Rattle.std.proofs.Common.{◌∙◌, ap, sym, arith}
use Rattle.iol_evict.specs.declared.entry.By.TheVariants.{Height}
use Rattle.iol_evict.specs.Ranks.{rank_by}
use Rattle.iol_evict.specs.Indexes.{entry_of}
use Rattle.iol_evict.proofs.Places.{read-key}
use Rattle.iol_evict.proofs.Below.{used-next, below-next}
use Rattle.iol_evict.proofs.victim.first_idle.Goals as goal

pub loop-i-preserved : goal.loop-i-preserved
loop-i-preserved g c =
    let used = g.U.InUse.in_use c.args.users.now in
    let key =
    read-key c.args.keys.now.items c.loop-i.i _ c.index.ensures
    (omega (arith, c.loop-i-test.true, c.len-i-end.ensures, c.args.keys.now.ok.0)) in
    let entry = c.read_entry-entry.ensures ∙ ap (entry_of c.args.slab.now) key in
    record {
      used = used-next used c.args.slab.now c.args.keys.now.items c.loop-i.i c.read_entry-entry.result
          c.loop-i.invariant.used entry (sym c.is_in_use.ensures ∙ c.if-not-is_in_use.false);
      below = below-next used c.args.slab.now c.args.keys.now.items c.loop-i.i c.rank_of.result c.requires.index.rising
          (c.rank_of.ensures ∙ ap (rank_by Height) entry) c.loop-i.invariant.used;
    }
