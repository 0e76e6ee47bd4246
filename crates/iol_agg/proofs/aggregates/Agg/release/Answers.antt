use Rattle.std.proofs.Common.{◌∙◌, subst, rules}
use Rattle.iol_hold.specs.Moves.{Moves}
use Rattle.iol_hold.specs.Texts.{bufs_of, AllReadable}
use Rattle.iol_hold.proofs.ReadSlices.{bufs_of-push, home_stays, readable_last}
use Rattle.iol_hold.proofs.Releases.{frees_trans}
use Rattle.iol_hold.proofs.Moves.{moves_less, last_held}
use Rattle.iol_agg.proofs.aggregates.Agg.release.Goals as goal

pub release-requires : goal.release-requires
release-requires c =
    let s = c.args.store.now in
    let t = c.loop-slice.store in
    let rest = c.pop.new.self.items in
    let x = c.in-Some.slice in
    last_held s t (bufs_of c.args.self) (bufs_of rest) x.hold.buf c.requires
    (subst (λ l. Moves s t (bufs_of c.args.self) l)
    (bufs_of-push c.loop-slice.slices.items rest x c.in-Some.ensures.items) c.loop-slice.invariant.moves)

pub loop-slice-preserved : goal.loop-slice-preserved
loop-slice-preserved c =
    let s = c.args.store.now in
    let t = c.loop-slice.store in
    let rest = c.pop.new.self.items in
    let x = c.in-Some.slice in
    let moves =
    subst (λ l. Moves s t (bufs_of c.args.self) l)
    (bufs_of-push c.loop-slice.slices.items rest x c.in-Some.ensures.items) c.loop-slice.invariant.moves in
    record {
      moves = moves_less moves c.release.ensures.moves;
      lists = c.release.ensures.lists ∙ c.loop-slice.invariant.lists;
      frees = frees_trans c.loop-slice.invariant.frees c.release.ensures.frees c.release.ensures.moves.counts;
      reclaims = λ readable all.
          let r = c.loop-slice.invariant.reclaims readable all in
          let l = readable_last rest x (subst (λ xs. AllReadable s xs) c.in-Some.ensures.items r.0) in (
            l.0,
            c.release.ensures.reclaims
                (home_stays x c.loop-slice.invariant.moves.stays
                (last_held s t (bufs_of c.args.self) (bufs_of rest) x.hold.buf c.requires moves) l.1) r.1,
          );
    }

pub returns : goal.returns
returns c =
    let m = c.loop-slice.invariant in
    record {
      moves = search rules;
      lists = m.lists;
      frees = m.frees;
      reclaims =
          λ readable all. (m.reclaims readable all).1;
    }
