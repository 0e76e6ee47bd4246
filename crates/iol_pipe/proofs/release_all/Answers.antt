use Rattle.std.proofs.Common.{◌∙◌, [], subst, rules}
use Rattle.iol_hold.specs.Moves.{Moves}
use Rattle.iol_hold.specs.Texts.{bufs_of, AllReadable}
use Rattle.iol_hold.proofs.ReadSlices.{bufs_of-push, home_stays, readable_last}
use Rattle.iol_hold.proofs.Releases.{frees_trans}
use Rattle.iol_hold.proofs.Moves.{moves_less, last_held}
use Rattle.iol_pipe.proofs.release_all.Goals as goal

pub release-requires : goal.release-requires
release-requires c =
    let s = c.args.store.now in
    let t = c.loop-slice.store in
    let all = bufs_of c.args.queue.now.items in
    let rest = c.pop_back.new.self.items in
    let x = c.in-Some.slice in
    last_held s t all (bufs_of rest) x.hold.buf c.requires
    (subst (λ l. Moves s t all l) (bufs_of-push c.loop-slice.queue.items rest x c.in-Some.ensures.items)
    c.loop-slice.invariant.moves)

pub loop-slice-preserved : goal.loop-slice-preserved
loop-slice-preserved c =
    let s = c.args.store.now in
    let t = c.loop-slice.store in
    let gone = bufs_of c.args.queue.now.items in
    let rest = c.pop_back.new.self.items in
    let x = c.in-Some.slice in
    let moves = subst (λ l. Moves s t gone l) (bufs_of-push c.loop-slice.queue.items rest x c.in-Some.ensures.items)
    c.loop-slice.invariant.moves in
    record {
      moves = moves_less moves c.release.ensures.moves;
      lists = c.release.ensures.lists ∙ c.loop-slice.invariant.lists;
      frees = frees_trans c.loop-slice.invariant.frees c.release.ensures.frees c.release.ensures.moves.counts;
      reclaims = λ readable all.
          let r = c.loop-slice.invariant.reclaims readable all in
          let l = readable_last rest x (subst (λ xs. AllReadable s xs) c.in-Some.ensures.items r.0) in (
            l.0,
            c.release.ensures.reclaims
                (home_stays x c.loop-slice.invariant.moves.stays
                (last_held s t gone (bufs_of rest) x.hold.buf c.requires moves) l.1) r.1,
          );
    }

pub returns-clause-releases : goal.returns-clause-releases
returns-clause-releases c =
    let s = c.args.store.now in
    let before = c.loop-slice.invariant in
    let moves : Moves s c.loop-slice.store (bufs_of c.args.queue.now.items) [] = search (rules) in
    record {
      moves = moves;
      lists = before.lists;
      frees = before.frees;
      reclaims =
          λ readable all. (before.reclaims readable all).1;
    }
