use Rattle.std.proofs.Common.{subst, ◌∙◌, ap, arith, length}
use Rattle.iol_hold.specs.Moves.{Covers, Moves}
use Rattle.iol_hold.specs.Texts.{bufs_of, AllReadable}
use Rattle.iol_hold.proofs.Moves.{covers_first, covers_less}
use Rattle.iol_hold.proofs.Releases.{frees_trans}
use Rattle.iol_pipe.proofs.FrontReleases.{drop_first, drop_part, moves_first, readable_rest}
use Rattle.iol_pipe.proofs.take.skip_bytes.Goals as goal

pub returns-then-len-left-clause-rest : goal.returns-then-len-left-clause-rest
returns-then-len-left-clause-rest c =
    drop_part c.in-Some.first c.cut.result c.pop_front.new.self.items c.loop-left.queue.items
    c.push_front_reserved.new.self.items c.loop-left.left
    c.in-Some.ensures.items c.push_front_reserved.ensures.items c.if-len-left.true c.cut.ensures.places
    ∙ c.loop-left.invariant.so_far

pub returns-then-len-left-clause-few : goal.returns-then-len-left-clause-few
returns-then-len-left-clause-few c =
    omega (
      arith,
      ap length c.in-Some.ensures.items,
      ap length c.push_front_reserved.ensures.items,
      c.loop-left.invariant.few,
    )

pub release-requires : goal.release-requires
release-requires c =
    let first = c.in-Some.first in
    let rest = c.pop_front.new.self.items in
    covers_first first.hold.buf (bufs_of rest)
    (subst (λ xs. Covers c.loop-left.store (bufs_of xs)) c.in-Some.ensures.items c.loop-left.invariant.covered)

pub loop-left-preserved : goal.loop-left-preserved
loop-left-preserved c =
    let s = c.args.store.now in
    let t = c.loop-left.store in
    let first = c.in-Some.first in
    let rest = c.pop_front.new.self.items in
    let items = c.in-Some.ensures.items in
    let before = c.loop-left.invariant in
    let covered = covers_less first.hold.buf (bufs_of rest) (subst (λ xs. Covers t (bufs_of xs)) items before.covered)
    c.release.ensures.moves.counts in
    record {
      so_far = drop_first first rest c.loop-left.queue.items c.loop-left.left items c.if-len-left.false ∙ before.so_far;
      few = omega (arith, ap length items, before.few);
      covered = covered;
      moves =
          moves_first (bufs_of rest) (subst (λ xs. Moves s t (bufs_of c.args.queue.now.items) (bufs_of xs)) items
          before.moves) c.release.ensures.moves;
      lists = c.release.ensures.lists ∙ before.lists;
      frees = frees_trans before.frees c.release.ensures.frees c.release.ensures.moves.counts;
      reclaims = λ readable all.
          let r = before.reclaims readable all in
          let there = readable_rest first rest (subst (λ xs. AllReadable t xs) items r.0) c.release.ensures.moves
          covered in
          (there.1, c.release.ensures.reclaims there.0 r.1);
    }
