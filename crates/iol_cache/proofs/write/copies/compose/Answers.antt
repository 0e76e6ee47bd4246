use Rattle.std.proofs.Common.{Err, [], List, length, drop, refl, sym, ap, subst, arith, rules}
use Rattle.iol_cache.specs.Composition.{copied_pages}
use Rattle.std.proofs.lemmas.List.{drop_all, length-drop}
use Rattle.iol_hold.specs.Moves.{Covers, Moves}
use Rattle.iol_hold.specs.Room.{free_of}
use Rattle.iol_hold.specs.StoreState.{Stored}
use Rattle.iol_hold.specs.Texts.{AllReadable, bufs_of}
use Rattle.iol_hold.specs.declared.slices.Slice.{Slice}
use Rattle.iol_hold.proofs.Moves.{covers_given, moves_none}
use Rattle.iol_hold.proofs.PageChanges.{keeps_pages_same}
use Rattle.iol_hold.proofs.ReadSlices.{readable_stays}
use Rattle.iol_hold.proofs.Releases.{frees_trans}
use Rattle.iol_cache.specs.Composition.{ComposesRun}
use Rattle.iol_cache.proofs.RangeWrites.Composition.{composed, covers_first, covers_second, covers_source, gone_both}
use Rattle.iol_cache.proofs.RangeWrites.Composition.{may_advance, run_all, run_none, run_then}
use Rattle.iol_cache.proofs.RangeReads.FilledGaps.{moved_back, placed_some, places_then}
use Rattle.iol_cache.proofs.write.copies.compose.Goals as goal

pub loop-i-init : goal.loop-i-init
loop-i-init c = record {
  within = omega arith;
  at = refl;
  composes =
      subst (λ (l : List Slice). ComposesRun c.args.store.now c.args.store.now c.args.pool c.args.source.now
      c.args.source.now l) (sym c.new-so_far.ensures) (run_none c.args.store.now c.args.pool c.args.source.now);
}

pub compose_run-requires-clause-may : goal.compose_run-requires-clause-may
compose_run-requires-clause-may c = may_advance c.requires c.loop-i.invariant.composes

pub release-requires : goal.release-requires
release-requires c =
    subst (λ (u : Stored). Covers u (bufs_of c.loop-i.so_far)) (sym c.in-Err.ensures.err)
    (covers_given c.loop-i.invariant.composes.composes.moves.counts)

pub returns-in-Err : goal.returns-in-Err
returns-in-Err c =
    let err = c.in-Err.ensures.err in
    let pools = ap (λ (x : Stored). x.pools) err in
    let m = c.loop-i.invariant.composes in
    record {
      composes = tt;
      leaves = record {
        none =
            moved_back m.composes.moves
            (subst (λ (u : Stored). Moves c.loop-i.store u [] []) (sym err) (moves_none c.loop-i.store))
            c.release.ensures.moves (λ b. refl);
        given_back = placed_some (copied_pages c.args.pool c.args.source.now) (omega (arith, m.pages)) m.composes.pages
            (keeps_pages_same c.loop-i.store c.compose_run.new.store (ap (λ (x : Stored). x.arena) err) pools)
            c.release.ensures.frees pools;
        lists = search (rules);
        reclaims = search (rules);
        no_room =
            λ p is. omega (
              arith,
              c.in-Err.ensures.no_room p (ap (λ x. Err x) is),
              ap length m.composes.pages.free,
              length-drop m.count (free_of c.args.store.now c.args.pool),
              m.composes.pages.enough,
              m.pages,
            );
      };
      late = c.in-Err.ensures.late;
    }

pub release-requires-in-Err-join : goal.release-requires-in-Err-join
release-requires-in-Err-join c =
    let is0 = ap (λ (q : List Slice × List Slice). q.0) c.in-Err-join.ensures.back in
    subst (λ (x : List Slice). Covers c.compose_run.new.store (bufs_of x)) (sym is0)
    (covers_first c.loop-i.invariant.composes.composes.moves c.in-Ok.ensures.composes.composes.moves)

pub release-requires-in-Err-join-2 : goal.release-requires-in-Err-join-2
release-requires-in-Err-join-2 c =
    let is0 = ap (λ (q : List Slice × List Slice). q.0) c.in-Err-join.ensures.back in
    let is1 = ap (λ (q : List Slice × List Slice). q.1) c.in-Err-join.ensures.back in
    let gone = subst (λ (x : List Slice). Moves c.compose_run.new.store c.release-in-Err-join.new.store (bufs_of x) [])
    is0 c.release-in-Err-join.ensures.moves in
    subst (λ (x : List Slice). Covers c.release-in-Err-join.new.store (bufs_of x)) (sym is1)
    (covers_second c.loop-i.invariant.composes.composes.moves c.in-Ok.ensures.composes.composes.moves gone)

pub returns-in-Err-join : goal.returns-in-Err-join
returns-in-Err-join c =
    let u = c.compose_run.new.store in
    let v = c.release-in-Err-join.new.store in
    let one = c.release-in-Err-join.ensures in
    let two = c.release-in-Err-join-2.ensures in
    let m = c.loop-i.invariant.composes in
    let n = c.in-Ok.ensures.composes in
    let a = m.composes in
    let b = n.composes in
    let is0 = ap (λ (q : List Slice × List Slice). q.0) c.in-Err-join.ensures.back in
    let is1 = ap (λ (q : List Slice × List Slice). q.1) c.in-Err-join.ensures.back in
    let gone = subst (λ (x : List Slice). Moves u v (bufs_of x) []) is0 one.moves in
    let first = readable_stays c.loop-i.so_far b.moves.stays (covers_first a.moves b.moves) a.readable in
    let second = readable_stays c.in-Ok.composed.2 gone.stays (covers_second a.moves b.moves gone) b.readable in
    record {
      composes = tt;
      leaves = record {
        none =
            gone_both a.moves b.moves gone
            (subst (λ (x : List Slice). Moves v c.release-in-Err-join-2.new.store (bufs_of x) []) is1 two.moves);
        given_back = placed_some (copied_pages c.args.pool c.args.source.now) (omega (arith, m.pages, n.pages))
            (places_then a.pages b.pages) (keeps_pages_same u u refl refl)
            (frees_trans one.frees two.frees two.moves.counts) refl;
        lists = search (rules);
        reclaims =
            λ all. two.reclaims (subst (AllReadable v) (sym is1) second)
            (one.reclaims (subst (AllReadable u) (sym is0) first) (b.reclaims (a.reclaims all)));
        no_room = search (rules);
      };
      late = tt;
    }

pub loop-i-preserved : goal.loop-i-preserved
loop-i-preserved c =
    let m = c.loop-i.invariant.composes in
    record {
      within = c.in-Ok.ensures.within;
      at = c.in-Ok.ensures.ends;
      composes =
          subst (λ (l : List Slice). ComposesRun c.args.store.now c.compose_run.new.store c.args.pool c.args.source.now
          (drop c.in-Ok.composed.0 c.args.source.now) l) (sym c.in-Ok-join.ensures.joined)
          (run_then c.requires.readable (covers_source c.requires.covered m.composes.moves) m c.in-Ok.ensures.composes);
    }

pub returns : goal.returns
returns c =
    let xs = c.args.source.now in
    let all =
    run_all (drop c.loop-i.i xs)
    (drop_all c.loop-i.i xs (omega (arith, ap length c.slices.ensures, c.loop-i-test.false)))
    c.loop-i.invariant.composes in
    record { composes = all; leaves = composed all; late = tt }
