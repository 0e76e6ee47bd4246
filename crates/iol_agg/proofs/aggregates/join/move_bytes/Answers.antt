use Rattle.std.proofs.Common.{◌≡◌, ◌≤◌, get_or, ap, ◌∙◌, arith, rules}
use Rattle.iol_hold.specs.Places.{places}
use Rattle.iol_hold.specs.StoreState.{Buffer}
use Rattle.iol_hold.specs.Texts.{bufs_of}
use Rattle.iol_hold.specs.declared.slices.Slice.{Slice}
use Rattle.iol_agg.proofs.Division.{bufs-given, bufs-left, bufs-none, covers_at, places-given, places-left}
use Rattle.iol_agg.proofs.Division.{shares-given}
use Rattle.iol_agg.proofs.aggregates.join.move_bytes.Goals as goal

pub divide-part-requires : goal.divide-part-requires
divide-part-requires c =
    let xs = c.args.second.now.items in
    let x = c.index_mut.result.now in
    let first : x ≡ get_or xs 0 x = c.index_mut.ensures.value in
    let m = c.requires.moves in
    record {
      some = omega arith;
      within = omega (arith, m.inside x (omega arith), ap (λ (y : Slice). y.len) first);
      live = covers_at xs 0 x (m.there (omega arith)) first m.held.covered;
      few =
          omega (arith, m.held.countable.each x.hold.buf);
    }

pub returns-then-n-eq0 : goal.returns-then-n-eq0
returns-then-n-eq0 c =
    let bufs = bufs-none c.args.first.now.items c.args.second.now.items c.args.n c.if-n-eq0.true in
    search rules

pub returns : goal.returns
returns c =
    let fs = c.args.first.now.items in
    let xs = c.args.second.now.items in
    let x = c.index_mut.result.now in
    let y = c.divide-part.new.slice in
    let part = c.divide-part.result in
    let n = c.args.n in
    let first : x ≡ get_or xs 0 x = c.index_mut.ensures.value in
    let there = c.requires.moves.there (omega arith) in
    let small = c.requires.moves.inside x (omega arith) in
    let fits : n ≤ x.len = omega (arith, small, ap (λ (z : Slice). z.len) first) in
    let e = c.divide-part.ensures in
    let given = ap (λ (h : Buffer). h.buf) e.given_hold in
    let kept = ap (λ (h : Buffer). h.buf) e.kept_hold in
    record {
      places = ap places c.push_reserved.ensures.items ∙ places-given fs xs x part n there first fits e.given;
      left = places-left xs x y n there first fits e.kept;
      bufs = ap bufs_of c.push_reserved.ensures.items ∙ bufs-given fs xs x part n there first (omega arith) small given;
      left_bufs = bufs-left xs x y there first kept;
      shares = rw c.push_reserved.ensures.items (shares-given fs xs x y part there first given kept e.shares);
    }
