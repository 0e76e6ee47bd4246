use Rattle.std.proofs.Common.{rules, ◌≡◌, ◌+◌, ◌-◌, ◌<◌, ◌++◌, ◌∙◌, min, length, take, drop, refl, ap, arith, true}
use Rattle.std.proofs.Common.{false}
use Rattle.std.proofs.lemmas.List.{length-take}
use Rattle.iol_pool.specs.Pools.{names_in}
use Rattle.iol_pipe.proofs.Copies.{seen, readable-item, length-slice_bytes, seen_barred, seen_more, copied_full}
use Rattle.iol_pipe.proofs.Copies.{copied_more}
use Rattle.iol_pipe.proofs.Pipe.copy_front.Goals as goal

pub returns-then-not-names-clause-count : goal.returns-then-not-names-clause-count
returns-then-not-names-clause-count c =
    let ps = c.args.store.now.pools in
    let n = length c.args.into.now in
    let at = c.loop-at.at in
    let more : at < n = omega (arith, c.loop-at-test.true, c.loop-at.invariant.len) in
    let x = c.in-Some.slice.now in
    let barred : names_in ps x.hold.pool c.args.d ≡ false = search (rules) in
    let none = seen_barred ps c.args.d c.args.self.now c.loop-at.i (n - at) x (c.in-Some.ensures.there.0 refl)
    c.in-Some.ensures.item (omega (arith, more)) barred in
    omega (arith, c.loop-at.invariant.count, none)

pub bytes-requires : goal.bytes-requires
bytes-requires c = readable-item c.args.self.now c.loop-at.i c.in-Some.slice.now (c.in-Some.ensures.there.0 refl)
    c.in-Some.ensures.item c.requires

pub slice_bounds-put_at-end : goal.slice_bounds-put_at-end
slice_bounds-put_at-end c =
    let x = c.in-Some.slice.now in
    let readable = readable-item c.args.self.now c.loop-at.i x (c.in-Some.ensures.there.0 refl) c.in-Some.ensures.item
    c.requires in
    omega (
      arith,
      c.min-len.ensures,
      length-take c.min-len.result c.bytes.result.now,
      ap length c.bytes.ensures,
      length-slice_bytes x readable,
    )

pub loop-at-preserved : goal.loop-at-preserved
loop-at-preserved c =
    let s = c.args.store.now in
    let xs = c.args.self.now in
    let n = length c.args.into.now in
    let at = c.loop-at.at in
    let i = c.loop-at.i in
    let x = c.in-Some.slice.now in
    let len = c.min-len.result in
    let there = c.in-Some.ensures.there.0 refl in
    let is = c.in-Some.ensures.item in
    let readable = readable-item xs i x there is c.requires in
    let same = c.loop-at.invariant.len in
    let full = c.loop-at.invariant.full in
    let more : at < n = omega (arith, c.loop-at-test.true, same) in
    let offered : len ≡ min x.len (n - at) = omega (arith, c.min-len.ensures, same) in
    let listed : names_in s.pools x.hold.pool c.args.d ≡ true = search (rules) in
    let step = seen_more s.pools c.args.d xs i (n - at) x there is len offered listed in
    let left : n - at - len ≡ n - (at + len) = omega arith in
    let put = c.put_at.ensures
    ∙ ap (λ w. take at c.loop-at.into ++ take len w ++ drop (at + length (take len w)) c.loop-at.into)
    c.bytes.ensures in
    let new = copied_more s xs i at n len x there is readable full more offered c.args.into.now c.loop-at.into
    c.put_at.new.into c.loop-at.invariant.copied put in
    let rest = ap (λ k. seen s.pools c.args.d xs (i + 1) k) left in
    record {
      inside = omega (arith, there);
      full = copied_full s xs i at n len x there is readable full more offered;
      len = omega (arith, c.put_at.auto.into, same);
      count = omega (arith, c.loop-at.invariant.count, step, rest);
      copied = new;
    }
