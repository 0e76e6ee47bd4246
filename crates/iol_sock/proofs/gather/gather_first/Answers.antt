use Rattle.std.proofs.Common.{◌≡◌, ℕ, ◌+◌, ◌-◌, ◌<◌, ◌≤◌, min, List, ◌++◌, take, length, subst, arith}
use Rattle.std.proofs.KnownBytes.{Appends-trans}
use Rattle.std.specs.Io.KnownBytes.{Appends}
use Rattle.iol_core.specs.Text.{bytes_of}
use Rattle.iol_hold.specs.Places.{byte_len}
use Rattle.iol_hold.specs.Texts.{text_of}
use Rattle.iol_hold.proofs.SlicePlaces.{byte_len-take-le}
use Rattle.iol_sock.proofs.GatherCalls.{called, one_more, one_whole}
use Rattle.iol_sock.proofs.Gathers.{Offers, offers, part_short, four_long, slice_left, slice_near, next_some}
use Rattle.iol_sock.proofs.gather.gather_first.Given.{Over}
use Rattle.iol_sock.proofs.gather.gather_first.Goals.{After-gather-count, After-part-first}
use Rattle.iol_sock.proofs.gather.gather_first.Goals as goal

-- the index of this slice is less than the number of bytes of the queue
near : (g : Over) (c : After-part-first g) → c.loop-taken.i < byte_len c.args.queue.now
near g c = slice_near c.args.queue.now c.loop-taken.i c.loop-taken.taken c.min-most.result c.args.max
    (omega (arith, c.min-most.ensures, c.len.ensures.len)) c.loop-taken.invariant.full c.loop-taken-test.true

pub overflow_add-i : goal.overflow_add-i
overflow_add-i g c =
    omega (arith, near g (goal.at.overflow_add-i g c).After-part-first, c.len.ensures.len, c.len.ensures.most)

pub overflow_add-i-in-loop-taken : goal.overflow_add-i-in-loop-taken
overflow_add-i-in-loop-taken g c =
    omega (
      arith,
      near g (goal.at.overflow_add-i-in-loop-taken g c).After-part-first,
      c.len.ensures.len,
      c.len.ensures.most,
    )

pub overflow_add-i-in-loop-taken-2 : goal.overflow_add-i-in-loop-taken-2
overflow_add-i-in-loop-taken-2 g c =
    omega (
      arith,
      near g (goal.at.overflow_add-i-in-loop-taken-2 g c).After-part-first,
      c.len.ensures.len,
      c.len.ensures.most,
    )

pub overflow_add-i-in-loop-taken-3 : goal.overflow_add-i-in-loop-taken-3
overflow_add-i-in-loop-taken-3 g c =
    omega (
      arith,
      near g (goal.at.overflow_add-i-in-loop-taken-3 g c).After-part-first,
      c.len.ensures.len,
      c.len.ensures.most,
    )

-- the bytes that were offered in this step, and those that were taken
pub record Step (g : Over) (c : After-gather-count g) : Type 0 where
  pub offered : List ℕ
  pub size : length offered ≡ length c.part-first.result.now + length c.part-second.result.now
      + length c.part-third.result.now + length c.part-fourth.result.now
  pub full : c.loop-taken.taken + length offered
      ≡ min c.min-most.result (byte_len (take (c.loop-taken.i + 4) c.args.queue.now))
  pub some : 0 < length offered
  pub call : g.G.Gather.gathers c.loop-taken.taker offered c.gather-count.result c.gather-count.new.self
  pub few : c.gather-count.result ≤ length offered
  pub written : Appends (g.G.Gather.contents c.args.taker.now) (g.G.Gather.contents c.gather-count.new.self)
      (take (c.loop-taken.taken + c.gather-count.result) (bytes_of (text_of c.args.store.now c.args.queue.now)))

step : (g : Over) (c : After-gather-count g) → Step g c
step g c =
    let s = c.args.store.now in
    let xs = c.args.queue.now in
    let i = c.loop-taken.i in
    let n = c.loop-taken.taken in
    let k = c.gather-count.result in
    let a = c.part-first.result.now in
    let b = c.part-second.result.now in
    let d = c.part-third.result.now in
    let e = c.part-fourth.result.now in
    let l : ℕ = c.min-most.result - n in
    let l1 : ℕ = l - length a in
    let l2 : ℕ = l1 - length b in
    let l3 : ℕ = l2 - length d in
    let o : Offers s xs i c.min-most.result n (a ++ b ++ d ++ e) =
    offers s xs i c.min-most.result n l l1 l2 l3 a b d e c.loop-taken.invariant.full
    (omega (arith, c.loop-taken-test.true))
    c.part-first.ensures (omega (arith, part_short s xs i l a c.part-first.ensures))
    c.part-second.ensures (omega (arith, part_short s xs (i + 1) l1 b c.part-second.ensures))
    c.part-third.ensures (omega (arith, part_short s xs (i + 2) l2 d c.part-third.ensures))
    c.part-fourth.ensures in
    let there : i < length xs = slice_left xs i n c.min-most.result c.args.max
    (omega (arith, c.min-most.ensures, c.len.ensures.len)) c.loop-taken.invariant.full c.loop-taken-test.true in
    record {
      offered = a ++ b ++ d ++ e;
      size = four_long a b d e;
      full = o.long;
      some =
          omega (
            arith,
            o.long,
            c.loop-taken.invariant.full,
            c.loop-taken-test.true,
            next_some xs i (i + 4) (omega arith) there,
          );
      call = c.gather-count.ensures.call;
      few = c.gather-count.ensures.bound;
      written =
          subst (λ w. Appends (g.G.Gather.contents c.args.taker.now) (g.G.Gather.contents c.gather-count.new.self) w)
          (o.taken k c.gather-count.ensures.bound)
          (Appends-trans (g.G.Gather.contents c.args.taker.now) (g.G.Gather.contents c.loop-taken.taker)
          (g.G.Gather.contents c.gather-count.new.self) (take n (bytes_of (text_of s xs)))
          (take k (a ++ b ++ d ++ e)) c.loop-taken.invariant.written c.gather-count.ensures.bytes);
    }

pub returns-then-count-offered-clause-writes : goal.returns-then-count-offered-clause-writes
returns-then-count-offered-clause-writes g c =
    let t = step g (goal.at.returns-then-count-offered-clause-writes g c).After-gather-count in
    let all = byte_len-take-le c.args.queue.now (c.loop-taken.i + 4) in
    let most : c.min-most.result ≡ min (byte_len c.args.queue.now) c.args.max =
    omega (arith, c.min-most.ensures, c.len.ensures.len) in
    record {
      most = omega (arith, t.few, t.full, most, all);
      all = λ bad. absurd (cc bad);
      fewer =
          λ failed. omega (arith, t.full, t.size, most, all, c.if-count-offered.true);
      written = t.written;
    }

pub loop-taken-preserved : goal.loop-taken-preserved
loop-taken-preserved g c =
    let t = step g (goal.at.loop-taken-preserved g c).After-gather-count in
    record {
      full = omega (arith, t.few, t.full, t.size, c.if-count-offered.false);
      written = t.written;
      calls =
          one_whole g.G.Gather.gathers _ _ _ t.offered _ c.loop-taken.invariant.calls t.call
          t.some (omega (arith, t.few, t.size, c.if-count-offered.false));
    }

pub returns-then-count-offered-clause-calls : goal.returns-then-count-offered-clause-calls
returns-then-count-offered-clause-calls g c =
    let t = step g (goal.at.returns-then-count-offered-clause-calls g c).After-gather-count in
    one_more g.G.Gather.gathers _ _ _ t.offered _ c.loop-taken.invariant.calls t.call t.some

pub returns-clause-calls : goal.returns-clause-calls
returns-clause-calls g c = called g.G.Gather.gathers _ _ c.loop-taken.invariant.calls
