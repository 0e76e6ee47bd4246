use Rattle.std.proofs.Common.{◌-◌, ◌≤◌, length, take, drop, sym, subst, arith}
use Rattle.std.proofs.KnownBytes.{Appends-trans}
use Rattle.std.proofs.lemmas.List.{length-take}
use Rattle.std.specs.Io.KnownBytes.{Appends}
use Rattle.iol_sock.proofs.Writes.{more_of}
use Rattle.iol_sock.proofs.drain_to.write_some.Goals as goal

pub loop-at-preserved : goal.loop-at-preserved
loop-at-preserved g c =
    let bytes = c.args.bytes.now in
    let at = c.loop-at.at in
    let n = c.in-Ok.n in
    let old = g.W.Write.contents c.args.writer.now in
    let now = g.W.Write.contents c.loop-at.writer in
    let new = g.W.Write.contents c.write.new.self in
    let few : n ≤ length bytes - at =
    omega (arith, c.in-Ok.ensures.bound, length-take (length bytes - at) (drop at bytes)) in
    record {
      most = omega (arith, c.loop-at-test.true, few);
      written = subst (λ w. Appends old new w) (sym (more_of bytes at n few))
          (Appends-trans old now new (take at bytes) (take n (take (length bytes - at) (drop at bytes)))
          c.loop-at.invariant.written c.in-Ok.ensures.bytes);
    }
