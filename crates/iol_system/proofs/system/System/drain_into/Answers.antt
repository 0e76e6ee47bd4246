use Rattle.std.proofs.Common.{refl, subst}
use Rattle.iol_kernel.specs.Kernel.{state_of}
use Rattle.iol_system.specs.Machine.{SystemState, system_of}
use Rattle.iol_system.specs.Streams.{ServesWriter}
use Rattle.iol_system.proofs.Streams.{drained_safe, refuses_same}
use Rattle.iol_system.proofs.system.System.drain_into.Goals as goal

pub invariant_of-self : goal.invariant_of-self
invariant_of-self g c =
    let e = c.drain_into.ensures.drains in
    drained_safe (state_of c.self.inside.kernel) (state_of c.drain_into.new.self)
    (g.B.Backing.disk c.self.inside.backing) c.args.conn _ _ _ c.drain_into.result c.self.invariant e.sound e.drains
    e.refuses.err

pub returns-clause-serves : goal.returns-clause-serves
returns-clause-serves g c =
    let e = c.drain_into.ensures.drains in
    let old = state_of c.self.inside.kernel in
    let k = state_of c.drain_into.new.self in
    let disk = g.B.Backing.disk c.self.inside.backing in
    let held = g.G.Gather.contents c.args.taker.now in
    let now = g.G.Gather.contents c.drain_into.new.taker in
    subst (λ (s : SystemState). ServesWriter c.args.conn c.args.max s (system_of k disk) c.args.taker.now
    c.drain_into.new.taker held now c.drain_into.result) c.self.view_is (record {
      refuses = refuses_same old k disk c.args.conn _ _ c.drain_into.result e.refuses;
      drains = e.drains;
      disk = refl;
      safe = drained_safe old k disk c.args.conn _ _ _ c.drain_into.result c.self.invariant e.sound e.drains
          e.refuses.err;
      stays = e.stays;
    })
