use Rattle.std.proofs.Common.{refl}
use Rattle.iol_core.specs.Calls.Aggregates as aggs
use Rattle.iol_core.specs.declared.events.Call.TheVariants as call
use Rattle.iol_core.specs.declared.events.Event.TheVariants as event
use Rattle.iol_core.specs.declared.events.Reply.TheVariants as reply
use Rattle.iol_kernel.specs.Kernel.{state_of}
use Rattle.iol_system.specs.BorrowedMemory as borrowed
use Rattle.iol_system.specs.Effects.{Does}
use Rattle.iol_system.specs.Replies.{reported}
use Rattle.iol_system.proofs.BorrowedMemory.{shown_not_memory, shown_roomy, shown_steps}
use Rattle.iol_system.proofs.Effects.{looks_does, shown}
use Rattle.iol_system.proofs.ReplyAnswers.{reported_step}
use Rattle.iol_system.proofs.Safe.{promises_kept}
use Rattle.iol_system.proofs.system.System.show_into.Goals as goal

pub returns : goal.returns
returns g c =
    let h = state_of c.self.inside.kernel in
    let disk = g.B.Backing.disk c.self.inside.backing in
    let memory = c.args.out.now in
    let filled = c.show_into.new.into in
    let r = c.show_into.result in
    let x = c.show_into.ensures in
    let steps = shown_steps c.args.by c.args.agg memory filled h r x in
    let roomy = shown_roomy c.args.by c.args.agg memory filled h r x in
    let does : Does disk h (event.Call c.args.by (call.Show c.args.agg))
    (reported reply.Bytes (borrowed.shown x.bytes r)) disk h =
    looks_does reply.Bytes (λ s. aggs.show s c.args.by c.args.agg) (λ a. refl) refl
    (λ s. reported_step reply.Bytes (λ a. refl) (aggs.show s c.args.by c.args.agg) s) tt tt (λ k. k) (λ s. refl)
    refl (λ s. refl) (λ s d a t is kept. is) (λ is. refl)
    (shown c.args.by c.args.agg disk h (borrowed.shown x.bytes r) c.self.invariant.sound steps roomy) in
    rw (← c.self.view_is) (record {
      shows = x;
      step = promises_kept _ _ _ _ c.self.invariant does;
      not_memory = shown_not_memory c.args.by c.args.agg memory filled h r x;
    })
