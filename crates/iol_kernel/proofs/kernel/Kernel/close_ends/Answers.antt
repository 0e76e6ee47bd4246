use Rattle.std.proofs.Common.{◌∙◌, ◌+◌, sym, ap, subst, take, Option}
use Rattle.std.specs.Prelude.{fold, Some}
use Rattle.std.proofs.lemmas.List.Sums.{fold_more}
use Rattle.iol_core.specs.Calls.Descriptors.{closed_on}
use Rattle.iol_core.specs.declared.descriptors.Descriptor.{Descriptor}
use Rattle.iol_kernel.specs.Kernel.{state_of}
use Rattle.iol_kernel.specs.EndCounts.{all_ends_on}
use Rattle.iol_kernel.specs.KernelState.{objects_of, read_of, IsOpenEnd}
use Rattle.iol_kernel.proofs.Queues.CloseAll.{pools-fold}
use Rattle.iol_kernel.proofs.State.Effects.{leaves_as, leaves_then}
use Rattle.iol_kernel.proofs.Queues.TakenEnds.{first_alone, first_open, later_taken}
use Rattle.iol_kernel.proofs.kernel.Kernel.close_ends.Goals as goal

pub close_end-requires : goal.close_end-requires
close_end-requires c =
    let h = state_of c.args.self.now in
    let k = state_of c.loop-place.self in
    record {
      sound = c.loop-place.invariant.closed.sound;
      opened =
          subst (IsOpenEnd (objects_of k)) c.in-Some.is
          (first_open h.domains (objects_of k) c.args.ends.now c.loop-place.place-index c.place-item.result
          c.loop-place-test.true c.place-item.is c.loop-place.invariant.left);
      free = ap (all_ends_on c.in-Some.end) c.loop-place.invariant.domains
          ∙ first_alone h.domains (objects_of k) c.args.ends.now c.loop-place.place-index c.place-item.result
          c.loop-place-test.true c.place-item.is c.loop-place.invariant.left c.in-Some.end c.in-Some.is;
    }

pub loop-place-preserved : goal.loop-place-preserved
loop-place-preserved c =
    let h = state_of c.args.self.now in
    let k = state_of c.loop-place.self in
    let l = state_of c.close_end.new.self in
    let i = c.loop-place.place-index in
    let ends = c.args.ends.now in
    record {
      closed =
          leaves_as (λ s. closed_on (fold closed_on s (take i ends)) (Some c.in-Some.end))
          (λ s. fold closed_on s (take (i + 1) ends)) h l
          (λ f. ap (λ (o : Option Descriptor). closed_on (fold closed_on (read_of f h) (take i ends)) o)
          (sym c.in-Some.is ∙ c.place-item.is)
          ∙ sym (fold_more closed_on (read_of f h) ends i c.place-item.result c.loop-place-test.true))
          (leaves_then (λ s. fold closed_on s (take i ends)) (λ s. closed_on s (Some c.in-Some.end)) h k l
          (λ s. pools-fold s (take i ends)) c.loop-place.invariant.closed c.close_end.ensures.closed);
      domains = c.close_end.ensures.domains ∙ c.loop-place.invariant.domains;
      left = later_taken h.domains (objects_of k) ends i c.place-item.result c.loop-place-test.true c.place-item.is
          c.loop-place.invariant.left c.in-Some.end c.in-Some.is (objects_of l) c.close_end.ensures.others;
    }
