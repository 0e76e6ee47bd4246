use Rattle.std.proofs.Common.{[], ◌∙◌, ap, arith, List}
use Rattle.iol_core.specs.State.{Domain}
use Rattle.iol_hold.specs.declared.slices.Slice.{Slice}
use Rattle.iol_desc.specs.Tables.{domains_of, row_in}
use Rattle.iol_kernel.specs.Kernel.{state_of}
use Rattle.iol_kernel.specs.KernelState.{KernelState}
use Rattle.iol_kernel.specs.Readings.{bytes_over}
use Rattle.iol_kernel.proofs.State.Effects.{few_aggs, few_kept}
use Rattle.iol_kernel.proofs.Queues.QueueSlices.{front_taken}
use Rattle.iol_kernel.proofs.Queues.SoundPipes.{front_added}
use Rattle.iol_kernel.proofs.kernel.Kernel.take.Goals as goal

pub add_agg-requires-clause-few : goal.add_agg-requires-clause-few
add_agg-requires-clause-few c =
    (let few = few_kept (state_of c.args.self.now) c.args.by c.requires.few (ap domains_of c.in_ok-agg.ensures.table
    ∙ c.in_ok-reserve_aggs.ensures.same) in omega (arith, few))

pub add_agg-requires-clause-room : goal.add_agg-requires-clause-room
add_agg-requires-clause-room c =
    omega (arith, ap (λ t. (row_in t c.args.by).room) c.in_ok-agg.ensures.table, c.in_ok-reserve_aggs.ensures.room)

pub returns : goal.returns
returns c =
    let h = state_of c.args.self.now in
    let old : KernelState = record h { domains = domains_of c.reserve_aggs.new.self } in
    let same = ap (λ (ds : List (Domain (List Slice))). record h { domains = ds }) c.in_ok-reserve_aggs.ensures.same in
    let kept = ap domains_of c.in_ok-agg.ensures.table ∙ c.in_ok-reserve_aggs.ensures.same in
    let made = front_added h old (state_of c.front.new.self) c.args.from.now c.args.by c.args.fd c.args.n
    c.add_agg.result c.in_ok-agg.agg (domains_of c.add_agg.new.self)
    same kept c.in_ok-agg.ensures.given c.requires.held
    (omega (arith, few_aggs (bytes_over [] h.store) h c.args.by 1 0 c.requires.few)) c.add_agg.ensures.number
    c.add_agg.ensures.added in
    record {
      attempts = record { done = made; err = tt };
      slices = front_taken h old (state_of c.front.new.self) c.args.from.now c.args.by c.args.n c.in_ok-agg.agg
          (domains_of c.add_agg.new.self) same kept c.in_ok-agg.ensures.given c.add_agg.ensures.added;
    }
