use Rattle.std.proofs.Common.{◌≡◌, ◌∙◌, List, [], ap, arith, subst, sym}
use Rattle.std.specs.Prelude.{slice_range}
use Rattle.std.specs.Option.{option_copied}
use Rattle.iol_core.specs.State.{Domain}
use Rattle.iol_hold.specs.Places.{places, byte_len}
use Rattle.iol_kernel.specs.HoldCounts.{MayShare}
use Rattle.iol_hold.specs.declared.slices.Slice.{Slice}
use Rattle.iol_desc.specs.Tables.{domains_of, domain_in, with_agg_in}
use Rattle.iol_kernel.specs.Kernel.{state_of}
use Rattle.iol_kernel.specs.KernelState.{slices_in}
use Rattle.iol_kernel.specs.Readings.{bytes_over}
use Rattle.iol_kernel.proofs.AggregateCalls.Additions.{cut_answers}
use Rattle.iol_kernel.proofs.AggregateCalls.Slices.{agg_shared, slices_kept}
use Rattle.iol_kernel.proofs.State.TableCalls.{attempted}
use Rattle.iol_kernel.proofs.State.Effects.{few_kept}
use Rattle.iol_kernel.proofs.State.ReadOf.{length_text-read_of}
use Rattle.iol_kernel.proofs.kernel.Kernel.add_cut.Goals as goal
use Rattle.iol_kernel.proofs.kernel.Kernel.add_cut.Goals.{In-Some}

-- the slices of the aggregate
whole : (c : In-Some) → slices_in (domains_of c.args.self.now.domains) c.args.by c.args.agg ≡ c.in-Some.whole.now
whole c = slices_kept c.args.by c.args.agg c.in_ok-reserve_aggs.ensures.same (sym (ap option_copied c.in-Some.is)
    ∙ c.agg.ensures)

pub cut-requires : goal.cut-requires
cut-requires c =
    let h = state_of c.args.self.now in
    let is = whole (goal.at.cut-requires c).In-Some in
    let shared = subst (MayShare h.store) is (agg_shared c.requires.has) in
    record {
      ordered = c.requires.ordered;
      within =
          omega (
            arith,
            c.requires.within,
            length_text-read_of (bytes_over [] h.store) h c.args.by c.args.agg,
            ap byte_len is,
          );
      covered = shared.covered;
      countable = shared.countable;
    }

pub add_agg-requires-clause-few : goal.add_agg-requires-clause-few
add_agg-requires-clause-few c =
    (let few = few_kept (state_of c.args.self.now) c.args.by c.requires.few c.in_ok-reserve_aggs.ensures.same in
    omega (arith, few))

pub returns : goal.returns
returns c =
    let h = state_of c.args.self.now in
    let e = c.in_ok-cut.ensures in
    let same = c.in_ok-reserve_aggs.ensures.same in
    attempted (cut_answers h c.cut.new.store (domains_of c.add_agg.new.self) c.args.by c.args.agg c.args.from c.args.to
    c.add_agg.result
    (record {
      slices = c.in_ok-cut.cut;
      is_there =
          e.places ∙ ap (λ (xs : List Slice). slice_range (places xs) c.args.from c.args.to)
          (sym (whole (goal.at.returns c).In-Some));
      shares = e.shares;
      added = c.add_agg.ensures.added
          ∙ ap (λ (ds : List (Domain (List Slice))). with_agg_in ds c.args.by c.in_ok-cut.cut) same;
    })
    c.requires (c.add_agg.ensures.number ∙ ap (λ (ds : List (Domain (List Slice))). (domain_in ds c.args.by).next_agg)
    same))
