use Rattle.std.proofs.Common.{◌≡◌, ◌∙◌, List, [], ◌++◌, ap, arith, subst, sym}
use Rattle.std.specs.Option.{option_copied}
use Rattle.iol_core.specs.State.{Domain}
use Rattle.iol_hold.specs.Moves.{Covers, IsCountable}
use Rattle.iol_hold.specs.Places.{places, byte_len}
use Rattle.iol_hold.specs.Texts.{bufs_of}
use Rattle.iol_hold.specs.declared.slices.Slice.{Slice}
use Rattle.iol_desc.specs.Tables.{domains_of, domain_in, with_agg_in}
use Rattle.iol_kernel.specs.NewAggregates.{replaced}
use Rattle.iol_kernel.specs.Kernel.{state_of}
use Rattle.iol_kernel.specs.KernelState.{slices_in}
use Rattle.iol_kernel.specs.Readings.{bytes_over}
use Rattle.iol_kernel.proofs.AggregateCalls.Additions.{replaced_answers}
use Rattle.iol_kernel.proofs.AggregateCalls.Slices.{agg_shared, slices_kept, thrice_countable}
use Rattle.iol_kernel.proofs.State.TableCalls.{attempted}
use Rattle.iol_kernel.proofs.State.Effects.{few_kept}
use Rattle.iol_kernel.proofs.State.ReadOf.{length_text-read_of}
use Rattle.iol_kernel.proofs.kernel.Kernel.replace.Goals as goal
use Rattle.iol_kernel.proofs.kernel.Kernel.replace.Goals.{In-Some, In-Some-agg}

-- the slices of the two aggregates

whole : (c : In-Some) → slices_in (domains_of c.args.self.now.domains) c.args.by c.args.agg ≡ c.in-Some.whole.now
whole c = slices_kept c.args.by c.args.agg c.in_ok-reserve_aggs.ensures.same (sym (ap option_copied c.in-Some.is)
    ∙ c.agg.ensures)

inner : (c : In-Some-agg) → slices_in (domains_of c.args.self.now.domains) c.args.by c.args.other
    ≡ c.in-Some-agg.inner.now
inner c = slices_kept c.args.by c.args.other c.in_ok-reserve_aggs.ensures.same (sym (ap option_copied c.in-Some-agg.is)
    ∙ c.agg-2.ensures)

pub replace-requires : goal.replace-requires
replace-requires c =
    let h = state_of c.args.self.now in
    let at = goal.at.replace-requires c in
    let xs = whole at.In-Some in
    let ys = inner at.In-Some-agg in
    let sound = c.requires.other.lives.sound in
    record {
      ordered = c.requires.cuts.ordered;
      within = omega (
        arith,
        c.requires.cuts.within,
        length_text-read_of (bytes_over [] h.store) h c.args.by c.args.agg,
        ap byte_len xs,
      );
      covered = subst (λ (zs : List Slice). Covers h.store (bufs_of zs)) xs (agg_shared c.requires.cuts.has).covered;
      other_covered = subst (λ (zs : List Slice). Covers h.store (bufs_of zs)) ys (agg_shared c.requires.other).covered;
      countable =
          subst (λ (zs : List Slice). IsCountable h.store (bufs_of c.in-Some.whole.now ++ bufs_of c.in-Some.whole.now
          ++ bufs_of zs)) ys
          (subst
          (λ (zs : List Slice). IsCountable h.store
          (bufs_of zs ++ bufs_of zs ++ bufs_of (slices_in h.domains c.args.by c.args.other))) xs
          (thrice_countable h c.args.by c.args.agg c.args.other sound));
    }

pub add_agg-requires-clause-few : goal.add_agg-requires-clause-few
add_agg-requires-clause-few c =
    (let few = few_kept (state_of c.args.self.now) c.args.by c.requires.cuts.few c.in_ok-reserve_aggs.ensures.same in
    omega (arith, few))

pub returns : goal.returns
returns c =
    let h = state_of c.args.self.now in
    let e = c.in_ok-replaced.ensures in
    let same = c.in_ok-reserve_aggs.ensures.same in
    let xs = whole (goal.at.returns c).In-Some in
    let ys = inner (goal.at.returns c).In-Some-agg in
    attempted (replaced_answers h c.replace.new.store (domains_of c.add_agg.new.self) c.args.by c.args.agg c.args.from
    c.args.to c.args.other c.add_agg.result
    (record {
      slices = c.in_ok-replaced.replaced;
      is_there =
          e.places
          ∙ ap (λ (zs : List Slice). replaced (places zs) c.args.from c.args.to (places c.in-Some-agg.inner.now))
          (sym xs)
          ∙ ap (λ (zs : List Slice). replaced (places (slices_in h.domains c.args.by c.args.agg)) c.args.from c.args.to
          (places zs)) (sym ys);
      shares = e.shares;
      added = c.add_agg.ensures.added
          ∙ ap (λ (ds : List (Domain (List Slice))). with_agg_in ds c.args.by c.in_ok-replaced.replaced) same;
    })
    c.requires (c.add_agg.ensures.number ∙ ap (λ (ds : List (Domain (List Slice))). (domain_in ds c.args.by).next_agg)
    same))
