use Rattle.std.proofs.Common.{◌≡◌, List, ap, ◌∙◌, arith, sym}
use Rattle.iol_core.specs.State.{Domain}
use Rattle.iol_hold.specs.declared.slices.Slice.{Slice}
use Rattle.iol_desc.specs.Tables.{domains_of, domain_in, with_agg_in, without_agg_in}
use Rattle.iol_kernel.proofs.AggregateCalls.Gifts.{left_live, left_next}
use Rattle.iol_kernel.proofs.AggregateCalls.Slices.{slices_kept}
use Rattle.iol_kernel.proofs.tables.move_agg.Goals as goal
use Rattle.iol_kernel.proofs.tables.move_agg.Goals.{After-take_agg-given}

-- the table when the aggregate was taken
taken : (c : After-take_agg-given)
    → domains_of c.take_agg-given.new.self ≡ without_agg_in (domains_of c.args.domains.now) c.args.from c.args.agg
taken c = c.take_agg-given.ensures.rest
    ∙ ap (λ (ds : List (Domain (List Slice))). without_agg_in ds c.args.from c.args.agg) c.reserve_aggs.ensures.same

pub add_agg-requires-clause-live : goal.add_agg-requires-clause-live
add_agg-requires-clause-live c =
    ap (λ (ds : List (Domain (List Slice))). (domain_in ds c.args.to).live)
    (taken (goal.at.add_agg-requires-clause-live c).After-take_agg-given)
    ∙ left_live (domains_of c.args.domains.now) c.args.from c.args.agg c.args.to c.requires.to

pub add_agg-requires-clause-few : goal.add_agg-requires-clause-few
add_agg-requires-clause-few c =
    omega (
      arith,
      c.requires.few,
      ap (λ (ds : List (Domain (List Slice))). (domain_in ds c.args.to).next_agg)
          (taken (goal.at.add_agg-requires-clause-few c).After-take_agg-given),
      left_next (domains_of c.args.domains.now) c.args.from c.args.agg c.args.to,
    )

pub returns : goal.returns
returns c =
    let rest = taken (goal.at.returns c).After-take_agg-given in
    let given = slices_kept c.args.from c.args.agg c.reserve_aggs.ensures.same c.take_agg-given.ensures.given in
    let moved =
    c.add_agg.ensures.added
    ∙ ap (λ (ds : List (Domain (List Slice))). with_agg_in ds c.args.to c.take_agg-given.result) rest
    ∙ ap (λ (xs : List Slice). with_agg_in (without_agg_in (domains_of c.args.domains.now) c.args.from c.args.agg)
    c.args.to xs) (sym given) in
    record {
      number = c.add_agg.ensures.number
          ∙ ap (λ (ds : List (Domain (List Slice))). (domain_in ds c.args.to).next_agg) rest
          ∙ left_next (domains_of c.args.domains.now) c.args.from c.args.agg c.args.to;
      moved = moved;
      err = tt;
    }
