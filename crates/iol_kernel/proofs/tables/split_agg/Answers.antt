use Rattle.std.proofs.Common.{◌≡◌, ◌∙◌, List, ◌++◌, take, drop, ap, arith, rules, subst, Some}
use Rattle.iol_hold.specs.Moves.{Shares}
use Rattle.iol_hold.specs.Places.{places}
use Rattle.iol_hold.specs.Texts.{bufs_of}
use Rattle.iol_hold.specs.declared.slices.Slice.{Slice}
use Rattle.iol_core.specs.State.{Domain}
use Rattle.iol_desc.specs.Tables.{domains_of, domain_in, with_domain_in}
use Rattle.iol_kernel.specs.KernelState.{slices_in}
use Rattle.iol_kernel.specs.AggregateCalls.{with_two, SplitsAgg}
use Rattle.iol_kernel.proofs.AggregateCalls.Exchanges.{taken_out, split_table, put_back, table_rules}
use Rattle.iol_kernel.proofs.AggregateCalls.Slices.{slices_found}
use Rattle.iol_kernel.proofs.tables.split_agg.Goals as goal

pub returns-in-Ok : goal.returns-in-Ok
returns-in-Ok c =
    let d = c.args.d in
    let os : List (Domain (List Slice)) = domains_of c.args.domains.now in
    let ds : List (Domain (List Slice)) = domains_of c.reserve_aggs.new.self in
    let live = ap (λ (ys : List (Domain (List Slice))). (domain_in ys d).live) c.reserve_aggs.ensures.same
    ∙ c.requires.live in
    let same : c.swap_agg-whole.result ≡ slices_in os d c.args.agg =
    slices_found ds d c.args.agg c.swap_agg-whole.result c.swap_agg-whole.ensures.given
    ∙ ap (λ (ys : List (Domain (List Slice))). slices_in ys d c.args.agg) c.reserve_aggs.ensures.same in
    let rest = taken_out ds (domains_of c.swap_agg-whole.new.self) (domains_of c.take_agg.new.self) d c.args.agg
    c.new.result live c.swap_agg-whole.ensures.swapped c.take_agg.ensures.rest in
    let splits : SplitsAgg c.args.store.now c.split.new.store os (domains_of c.add_agg-second.new.self) d c.args.agg
    c.args.at = record {
      first = c.in-Ok.front;
      second = c.in-Ok.back;
      before = c.in-Ok.ensures.first ∙ ap (λ (xs : List Slice). take c.args.at (places xs)) same;
      after = c.in-Ok.ensures.second ∙ ap (λ (xs : List Slice). drop c.args.at (places xs)) same;
      shares =
          subst (λ (xs : List Slice). Shares c.args.store.now c.split.new.store (bufs_of xs)
          (bufs_of c.in-Ok.front ++ bufs_of c.in-Ok.back)) same c.in-Ok.ensures.shares;
      split = split_table ds (domains_of c.take_agg.new.self) (domains_of c.add_agg-first.new.self)
          (domains_of c.add_agg-second.new.self) d c.args.agg c.in-Ok.front c.in-Ok.back live rest
          c.add_agg-first.ensures.added c.add_agg-second.ensures.added
          ∙ ap
          (λ (ys : List (Domain (List Slice))). with_domain_in ys d
          (with_two (domain_in ys d) c.args.agg c.in-Ok.front c.in-Ok.back)) c.reserve_aggs.ensures.same;
    } in
    record { numbers = grind (arith, table_rules); split = splits; err = tt; err_store = tt }

pub returns-in-Err : goal.returns-in-Err
returns-in-Err c =
    let d = c.args.d in
    let ds : List (Domain (List Slice)) = domains_of c.reserve_aggs.new.self in
    let live = ap (λ (ys : List (Domain (List Slice))). (domain_in ys d).live) c.reserve_aggs.ensures.same
    ∙ c.requires.live in
    let back =
    put_back ds (domains_of c.swap_agg-whole.new.self) (domains_of c.swap_agg.new.self) d c.args.agg c.new.result
    c.in-Err.error.value live (ap Some c.in-Err.ensures.back ∙ c.swap_agg-whole.ensures.given)
    c.swap_agg-whole.ensures.swapped c.swap_agg.ensures.swapped
    ∙ c.reserve_aggs.ensures.same in
    record { numbers = tt; split = tt; err = back; err_store = search (rules) }
