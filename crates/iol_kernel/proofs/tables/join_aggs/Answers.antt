use Rattle.std.proofs.Common.{◌≡◌, ◌∙◌, List, ◌++◌, ap, arith, Some}
use Rattle.iol_core.specs.State.{Domain}
use Rattle.iol_hold.specs.declared.slices.Slice.{Slice}
use Rattle.iol_desc.specs.Tables.{domains_of, domain_in, with_domain_in}
use Rattle.iol_kernel.specs.KernelState.{slices_in}
use Rattle.iol_kernel.specs.AggregateCalls.{joined_in, with_one}
use Rattle.iol_kernel.proofs.AggregateCalls.Exchanges.{other_found, join_table, both_back, table_rules}
use Rattle.iol_kernel.proofs.AggregateCalls.Slices.{slices_found}
use Rattle.iol_kernel.proofs.tables.join_aggs.Goals as goal

pub returns-in-Ok : goal.returns-in-Ok
returns-in-Ok c =
    let d = c.args.d in
    let a = c.args.first in
    let b = c.args.second in
    let ds : List (Domain (List Slice)) = domains_of c.reserve_aggs.new.self in
    let fs : List (Domain (List Slice)) = domains_of c.swap_agg-front.new.self in
    let live = ap (λ (ys : List (Domain (List Slice))). (domain_in ys d).live) c.reserve_aggs.ensures.same
    ∙ c.requires.live in
    let front : c.swap_agg-front.result ≡ slices_in ds d a =
    slices_found ds d a c.swap_agg-front.result c.swap_agg-front.ensures.given in
    let back : c.swap_agg-back.result ≡ slices_in ds d b =
    slices_found ds d b c.swap_agg-back.result (c.swap_agg-back.ensures.given
    ∙ other_found ds fs d a b c.new.result live c.requires.differ c.swap_agg-front.ensures.swapped) in
    let joined =
    join_table ds fs (domains_of c.swap_agg-back.new.self) (domains_of c.take_agg.new.self)
    (domains_of c.take_agg-in-Ok.new.self) (domains_of c.add_agg.new.self) d a b c.new.result c.new-2.result
    c.in-Ok.whole live
    c.swap_agg-front.ensures.swapped c.swap_agg-back.ensures.swapped c.take_agg.ensures.rest
    c.take_agg-in-Ok.ensures.rest c.add_agg.ensures.added
    ∙ ap (λ (xs : List Slice). with_domain_in ds d (with_one (domain_in ds d) a b xs)) (c.in-Ok.ensures.joined
    ∙ ap (λ (xs : List Slice). xs ++ c.swap_agg-back.result) front
    ∙ ap (λ (xs : List Slice). slices_in ds d a ++ xs) back)
    ∙ ap (λ (ys : List (Domain (List Slice))). joined_in ys d a b) c.reserve_aggs.ensures.same in
    record { number = grind (arith, table_rules); joined = joined; err = tt }

pub returns-in-Err : goal.returns-in-Err
returns-in-Err c =
    let d = c.args.d in
    let ds : List (Domain (List Slice)) = domains_of c.reserve_aggs.new.self in
    let live = ap (λ (ys : List (Domain (List Slice))). (domain_in ys d).live) c.reserve_aggs.ensures.same
    ∙ c.requires.live in
    let first = ap (λ (p : List Slice × List Slice). Some p.0) c.in-Err.ensures.back ∙ c.swap_agg-front.ensures.given in
    let second = ap (λ (p : List Slice × List Slice). Some p.1) c.in-Err.ensures.back ∙ c.swap_agg-back.ensures.given in
    let back =
    both_back ds (domains_of c.swap_agg-front.new.self) (domains_of c.swap_agg-back.new.self)
    (domains_of c.swap_agg.new.self) (domains_of c.swap_agg-in-Err.new.self) d c.args.first c.args.second
    c.new.result c.new-2.result
    c.in-Err.error.value.0 c.in-Err.error.value.1 live first second c.swap_agg-front.ensures.swapped
    c.swap_agg-back.ensures.swapped c.swap_agg.ensures.swapped c.swap_agg-in-Err.ensures.swapped
    ∙ c.reserve_aggs.ensures.same in
    record { number = tt; joined = tt; err = back }
