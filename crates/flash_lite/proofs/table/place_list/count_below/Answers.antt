use Rattle.std.proofs.Common.{rules, nat_lt, nat_le}
use Rattle.std.proofs.lemmas.List.Sorted.{IsPartitionPoint-from_clause}
use Rattle.flash_lite.proofs.Marks.{fails_after, not_below, parted, passes_before}
use Rattle.flash_lite.proofs.table.place_list.count_below.Goals as goal

pub returns-clause-below : goal.returns-clause-below
returns-clause-below c =
    let point = IsPartitionPoint-from_clause (λ k. nat_lt k c.args.place) _ _ c.partition_point.ensures.partitioned
    (parted _ c.args.place c.requires) (λ a r q k. search rules) in
    passes_before (λ k. nat_lt k c.args.place) c.args.places.now c.partition_point.result point
    c.partition_point.ensures.bound

pub returns-clause-rest : goal.returns-clause-rest
returns-clause-rest c =
    let point = IsPartitionPoint-from_clause (λ k. nat_lt k c.args.place) _ _ c.partition_point.ensures.partitioned
    (parted _ c.args.place c.requires) (λ a r q k. search rules) in
    fails_after (λ k. nat_lt k c.args.place) (λ k. nat_le c.args.place k) c.args.places.now c.partition_point.result
    (λ k. not_below c.args.place k) point c.partition_point.ensures.bound
