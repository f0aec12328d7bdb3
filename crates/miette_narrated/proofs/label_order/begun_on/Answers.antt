use Rattle.std.proofs.Common.{ltb, leb, rules}
use Rattle.std.proofs.lemmas.List.Sorted.{IsPartitionPoint-from_clause, IsPartitionedBy-leb, IsPartitionedBy-ltb}
use Rattle.miette_narrated.proofs.Ends.{between, starts_rise}
use Rattle.miette_narrated.proofs.label_order.begun_on.Goals as goal

pub returns : goal.returns
returns c =
    let line = c.args.line.now in
    let rising = starts_rise c.args.placed.now c.requires in
    between (λ p. p.start) line.start line.text_end c.args.placed.now c.partition_point-first.result
    c.partition_point-after.result c.min.result c.min.ensures c.partition_point-after.ensures.bound
    (IsPartitionPoint-from_clause (λ x. ltb x.start line.start) _ _ c.partition_point-first.ensures.partitioned
    (IsPartitionedBy-ltb (λ x. x.start) c.args.placed.now line.start rising) (λ a r q k. search rules))
    (IsPartitionPoint-from_clause (λ x. leb x.start line.text_end) _ _ c.partition_point-after.ensures.partitioned
    (IsPartitionedBy-leb (λ x. x.start) c.args.placed.now line.text_end rising) (λ a r q k. search rules))
