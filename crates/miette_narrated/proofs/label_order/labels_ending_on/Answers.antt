use Rattle.std.proofs.Common.{rules}
use Rattle.std.proofs.lemmas.List.Sorted.{IsPartitionPoint-from_clause, IsPartitionedBy-leb, IsPartitionedBy-ltb}
use Rattle.std.proofs.Common.{ltb, leb}
use Rattle.miette_narrated.proofs.Ends.{between}
use Rattle.miette_narrated.proofs.label_order.labels_ending_on.Goals as goal

pub returns : goal.returns
returns c =
    let line = c.args.line.now in
    between (λ end. end.label.after) line.start line.text_end c.args.ends.now c.partition_point-first.result
    c.partition_point-after.result c.min.result c.min.ensures c.partition_point-after.ensures.bound
    (IsPartitionPoint-from_clause (λ x. ltb x.label.after line.start) _ _ c.partition_point-first.ensures.partitioned
    (IsPartitionedBy-ltb (λ x. x.label.after) c.args.ends.now line.start c.requires) (λ a r q k. search rules))
    (IsPartitionPoint-from_clause (λ x. leb x.label.after line.text_end) _ _ c.partition_point-after.ensures.partitioned
    (IsPartitionedBy-leb (λ x. x.label.after) c.args.ends.now line.text_end c.requires) (λ a r q k. search rules))
