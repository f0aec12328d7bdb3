use Rattle.std.proofs.Common.{◌≡◌, ℕ, ltb, leb, true, false, get_or, subst, arith, rules}
use Rattle.std.proofs.lemmas.List.Sorted.{IsPartitionPoint-from_clause, IsPartitionedBy-leb, IsPartitionedBy-ltb}
use Rattle.std.specs.List.Sorted.{IsPartitionPoint}
use Rattle.miette_labels.proofs.PrimaryLabel.{near_chosen}
use Rattle.miette_labels.proofs.primary.reads_in_span.Goals as goal

pub returns : goal.returns
returns c =
    let start : ℕ = c.offset-start.result in
    let end : ℕ = c.in_ok-end.end in
    let before : IsPartitionPoint (λ x. ltb x.span.offset start ≡ true) (λ x. ltb x.span.offset start ≡ false)
    c.args.reads.now c.partition_point-first.result =
    IsPartitionPoint-from_clause (λ x. ltb x.span.offset start) _ _ c.partition_point-first.ensures.partitioned
    (IsPartitionedBy-ltb (λ x. x.span.offset) c.args.reads.now start c.requires) (λ a r q k. search rules) in
    let within : IsPartitionPoint (λ x. leb x.span.offset end ≡ true) (λ x. leb x.span.offset end ≡ false)
    c.args.reads.now c.partition_point-after.result =
    IsPartitionPoint-from_clause (λ x. leb x.span.offset end) _ _ c.partition_point-after.ensures.partitioned
    (IsPartitionedBy-leb (λ x. x.span.offset) c.args.reads.now end c.requires) (λ a r q k. search rules) in
    near_chosen c.args.own c.args.span.now c.partition_point-first.result c.partition_point-after.result c.min.result
    c.args.reads.now (omega (arith, c.min.ensures)) (omega (arith, c.min.ensures))
    c.partition_point-after.ensures.bound
    (λ j d lt. subst (λ n. ltb (get_or c.args.reads.now j d).span.offset n ≡ true) c.offset-start.ensures
    (before.0 j d (omega arith) lt))
    (λ j d le lt. subst (λ n. leb (get_or c.args.reads.now j d).span.offset n ≡ false) c.in_ok-end.ensures
    (within.1 j d le lt))
