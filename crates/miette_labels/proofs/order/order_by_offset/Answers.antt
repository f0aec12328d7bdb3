use Rattle.std.proofs.Common.{◌<◌, length, rules}
use Rattle.std.proofs.lemmas.List.Sorted.{All-permutation, IsNonDecreasingBy-from_sort_by_key, answers_always}
use Rattle.miette_labels.specs.views.ProgramLabels.{label_at}
use Rattle.miette_labels.proofs.SortedLabels.{ordered}
use Rattle.miette_labels.proofs.order.order_by_offset.Goals as goal

pub returns-clause-order : goal.returns-clause-order
returns-clause-order c =
    ordered (λ turn. turn.offset) (λ turn. label_at c.args.labels.now turn.index) c.args.labels.now
    c.in_ok-turns.turns.items c.sort_by_key.new.self.items
    c.in_ok-turns.ensures.labels c.in_ok-turns.ensures.offsets
    (IsNonDecreasingBy-from_sort_by_key (λ turn. turn.offset) _ c.in_ok-sort_by_key.ensures.sorted
    (λ a r q k. search rules))
    (c.in_ok-sort_by_key.ensures.stable (λ turn. turn.offset) (answers_always _ _ _ (λ f a r f' k. search rules)))

pub returns-clause-inside : goal.returns-clause-inside
returns-clause-inside c = All-permutation (λ turn. turn.index < length c.args.labels.now) c.in_ok-turns.turns.items
    c.sort_by_key.new.self.items c.in_ok-sort_by_key.ensures.permutation c.in_ok-turns.ensures.inside
