use Rattle.std.proofs.Common.{rules}
use Rattle.std.proofs.lemmas.List.Sorted.{IsNonDecreasingBy-from_sort_by_key, answers_always}
use Rattle.miette_narrated.proofs.Ends.{are_ends}
use Rattle.miette_narrated.proofs.label_order.by_end.Goals as goal

pub returns : goal.returns
returns c =
    are_ends c.args.placed.now c.in_ok-ends.ends.items c.sort_by_key.new.self.items c.in_ok-ends.ensures
    (IsNonDecreasingBy-from_sort_by_key (λ end. end.label.after) _ c.in_ok-sort_by_key.ensures.sorted
    (λ a r q k. search rules))
    (c.in_ok-sort_by_key.ensures.stable (λ end. end.label.after) (answers_always _ _ _ (λ f a r f' k. search rules)))
