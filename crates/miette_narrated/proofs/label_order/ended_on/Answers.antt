use Rattle.std.proofs.Common.{rules}
use Rattle.std.proofs.lemmas.List.Sorted.{IsNonDecreasingBy-from_sort_by_key, answers_always}
use Rattle.miette_lines.specs.views.Walking.{line_of_text}
use Rattle.miette_narrated.proofs.Ends.{ended_again}
use Rattle.miette_narrated.proofs.label_order.ended_on.Goals as goal

pub returns : goal.returns
returns c =
    ended_again (line_of_text c.args.line.now) c.args.order.now.placed.now c.args.order.now.ends.now
    c.labels_ending_on.result.now c.in_ok-ended.ended.items c.sort_by_key.new.self.items c.requires.ended
    c.labels_ending_on.ensures c.in_ok-ended.ensures
    (IsNonDecreasingBy-from_sort_by_key (λ end. end.rank) _ c.in_ok-sort_by_key.ensures.sorted
    (λ a r q k. search rules))
    (c.in_ok-sort_by_key.ensures.stable (λ end. end.rank) (answers_always _ _ _ (λ f a r f' k. search rules)))

pub labels_ending_on-requires : goal.labels_ending_on-requires
labels_ending_on-requires c = c.requires.ended.rising
