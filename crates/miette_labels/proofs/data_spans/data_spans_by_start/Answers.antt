use Rattle.std.proofs.Common.{ap, ◌∙◌, rules}
use Rattle.std.proofs.lemmas.List.Sorted.{IsNonDecreasingBy-from_sort_by_key, answers_always}
use Rattle.miette_labels.specs.rules.Groups.{by_begin}
use Rattle.miette_labels.proofs.GroupsOfReads.{sort_begins}
use Rattle.miette_labels.proofs.data_spans.data_spans_by_start.Goals as goal

pub returns : goal.returns
returns c =
    sort_begins c.in_ok-spans.spans.items c.sort_by_key.new.self.items
    (IsNonDecreasingBy-from_sort_by_key (λ span. span.offset) _ c.in_ok-sort_by_key.ensures.sorted
    (λ a r q k. search rules))
    (c.in_ok-sort_by_key.ensures.stable (λ span. span.offset) (answers_always _ _ _ (λ f a r f' k. search rules)))
    ∙ ap by_begin c.in_ok-spans.ensures
