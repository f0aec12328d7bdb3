use Rattle.std.proofs.Common.{ℕ, rules}
use Rattle.std.proofs.lemmas.List.Sorted.{IsNonDecreasingBy-from_sort_by_key, answers_always}
use Rattle.std.proofs.lemmas.Result.{on_ok_weaker}
use Rattle.miette_protocol.specs.views.Meaning.{Label}
use Rattle.miette_sarif.proofs.Picks.{sorted_labels}
use Rattle.miette_sarif.proofs.labels.sort.Goals as goal
use denote.Ref.{Bor}

pub returns : goal.returns
returns c =
    let key : Bor Label → ℕ = λ label. label.now.span.offset in
    on_ok_weaker c.sort_by_key.result
    (λ h. sorted_labels c.args.labels.now.items c.sort_by_key.new.self.items
    (IsNonDecreasingBy-from_sort_by_key key _ h (λ a r q k. search rules))
    (c.sort_by_key.ensures.stable key (answers_always _ _ _ (λ f a r f' k. search rules))))
    c.sort_by_key.ensures.sorted
