use Rattle.std.proofs.Common.{◌≡◌, ◌<◌, ◌∙◌, ap, length, rules}
use Rattle.std.specs.List.{filter_map}
use Rattle.miette_read.specs.views.Values.{texts}
use Rattle.miette_read_sarif.specs.rules.Newlines.{sequence_in}
use Rattle.miette_read_sarif.proofs.NewlineSteps.{none_listed, some_listed}
use Rattle.miette_read_sarif.proofs.Returned.{returned}
use Rattle.miette_read_sarif.proofs.newlines.newlines_of.Goals as goal

pub returns-then-is_empty : goal.returns-then-is_empty
returns-then-is_empty c =
    let listed = c.in_ok-listed.listed.items in
    let none : length listed ≡ 0 = search rules in
    returned c.usual_newlines.result (λ list. texts list.items) _ _
    (none_listed listed _ (c.in_ok-listed.ensures ∙ ap (filter_map sequence_in) c.listed_in.ensures) none)
    c.usual_newlines.ensures

pub returns : goal.returns
returns c =
    let listed = c.in_ok-listed.listed.items in
    let some : 0 < length listed = search rules in
    some_listed listed _ (c.in_ok-listed.ensures ∙ ap (filter_map sequence_in) c.listed_in.ensures) some
