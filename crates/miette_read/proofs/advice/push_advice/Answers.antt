use Rattle.std.proofs.Common.{◌++◌, List, Bor, map, ap, ◌∙◌}
use Rattle.std.specs.Option.{option_copied}
use Rattle.std.proofs.lemmas.List.{take_all}
use Rattle.miette_protocol.specs.rules.Reading.{Source}
use Rattle.miette_tree.specs.views.Report.{tree_of}
use Rattle.miette_read.specs.rules.SuggestedFixes.{FileEdit, Suggestion}
use Rattle.miette_read.specs.rules.Reports.{advice, first_edits_of_others}
use Rattle.miette_read.specs.views.Edits.{edits_behind}
use Rattle.miette_read.proofs.Steps.{map_more}
use Rattle.miette_read.proofs.advice.push_advice.Goals as goal

pub loop-edit-preserved : goal.loop-edit-preserved
loop-edit-preserved g c =
    let l = c.loop-edit in
    let value = tree_of g.D.Diagnostic.meaning (λ (it : Source). it) in
    map_more (λ (e : Bor FileEdit). e.now) c.as_slice-edit-items.result.now l.edit-index c.edit-item.result
    c.loop-edit-test.true c.edit-item.is value (advice c.args.offer.now) (map value c.args.list.now.items)
    l.list.items c.push_item.new.list.items c.in_ok-report.report c.in_ok-report.ensures c.in_ok-push_item.ensures
    l.invariant

pub returns : goal.returns
returns g c =
    let value = tree_of g.D.Diagnostic.meaning (λ (it : Source). it) in
    let first = map value c.args.list.now.items in
    let told = advice c.args.offer.now in
    c.loop-edit.invariant
    ∙ ap (λ (es : List (Bor FileEdit)). first ++ map told (edits_behind es))
    (take_all c.loop-edit.edit-index c.as_slice-edit-items.result.now c.loop-edit-test.false
    ∙ c.as_slice-edit-items.ensures.value)
    ∙ ap (λ es. first ++ map told es)
    (c.in_ok-edits.ensures ∙ ap (first_edits_of_others (option_copied c.args.main))
    (c.as_slice.ensures.value ∙ ap (λ (o : Suggestion). o.edits) c.offer.view_is))
