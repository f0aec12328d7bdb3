use Rattle.std.proofs.Common.{rules, arith, ◌≡◌, ◌+◌, ◌*◌, ◌<◌, ◌++◌, None, map, sym, ap, ◌∙◌}
use Rattle.std.proofs.lemmas.Result.{IfOk-weaker}
use Rattle.std.specs.Option.{option_map}
use Rattle.miette_tree.specs.rules.Tree.{source_of, trees}
use Rattle.miette_tree.specs.views.Owned.{ref_source}
use Rattle.miette_tree.specs.views.Report.{tree_of}
use Rattle.miette_tree.proofs.TreeSizes.{item_falls, tree_size, trees_size}
use Rattle.miette_report.specs.rules.AppliedFixes.{fixes_of_related}
use Rattle.miette_report.specs.steps.FixLists.{fixes_in}
use Rattle.miette_report.proofs.FixSteps.{all_joined, all_inherited, own_and_related}
use Rattle.miette_report.proofs.applied_fixes.+fixes.Goals as goal

pub with_all-returns : goal.with_all-returns
with_all-returns g t c =
    let value = tree_of g.D.Diagnostic.meaning g.S.SourceCode.source c.args.report.now in
    let old = fixes_in c.args.list.items in
    let caused = fixes_in c.in_ok-caused.caused.items in
    IfOk-weaker c.with_related.result _ _
    (λ it p. all_joined value old (fixes_in c.in_ok-own.own.items) caused (fixes_in it.items)
    (c.in_ok-own.ensures ∙ ap (λ l. old ++ l) c.fixes.ensures) c.in_ok-caused.ensures
    (p ∙ ap (λ ts. caused ++ fixes_of_related ts) c.related.ensures.value))
    c.with_related.ensures

pub with_cause-returns-in_ok-with_fixes-in-None : goal.with_cause-returns-in_ok-with_fixes-in-None
with_cause-returns-in_ok-with_fixes-in-None g t c =
    let value = tree_of g.D.Diagnostic.meaning g.S.SourceCode.source c.args.report.now in
    let old = fixes_in c.args.list.items in
    let own = fixes_in c.in_ok-with_fixes-in-None.field-0.items in
    let none : source_of value ≡ None =
    sym c.source_code.ensures ∙ ap (option_map (ref_source g.S.SourceCode.source)) c.in-None.is in
    IfOk-weaker c.with_related.result _ _
    (λ it p. all_inherited (source_of value) old (fixes_in it.items) _ none
    (own_and_related value old own (fixes_in it.items)
    (c.in_ok-with_fixes-in-None.ensures ∙ ap (λ l. old ++ l) c.fixes.ensures)
    (p ∙ ap (λ ts. own ++ fixes_of_related ts) c.related.ensures.value)))
    c.with_related.ensures

pub with_related-with_inheriting-requires : goal.with_related-with_inheriting-requires
with_related-with_inheriting-requires g t c =
    let value = tree_of g.D.Diagnostic.meaning g.S.SourceCode.source in
    let small = item_falls value c.args.reports.now c.loop-report.report-index c.report-item.result
    c.loop-report-test.true c.report-item.is in
    let less : 3 * tree_size (value c.report-item.result) + 2 < 3 * trees_size (trees (map value c.args.reports.now)) =
    omega (arith, small) in
    search rules
