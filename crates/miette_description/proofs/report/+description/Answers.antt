use Rattle.std.proofs.Common.{rules, ◌≡◌, ◌<◌, ◌+◌, ◌*◌, ◌++◌, [], ◌∷◌, map, ap, sym, ◌∙◌, Some, option_map, arith}
use Rattle.std.proofs.Common.{codes}
use Rattle.std.proofs.lemmas.Result.{IfOk-weaker}
use Rattle.miette_description.proofs.Lists.{none_read, one_fails, one_read_as, all_read}
use Rattle.serde_json.specs.Data.{depth, items_depth}
use Rattle.miette_description.specs.steps.ParsedValues.{value_data, list_data}
use Rattle.miette_tree.specs.rules.Tree.{trees}
use Rattle.miette_tree.specs.views.Report.{tree_of}
use Rattle.miette_description.specs.rules.Members.{at_key, optional_value}
use Rattle.miette_description.specs.rules.Description.{report_in}
use Rattle.miette_description.proofs.Shape.{report_parts, with_nested, without_cause, without_related, at_key-depth}
use Rattle.miette_description.proofs.Shape.{array-depth, item-depth, related_read}
use Rattle.miette_description.proofs.report.+description.Goals as goal

pub cause_in-report_from-requires : goal.cause_in-report_from-requires
cause_in-report_from-requires g t c =
    let less : depth (value_data c.in-Some.found.now) < depth (value_data c.args.value.now) =
    at_key-depth (codes "cause") (value_data c.args.value.now) (value_data c.in-Some.found.now) (sym c.in-Some.ensures)
    in
    let small : 4 * depth (value_data c.in-Some.found.now) + 2 < 4 * depth (value_data c.args.value.now) + 1 =
    omega arith in
    search rules

pub related_in-reports_from-requires : goal.related_in-reports_from-requires
related_in-reports_from-requires g t c =
    let found = value_data c.in-Some.found.now in
    let less : depth found < depth (value_data c.args.value.now) =
    at_key-depth (codes "related") (value_data c.args.value.now) found (sym c.in-Some.ensures) in
    let within : items_depth (list_data c.in-Some-list_in.list.now) < depth found =
    array-depth found (list_data c.in-Some-list_in.list.now) (sym c.in-Some-list_in.ensures) in
    let small : 4 * items_depth (list_data c.in-Some-list_in.list.now) + 3 < 4 * depth (value_data c.args.value.now)
    + 1 = omega arith in
    search rules

pub related_in-returns-in_err-reports_from-clause-description :
    goal.related_in-returns-in_err-reports_from-clause-description
related_in-returns-in_err-reports_from-clause-description g t c e =
    related_read (at_key (codes "related") (value_data c.args.value.now)) (value_data c.in-Some.found.now)
    (list_data c.in-Some-list_in.list.now) c.in-Some.ensures c.in-Some-list_in.ensures
    ∙ ap (λ o. option_map Some (option_map trees o)) (c.in_err-reports_from.ensures.description (search rules))

pub related_in-returns-clause-ok : goal.related_in-returns-clause-ok
related_in-returns-clause-ok g t c =
    related_read (at_key (codes "related") (value_data c.args.value.now)) (value_data c.in-Some.found.now)
    (list_data c.in-Some-list_in.list.now) c.in-Some.ensures c.in-Some-list_in.ensures
    ∙ ap (λ o. option_map Some (option_map trees o)) c.in_ok-reports_from.ensures.ok

pub report_from-returns-in_err-one-clause-description : goal.report_from-returns-in_err-one-clause-description
report_from-returns-in_err-one-clause-description g t c e =
    report_parts (value_data c.args.value.now) ∙ without_cause _ _ (value_data c.args.value.now)
    (c.in_err-one.ensures.description (search rules))

pub report_from-returns-in_err-list-clause-description : goal.report_from-returns-in_err-list-clause-description
report_from-returns-in_err-list-clause-description g t c e =
    report_parts (value_data c.args.value.now) ∙ without_related _ _ (value_data c.args.value.now)
    (c.in_err-list.ensures.description (search rules))

pub reports_from-report_from-requires : goal.reports_from-report_from-requires
reports_from-report_from-requires g t c =
    let less = item-depth c.args.list.now c.loop-value.value-index c.value-item.result c.loop-value-test.true in
    let item = ap (λ v. depth (value_data v)) c.value-item.is in
    let small : 4 * depth (value_data c.value-item.result) + 2 < 4 * items_depth (list_data c.args.list.now) + 3 =
    omega arith in
    search rules

pub report_from-returns-clause-ok : goal.report_from-returns-clause-ok
report_from-returns-clause-ok g t c =
    let chain = with_nested (value_data c.args.value.now) _ _ c.in_ok-one.ensures.ok c.in_ok-list.ensures.ok in
    IfOk-weaker c.report_with.result _ _ (λ r p. chain ∙ p) c.report_with.ensures.ok

pub report_from-returns-clause-description : goal.report_from-returns-clause-description
report_from-returns-clause-description g t c e =
    with_nested (value_data c.args.value.now) _ _ c.in_ok-one.ensures.ok c.in_ok-list.ensures.ok
    ∙ c.report_with.ensures.description e

pub reports_from-returns-in_err-report-clause-description : goal.reports_from-returns-in_err-report-clause-description
reports_from-returns-in_err-report-clause-description g t c e =
    one_fails report_in c.args.list.now _ c.loop-value.value-index c.value-item.result c.loop-value-test.true
    c.value-item.is (c.in_err-report.ensures.description (search rules)) c.loop-value.invariant

pub reports_from-loop-value-preserved : goal.reports_from-loop-value-preserved
reports_from-loop-value-preserved g t c =
    let pushed : c.push.new.self.items ≡ c.loop-value.reports.items ++ c.in_ok-report.report.value ∷ [] = search rules
    in
    one_read_as report_in (tree_of g.D.Diagnostic.meaning g.S.SourceCode.source) c.args.list.now
    c.loop-value.reports.items c.push.new.self.items c.loop-value.value-index c.value-item.result
    c.in_ok-report.report.value pushed c.loop-value-test.true c.value-item.is c.in_ok-report.ensures.ok
    c.loop-value.invariant

pub reports_from-loop-value-init : goal.reports_from-loop-value-init
reports_from-loop-value-init g t c =
    let value = tree_of g.D.Diagnostic.meaning g.S.SourceCode.source in
    none_read report_in c.args.list.now (map value c.new-reports.result.items)
    (ap (map value) c.new-reports.ensures.items)

pub reports_from-returns-clause-ok : goal.reports_from-returns-clause-ok
reports_from-returns-clause-ok g t c =
    let value = tree_of g.D.Diagnostic.meaning g.S.SourceCode.source in
    all_read report_in c.args.list.now (map value c.loop-value.reports.items) c.loop-value.value-index
    c.loop-value-test.false c.loop-value.invariant

pub cause_in-returns-in_err-report_from-clause-description : goal.cause_in-returns-in_err-report_from-clause-description
cause_in-returns-in_err-report_from-clause-description g t c e =
    ap (optional_value report_in) (sym c.in-Some.ensures)
    ∙ ap (option_map Some) (c.in_err-report_from.ensures.description (search rules))

pub cause_in-returns-clause-ok : goal.cause_in-returns-clause-ok
cause_in-returns-clause-ok g t c =
    ap (optional_value report_in) (sym c.in-Some.ensures) ∙ ap (option_map Some) c.in_ok-report_from.ensures.ok
