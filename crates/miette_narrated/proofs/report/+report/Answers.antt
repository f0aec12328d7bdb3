use Rattle.std.proofs.Common.{rules, arith, subst, ◌<◌, ◌≡◌, false, sym, string_bytes, map}
use Rattle.std.specs.Option.{option_map}
use Rattle.std.proofs.lemmas.Result.{on_ok_weaker}
use Rattle.miette_tree.specs.rules.Tree.{trees}
use Rattle.miette_tree.specs.views.Owned.{ref_source}
use Rattle.miette_tree.specs.views.Report.{tree_of}
use Rattle.miette_tree.proofs.Nesting.{next_of}
use Rattle.miette_tree.specs.rules.Reads.{accepts, report_passes, reports_pass}
use Rattle.miette_narrated.proofs.Telling.{none_so_far, one_more, all_told, at_the_end, report_told, RelatedSoFar}
use Rattle.miette_narrated.proofs.Further.{own_refused}
use Rattle.miette_tree.proofs.TreeSizes.{tree_size, trees_size, one_falls}
use Rattle.miette_tree.proofs.Readings.{refused_below, one_refused}
use Rattle.miette_narrated.proofs.report.+report.Goals as goal

pub push_related-loop-report-init : goal.push_related-loop-report-init
push_related-loop-report-init g t c = none_so_far _ _ _ _ _ c.in_ok-push_blank_before.ensures

pub push_related-push_report-requires : goal.push_related-push_report-requires
push_related-push_report-requires g t c =
    let value = tree_of g.D.Diagnostic.meaning g.S.SourceCode.source in
    let small : tree_size (value c.report-item.result) < trees_size (trees (map value c.args.reports.now)) =
    subst (λ r. tree_size (value r) < trees_size (trees (map value c.args.reports.now))) (sym c.report-item.is)
    (one_falls value c.args.reports.now c.loop-report.report-index c.report-item.result c.loop-report-test.true) in
    search rules

pub push_related-loop-report-preserved : goal.push_related-loop-report-preserved
push_related-loop-report-preserved g t c =
    let l = c.loop-report in
    let value = tree_of g.D.Diagnostic.meaning g.S.SourceCode.source in
    let inherited = option_map (ref_source g.S.SourceCode.source) c.args.source in
    let all = trees (map value c.args.reports.now) in
    let so_far = subst (λ ts. RelatedSoFar c.args.context inherited all ts (string_bytes c.args.out.now)
    (string_bytes l.out)) (next_of value c.args.reports.now l.report-index c.report-item.result
    c.loop-report-test.true c.report-item.is) l.invariant in
    one_more c.args.context inherited all _ _ _ _ _ so_far c.in_ok-push_report.ensures.text

pub push_related-returns-in_err-push_report-clause-refused : goal.push_related-returns-in_err-push_report-clause-refused
push_related-returns-in_err-push_report-clause-refused g t c = λ h.
    let value = tree_of g.D.Diagnostic.meaning g.S.SourceCode.source in
    let inherited = option_map (ref_source g.S.SourceCode.source) c.args.source in
    let one : report_passes accepts inherited (value c.report-item.result) ≡ false =
    c.in_err-push_report.ensures.refused (search rules) in
    one_refused value inherited c.args.reports.now c.loop-report.report-index c.report-item.result
    c.loop-report-test.true c.report-item.is one

pub push_related-returns-clause-text : goal.push_related-returns-clause-text
push_related-returns-clause-text g t c =
    let l = c.loop-report in
    let value = tree_of g.D.Diagnostic.meaning g.S.SourceCode.source in
    let inherited = option_map (ref_source g.S.SourceCode.source) c.args.source in
    all_told c.args.context inherited (trees (map value c.args.reports.now)) _ _
    (at_the_end value c.args.context inherited c.args.reports.now _ l.report-index _ _ (omega arith) l.invariant)

pub push_report-returns-clause-text : goal.push_report-returns-clause-text
push_report-returns-clause-text g t c =
    let value = tree_of g.D.Diagnostic.meaning g.S.SourceCode.source c.args.report.now in
    let inherited = option_map (ref_source g.S.SourceCode.source) c.args.inherited in
    on_ok_weaker c.push_related.result (λ h. report_told c.args.context inherited value _ _ _ _ _ _ _
    c.effective_source-source.ensures c.related.ensures.value
    c.in_ok-push_related_head.ensures c.in_ok-push_causes.ensures c.in_ok-push_below.ensures.text h)
    c.push_related.ensures.text

pub push_report-returns-in_err-push_below-clause-refused :
    goal.push_report-returns-in_err-push_below-clause-refused
push_report-returns-in_err-push_below-clause-refused g t c = λ h.
    own_refused (tree_of g.D.Diagnostic.meaning g.S.SourceCode.source c.args.report.now)
    (option_map (ref_source g.S.SourceCode.source) c.args.inherited) _ c.effective_source-source.ensures
    (c.in_err-push_below.ensures.refused (search rules))

pub push_report-returns-clause-refused : goal.push_report-returns-clause-refused
push_report-returns-clause-refused g t c = λ h.
    let value = tree_of g.D.Diagnostic.meaning g.S.SourceCode.source in
    let inherited = option_map (ref_source g.S.SourceCode.source) c.args.inherited in
    let source = option_map (ref_source g.S.SourceCode.source) c.effective_source-source.result in
    let related = trees (map value c.related.result.now) in
    let below : reports_pass accepts source related ≡ false = c.push_related.ensures.refused h in
    refused_below (value c.args.report.now) inherited source related c.effective_source-source.ensures
    c.related.ensures.value
    below
