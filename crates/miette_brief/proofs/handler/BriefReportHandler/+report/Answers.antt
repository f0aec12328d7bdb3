use Rattle.std.proofs.Common.{rules, arith, map}
use Rattle.std.specs.Option.{option_map}
use Rattle.std.proofs.lemmas.Result.{on_ok_weaker}
use Rattle.miette_tree.specs.rules.Tree.{source_of, trees}
use Rattle.miette_tree.specs.views.Owned.{ref_source}
use Rattle.miette_tree.specs.views.Report.{tree_of}
use Rattle.miette_tree.proofs.TreeSizes.{item_falls}
use Rattle.miette_tree.proofs.Readings.{refused_below, one_refused}
use Rattle.miette_brief.proofs.SoFar.{none_so_far}
use Rattle.miette_brief.proofs.Telling.{one_more, all_told, report_told, refused_here}
use Rattle.miette_brief.proofs.WholeSources.{related_falls, whole_in}
use Rattle.miette_brief.proofs.handler.BriefReportHandler.+report.Goals as goal

pub push_related-loop-report-preserved : goal.push_related-loop-report-preserved
push_related-loop-report-preserved g t c =
    one_more (tree_of g.D.Diagnostic.meaning g.S.SourceCode.source) c.args.self.now _ c.args.reports.now
    c.loop-report.report-index c.report-item.result _ _ _ c.loop-report-test.true c.report-item.is
    c.loop-report.invariant c.in_ok-push_report.ensures.text

pub push_related-loop-report-init : goal.push_related-loop-report-init
push_related-loop-report-init g t c = none_so_far _ _ _ _

pub push_related-returns-in_err-push_report-clause-refused : goal.push_related-returns-in_err-push_report-clause-refused
push_related-returns-in_err-push_report-clause-refused g t c = λ h.
    one_refused (tree_of g.D.Diagnostic.meaning g.S.SourceCode.source)
    (option_map (ref_source g.S.SourceCode.source) c.args.source) c.args.reports.now c.loop-report.report-index
    c.report-item.result c.loop-report-test.true c.report-item.is (c.in_err-push_report.ensures.refused (search rules))

pub push_related-returns-clause-text : goal.push_related-returns-clause-text
push_related-returns-clause-text g t c =
    all_told (tree_of g.D.Diagnostic.meaning g.S.SourceCode.source) c.args.self.now _ c.args.reports.now
    c.loop-report.report-index _ _ (omega arith) c.loop-report.invariant

pub push_report-push_diagnostic-requires : goal.push_report-push_diagnostic-requires
push_report-push_diagnostic-requires g t c =
    whole_in c.args.self.now.form (source_of (tree_of g.D.Diagnostic.meaning g.S.SourceCode.source c.args.report.now))
    (option_map (ref_source g.S.SourceCode.source) c.args.inherited)
    (option_map (ref_source g.S.SourceCode.source) c.effective_source-source.result) c.in_ok-own.own c.args.whole.now
    c.own_or_inherited-whole.result.now c.effective_source-source.ensures c.own_or_inherited-whole.ensures
    c.in_ok-own.ensures c.requires

pub push_report-push_related-requires : goal.push_report-push_related-requires
push_report-push_related-requires g t c =
    let small = related_falls (tree_of g.D.Diagnostic.meaning g.S.SourceCode.source c.args.report.now)
    (trees (map (tree_of g.D.Diagnostic.meaning g.S.SourceCode.source) c.related.result.now)) c.related.ensures.value in
    let below =
    whole_in c.args.self.now.form (source_of (tree_of g.D.Diagnostic.meaning g.S.SourceCode.source c.args.report.now))
    (option_map (ref_source g.S.SourceCode.source) c.args.inherited)
    (option_map (ref_source g.S.SourceCode.source) c.effective_source-source.result) c.in_ok-own.own c.args.whole.now
    c.own_or_inherited-whole.result.now c.effective_source-source.ensures c.own_or_inherited-whole.ensures
    c.in_ok-own.ensures c.requires in
    search rules

pub push_report-returns-clause-text : goal.push_report-returns-clause-text
push_report-returns-clause-text g t c =
    let value = tree_of g.D.Diagnostic.meaning g.S.SourceCode.source c.args.report.now in
    on_ok_weaker c.push_related.result (λ h. report_told c.args.self.now
    (option_map (ref_source g.S.SourceCode.source) c.args.inherited)
    value _ _ _ _ _ c.effective_source-source.ensures c.related.ensures.value
    c.in_ok-push_diagnostic.ensures.text h) c.push_related.ensures.text

pub push_report-returns-in_err-push_diagnostic-clause-refused
    : goal.push_report-returns-in_err-push_diagnostic-clause-refused
push_report-returns-in_err-push_diagnostic-clause-refused g t c = λ h.
    refused_here (tree_of g.D.Diagnostic.meaning g.S.SourceCode.source c.args.report.now)
    (option_map (ref_source g.S.SourceCode.source) c.args.inherited)
    (option_map (ref_source g.S.SourceCode.source) c.effective_source-source.result) c.effective_source-source.ensures
    (c.in_err-push_diagnostic.ensures.refused (search rules))

pub push_report-returns-clause-refused : goal.push_report-returns-clause-refused
push_report-returns-clause-refused g t c = λ h.
    refused_below (tree_of g.D.Diagnostic.meaning g.S.SourceCode.source c.args.report.now)
    (option_map (ref_source g.S.SourceCode.source) c.args.inherited)
    (option_map (ref_source g.S.SourceCode.source) c.effective_source-source.result)
    (trees (map (tree_of g.D.Diagnostic.meaning g.S.SourceCode.source) c.related.result.now))
    c.effective_source-source.ensures
    c.related.ensures.value (c.push_related.ensures.refused h)

pub push_related-push_report-requires : goal.push_related-push_report-requires
push_related-push_report-requires g t c =
    let small = item_falls (tree_of g.D.Diagnostic.meaning g.S.SourceCode.source) c.args.reports.now
    c.loop-report.report-index c.report-item.result c.loop-report-test.true c.report-item.is in
    search rules
