use Rattle.std.proofs.Common.{rules, arith, subst, map}
use Rattle.std.specs.Option.{option_map}
use Rattle.std.proofs.lemmas.Result.{on_ok_weaker}
use Rattle.miette_tree.specs.rules.Tree.{trees}
use Rattle.miette_tree.specs.views.Owned.{ref_source}
use Rattle.miette_tree.specs.views.Report.{tree_of}
use Rattle.miette_json.specs.rules.Writing.{opened}
use Rattle.miette_json.proofs.JsonAnswers.{none_so_far, one_more, all_written, at_the_end, report_written, RelatedSoFar}
use Rattle.miette_tree.proofs.TreeSizes.{item_falls}
use Rattle.miette_tree.proofs.Nesting.{next_of}
use Rattle.miette_json.proofs.report.+report.Goals as goal

pub push_related-loop-report-init : goal.push_related-loop-report-init
push_related-loop-report-init g t c = none_so_far _ _ _ _ c.in_ok-begin_list.ensures

pub push_related-push_report-requires : goal.push_related-push_report-requires
push_related-push_report-requires g t c =
    let small = item_falls (tree_of g.D.Diagnostic.meaning g.S.SourceCode.source) c.args.reports.now
    c.loop-report.report-index c.report-item.result c.loop-report-test.true c.report-item.is in
    search rules

pub push_related-loop-report-preserved : goal.push_related-loop-report-preserved
push_related-loop-report-preserved g t c =
    let l = c.loop-report in
    let next = next_of (tree_of g.D.Diagnostic.meaning g.S.SourceCode.source) c.args.reports.now l.report-index
    c.report-item.result c.loop-report-test.true c.report-item.is in
    let so_far = subst (λ ts. RelatedSoFar (option_map (ref_source g.S.SourceCode.source) c.args.source)
    (trees (map (tree_of g.D.Diagnostic.meaning g.S.SourceCode.source) c.args.reports.now)) ts
    (opened 91 c.args.json.now) l.json) next l.invariant in
    one_more _ _ _ _ _ _ _ so_far c.in_ok-push_report.ensures

pub push_related-returns : goal.push_related-returns
push_related-returns g t c =
    let l = c.loop-report in
    let value = tree_of g.D.Diagnostic.meaning g.S.SourceCode.source in
    let inherited = option_map (ref_source g.S.SourceCode.source) c.args.source in
    on_ok_weaker c.end_list.result (all_written inherited (trees (map value c.args.reports.now)) _ _ _
    (at_the_end value inherited c.args.reports.now _ l.report-index _ _ (omega arith) l.invariant)) c.end_list.ensures

pub push_report-returns : goal.push_report-returns
push_report-returns g t c =
    let value = tree_of g.D.Diagnostic.meaning g.S.SourceCode.source c.args.report.now in
    let inherited = option_map (ref_source g.S.SourceCode.source) c.args.inherited in
    on_ok_weaker c.end_object.result (report_written inherited value _ _ _ _ _ _ _ _ _ _ _ _
    c.effective_source-source.ensures c.labels_of.ensures c.related.ensures.value c.in_ok-begin_object.ensures
    c.in_ok-push_head.ensures c.in_ok-push_reasons.ensures c.in_ok-push_file_and_labels.ensures
    c.in_ok-push_snippets_and_fixes.ensures c.in_ok-key.ensures c.in_ok-push_related.ensures) c.end_object.ensures
