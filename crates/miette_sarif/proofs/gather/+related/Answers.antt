use Rattle.std.proofs.Common.{◌∙◌, ap, arith, map, rules, subst}
use Rattle.std.proofs.lemmas.List.{map-append}
use Rattle.std.proofs.lemmas.Result.{on_ok_weaker}
use Rattle.miette_tree.proofs.Nesting.{next_of}
use Rattle.miette_tree.proofs.TreeSizes.{item_falls}
use Rattle.miette_tree.specs.rules.Tree.{trees}
use Rattle.miette_tree.specs.views.Report.{tree_of}
use Rattle.miette_sarif.specs.views.FindingParts.{gathered_of}
use Rattle.miette_sarif.specs.views.Findings.{finding_of}
use Rattle.miette_sarif.specs.views.Sources.{over_of}
use Rattle.miette_sarif.proofs.Gathers.{ReportsSoFar, all_reports, no_reports, none_in, one_report, report_gathered}
use Rattle.miette_sarif.proofs.gather.+related.Goals as goal

pub gather_all-loop-report-init : goal.gather_all-loop-report-init
gather_all-loop-report-init g t c = no_reports _ _ _

pub gather_all-gather-requires : goal.gather_all-gather-requires
gather_all-gather-requires g t c =
    let small = item_falls (tree_of g.D.Diagnostic.meaning g.S.SourceCode.source) c.args.reports.now
    c.loop-report.report-index c.report-item.result c.loop-report-test.true c.report-item.is in
    search rules

pub gather_all-loop-report-preserved : goal.gather_all-loop-report-preserved
gather_all-loop-report-preserved g t c =
    let l = c.loop-report in
    let value = tree_of g.D.Diagnostic.meaning g.S.SourceCode.source in
    let next = next_of value c.args.reports.now l.report-index c.report-item.result c.loop-report-test.true
    c.report-item.is in
    let so_far = subst (λ ts. ReportsSoFar (over_of c.args.inherited) (trees (map value c.args.reports.now)) ts
    (gathered_of c.args.gathered.now) (gathered_of l.gathered)) next l.invariant in
    one_report _ _ _ _ _ _ _ so_far c.in_ok-gather.ensures

pub gather_all-returns : goal.gather_all-returns
gather_all-returns g t c =
    let l = c.loop-report in
    let value = tree_of g.D.Diagnostic.meaning g.S.SourceCode.source in
    all_reports _ _ _ _ _ (ap trees (none_in value c.args.reports.now l.report-index (omega arith))) l.invariant

pub gather-returns : goal.gather-returns
gather-returns g t c =
    let value = tree_of g.D.Diagnostic.meaning g.S.SourceCode.source c.args.report.now in
    on_ok_weaker c.gather_all.result (report_gathered (over_of c.args.inherited) _ _ value _
    (finding_of c.in_ok-finding.finding) _ _ _ _ c.own_or-seen.ensures c.in_ok-own.ensures.seen
    c.in_ok-own.ensures.counted c.in_ok-finding.ensures.found
    (ap (map finding_of) c.in_ok-push.ensures.items ∙ map-append finding_of _ _) c.in_ok-finding.ensures.counted
    c.related.ensures.value) c.gather_all.ensures
