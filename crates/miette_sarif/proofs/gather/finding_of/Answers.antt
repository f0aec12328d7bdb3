use Rattle.std.proofs.Common.{◌+◌, ◌∙◌, ap, map, refl}
use Rattle.miette_tree.specs.rules.Tree.{cause_of}
use Rattle.miette_tree.specs.views.Report.{tree_of}
use Rattle.miette_sarif.specs.rules.SourceSnapshot.{count_causes}
use Rattle.miette_sarif.specs.views.Findings.{mark_of, applicable_fix_of}
use Rattle.miette_sarif.specs.views.Sources.{over_of}
use Rattle.miette_sarif.proofs.Finds.{finding_found}
use Rattle.miette_sarif.proofs.gather.finding_of.Goals as goal

pub returns-clause-found : goal.returns-clause-found
returns-clause-found g c =
    finding_found (over_of c.args.seen) c.args.sources.now c.push_own_marks.new.sources
    (tree_of g.D.Diagnostic.meaning g.S.SourceCode.source c.args.report.now) _ _ (map mark_of c.new.result.items) _ _ _
    _ _ _ (ap (map mark_of) c.new.ensures.items) c.in_ok-primary.ensures.added c.in_ok-report_texts.ensures refl
    (ap (map applicable_fix_of) c.new-2.ensures.items) (ap (map (λ text. text.now)) c.new-3.ensures.items)
    c.fixes.ensures
    c.in_ok-push_fixes.ensures c.in_ok-primary.ensures.counted c.in_ok-push_causes.ensures.added refl

pub returns-clause-counted : goal.returns-clause-counted
returns-clause-counted g c =
    let value = tree_of g.D.Diagnostic.meaning g.S.SourceCode.source c.args.report.now in
    c.in_ok-push_causes.ensures.counted
    ∙ ap (λ n. n + count_causes (cause_of value)) c.in_ok-primary.ensures.counted
