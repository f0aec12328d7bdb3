use Rattle.std.proofs.Common.{subst, sym}
use Rattle.miette_tree.proofs.Nesting.{texts_shown}
use Rattle.miette_tree.specs.rules.Tree.{cause_of}
use Rattle.miette_tree.specs.views.Report.{tree_of}
use Rattle.miette_sarif.specs.views.FindingParts.{collected_of}
use Rattle.miette_sarif.specs.views.Sources.{over_of}
use Rattle.miette_sarif.proofs.Gathers.{CausesSoFar, all_causes, no_causes, one_cause}
use Rattle.miette_sarif.proofs.gather.push_causes.Goals as goal

pub loop-cause-init : goal.loop-cause-init
loop-cause-init g c = no_causes _ _ _ _

pub loop-cause-preserved : goal.loop-cause-preserved
loop-cause-preserved g c =
    let l = c.loop-cause in
    let value = tree_of g.D.Diagnostic.meaning g.S.SourceCode.source in
    let so_far = subst (λ x. CausesSoFar (over_of c.args.seen) c.args.sources.now (cause_of (value c.args.report.now)) x
    l.sources (collected_of c.args.collected.now) (collected_of l.collected)) (sym c.in-Diagnostic.ensures.value)
    l.invariant in
    one_cause _ _ _ _ _ _ _ _ _ so_far c.in_ok-push_own_cause.ensures.added c.in_ok-push_own_cause.ensures.counted

pub returns : goal.returns
returns g c =
    let l = c.loop-cause in
    let value = tree_of g.D.Diagnostic.meaning g.S.SourceCode.source in
    let ended = all_causes _ _ _ _ _ _ _ _ (texts_shown g.D.Diagnostic.meaning g.S.SourceCode.source c.cause.result
    (cause_of (value l.at.now)) c.cause.ensures.value c.in_default.not-Diagnostic) l.invariant in
    record { added = ended.0; counted = ended.1 }
