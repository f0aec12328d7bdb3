use Rattle.std.proofs.Common.{length, map, suc}
use Rattle.miette_tree.specs.rules.Tree.{trees, cause_of, related_of}
use Rattle.miette_tree.specs.views.Report.{tree_of}
use Rattle.miette_graphical.specs.views.Painting.{opt_ref_source}
use Rattle.miette_graphical.proofs.Remaining.{Left, causes_under, related_under}
use Rattle.miette_graphical.proofs.Sizes.{tree_size, cause_size, trees_size}
use Rattle.miette_graphical.proofs.report.+report.Given as goal

abbrev pub decreases-push_causes : goal.decreases-push_causes
decreases-push_causes g l = cause_size (cause_of (tree_of g.D.Diagnostic.meaning g.S.SourceCode.source l.report.now))

abbrev pub decreases-push_body_and_related : goal.decreases-push_body_and_related
decreases-push_body_and_related g l = suc (trees_size (related_of
    (tree_of g.D.Diagnostic.meaning g.S.SourceCode.source l.report.now)))

abbrev pub decreases-inner_runs : goal.decreases-inner_runs
decreases-inner_runs g l = suc (suc (trees_size (related_of
    (tree_of g.D.Diagnostic.meaning g.S.SourceCode.source l.report.now))))

abbrev pub decreases-inner_text : goal.decreases-inner_text
decreases-inner_text g l = suc (suc (suc (trees_size (related_of
    (tree_of g.D.Diagnostic.meaning g.S.SourceCode.source l.report.now)))))

abbrev pub decreases-push_one_cause : goal.decreases-push_one_cause
decreases-push_one_cause g l = suc (suc (suc (suc (trees_size
    (related_of (tree_of g.D.Diagnostic.meaning g.S.SourceCode.source l.cause.now))))))

abbrev pub decreases-push_nested : goal.decreases-push_nested
decreases-push_nested g l = suc (suc (suc (suc (trees_size (related_of
    (tree_of g.D.Diagnostic.meaning g.S.SourceCode.source l.report.now))))))

abbrev pub decreases-push_sibling : goal.decreases-push_sibling
decreases-push_sibling g l = tree_size (tree_of g.D.Diagnostic.meaning g.S.SourceCode.source l.report.now)

abbrev pub decreases-push_one_related : goal.decreases-push_one_related
decreases-push_one_related g l = suc (tree_size (tree_of g.D.Diagnostic.meaning g.S.SourceCode.source l.report.now))

abbrev pub decreases-push_related : goal.decreases-push_related
decreases-push_related g l = trees_size (trees (map (tree_of g.D.Diagnostic.meaning g.S.SourceCode.source)
    l.reports.now))

abbrev pub decreases-push_causes-loop-next : goal.decreases-push_causes-loop-next
decreases-push_causes-loop-next g l = cause_size (cause_of (tree_of g.D.Diagnostic.meaning g.S.SourceCode.source l.at))

abbrev pub invariant-push_causes-loop-next : goal.invariant-push_causes-loop-next
invariant-push_causes-loop-next g l =
    let value = tree_of g.D.Diagnostic.meaning g.S.SourceCode.source in
    Left g.H.Highlighter.is_blank g.H.Highlighter.may_follow
    (causes_under l.outer (opt_ref_source g.S.SourceCode.source l.inherited)) l.fn.painter l.painter
    (cause_of (value l.report)) (cause_of (value l.at))

abbrev pub decreases-push_related-loop-rest : goal.decreases-push_related-loop-rest
decreases-push_related-loop-rest g l = length l.rest

abbrev pub invariant-push_related-loop-rest : goal.invariant-push_related-loop-rest
invariant-push_related-loop-rest g l =
    let value = tree_of g.D.Diagnostic.meaning g.S.SourceCode.source in
    Left g.H.Highlighter.is_blank g.H.Highlighter.may_follow
    (related_under l.outer (opt_ref_source g.S.SourceCode.source l.inherited)) l.fn.painter l.painter
    (trees (map value l.reports)) (trees (map value l.rest))
