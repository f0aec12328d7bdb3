use Rattle.std.proofs.Common.{◌≡◌, ◌++◌, drop, map}
use Rattle.miette_tree.specs.rules.Tree.{head}
use Rattle.miette_tree.specs.views.Attachments.{section_of}
use Rattle.miette_tree.specs.views.Report.{tree_of}
use Rattle.miette_sarif.specs.rules.Marks.{further_groups, source_labels_of}
use Rattle.miette_sarif.specs.views.Grouped.{groups_in}
use Rattle.miette_sarif.specs.views.Sources.{over_of, snapshot_of}
use Rattle.miette_sarif.proofs.gather.source_labels_of.Given as goal

abbrev pub invariant-loop-section : goal.invariant-loop-section
invariant-loop-section g l =
    groups_in l.groups.items ++ further_groups (map snapshot_of l.left)
    (map (section_of g.S.SourceCode.source) (drop l.section-index l.sections))
    ≡ source_labels_of (over_of l.seen) (map snapshot_of l.further)
    (head (tree_of g.D.Diagnostic.meaning g.S.SourceCode.source l.report))
