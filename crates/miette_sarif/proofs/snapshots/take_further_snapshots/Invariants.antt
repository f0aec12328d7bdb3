use Rattle.std.proofs.Common.{drop, map}
use Rattle.miette_tree.specs.views.Attachments.{section_of}
use Rattle.miette_sarif.specs.views.Sources.{snapshot_of}
use Rattle.miette_sarif.proofs.Gathers.{FurtherSoFar}
use Rattle.miette_sarif.proofs.snapshots.take_further_snapshots.Given as goal

abbrev pub invariant-loop-section : goal.invariant-loop-section
invariant-loop-section g l =
    let value = section_of g.S.SourceCode.source in
    FurtherSoFar l.fn.sources (map value l.sections) (map value (drop l.section-index l.sections)) l.sources
    (map snapshot_of l.list.items)
