use Rattle.std.proofs.Common.{arith, map}
use Rattle.miette_tree.specs.views.Attachments.{section_of}
use Rattle.miette_sarif.specs.views.Grouped.{groups_in}
use Rattle.miette_sarif.specs.views.Sources.{snapshot_of}
use Rattle.miette_sarif.proofs.Gathers.{none_in}
use Rattle.miette_sarif.proofs.Picks.{groups_end}
use Rattle.miette_sarif.proofs.gather.source_labels_of.Goals as goal

pub returns : goal.returns
returns g c =
    let l = c.loop-section in
    groups_end (groups_in l.groups.items) _ (map snapshot_of l.left.now) _
    (none_in (section_of g.S.SourceCode.source) _ l.section-index (omega arith)) l.invariant
