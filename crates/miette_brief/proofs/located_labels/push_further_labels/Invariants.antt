use Rattle.std.proofs.Common.{◌≡◌, ◌++◌, map, drop}
use Rattle.miette_tree.specs.views.Attachments.{section_of}
use Rattle.miette_brief.specs.rules.LocatedLabels.{further_labels}
use Rattle.miette_brief.specs.rules.PossibleAnswers.{FurtherAccepted}
use Rattle.miette_brief.specs.steps.CommandParts.{located_label_of}
use Rattle.miette_brief.proofs.located_labels.push_further_labels.Given as goal

abbrev pub invariant-loop-section : goal.invariant-loop-section
invariant-loop-section g l =
    let is = g.S.SourceCode.source in
    let value = section_of is in
    record {
      marks : map (located_label_of is) l.marks.items ++ further_labels (map value (drop l.section-index l.further))
          ≡ map (located_label_of is) l.fn.marks.items ++ further_labels (map value l.further);
      accepted : FurtherAccepted (map value (drop l.section-index l.further)) → FurtherAccepted (map value l.further);
    }
