use Rattle.std.proofs.Common.{◌≡◌, map, drop}
use Rattle.miette_tree.specs.views.Attachments.{section_of}
use Rattle.miette_brief.specs.rules.Locations.{found_further}
use Rattle.miette_brief.specs.steps.Conversions.{chosen_in}
use Rattle.miette_brief.proofs.primary.read_chosen_further.Given as goal

abbrev pub invariant-loop-section : goal.invariant-loop-section
invariant-loop-section g l =
    let value = section_of g.S.SourceCode.source in
    found_further (chosen_in l.choice) (map value (drop l.section-index l.further))
    ≡ found_further (chosen_in l.choice) (map value l.further)
