use Rattle.std.proofs.Common.{map, drop}
use Rattle.miette_tree.specs.views.Attachments.{section_of}
use Rattle.miette_json.specs.rules.Writing.{opened}
use Rattle.miette_json.proofs.JsonAttached.{SectionsSoFar}
use Rattle.miette_json.proofs.snippets_and_fixes.push_sections.Given as goal

abbrev pub invariant-loop-section : goal.invariant-loop-section
invariant-loop-section g l =
    let value = section_of g.S.SourceCode.source in
    SectionsSoFar (map value l.sections) (map value (drop l.section-index l.sections)) (opened 91 l.fn.json) l.json
