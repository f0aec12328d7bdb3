use Rattle.std.proofs.Common.{string_bytes, map, drop}
use Rattle.miette_tree.specs.views.Attachments.{section_of}
use Rattle.miette_narrated.proofs.Further.{FurtherSoFar}
use Rattle.miette_narrated.proofs.sections.push_further.Given as goal

abbrev pub invariant-loop-section : goal.invariant-loop-section
invariant-loop-section g l =
    let value = section_of g.S.SourceCode.source in
    FurtherSoFar l.context (map value l.sections) (map value (drop l.section-index l.sections))
    (string_bytes l.fn.out) (string_bytes l.out)
