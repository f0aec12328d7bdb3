use Rattle.std.proofs.Common.{map}
use Rattle.miette_tree.specs.views.Attachments.{section_of}
use Rattle.miette_description.specs.rules.Members.{snippets_of}
use Rattle.miette_description.proofs.Lists.{ReadSoFar}
use Rattle.miette_description.proofs.diagnosis.sections_from.Given as goal

abbrev pub invariant-loop-item : goal.invariant-loop-item
invariant-loop-item g l = ReadSoFar snippets_of l.list (map (section_of g.S.SourceCode.source) l.sections.items)
    l.item-index
