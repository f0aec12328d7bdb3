use Rattle.miette_lines.specs.views.Known.{IsKnown}
use Rattle.miette_labels.proofs.GroupsOfReads.{AreReadTo}
use Rattle.miette_labels.proofs.groups.read_all.Given as goal

abbrev pub invariant-loop-span : goal.invariant-loop-span
invariant-loop-span g l = record {
  reads : AreReadTo (g.S.SourceCode.source l.source) l.spans l.span-index l.groups.items;
  first : IsKnown (g.S.SourceCode.source l.source).bytes l.known.first;
  last : IsKnown (g.S.SourceCode.source l.source).bytes l.known.last;
}
