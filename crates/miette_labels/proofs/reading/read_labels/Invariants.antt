use Rattle.miette_lines.specs.views.Known.{IsKnown}
use Rattle.miette_labels.proofs.RefusedLabel.{AreReadTo}
use Rattle.miette_labels.proofs.reading.read_labels.Given as goal

abbrev pub invariant-loop-turn : goal.invariant-loop-turn
invariant-loop-turn g l = record {
  reads : AreReadTo l.context (g.S.SourceCode.source l.source) l.labels l.order l.turn-index l.reads.items;
  first : IsKnown (g.S.SourceCode.source l.source).bytes l.known.first;
  last : IsKnown (g.S.SourceCode.source l.source).bytes l.known.last;
}
