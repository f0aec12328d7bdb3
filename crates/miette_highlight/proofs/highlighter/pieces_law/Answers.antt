use Rattle.miette_highlight.proofs.PieceLemmas.{total_length-line, ends-boundaries}
use Rattle.miette_highlight.proofs.highlighter.pieces_law.Goals as goal

pub returns-clause-lengths : goal.returns-clause-lengths
returns-clause-lengths c = total_length-line

pub returns-clause-boundaries : goal.returns-clause-boundaries
returns-clause-boundaries c = ends-boundaries
