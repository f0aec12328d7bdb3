use Rattle.miette_lines.proofs.Places.{line_of_zero}
use Rattle.miette_snippet_folds.proofs.label_extents.line_of.Goals as goal

pub line_from-requires-clause-line : goal.line_from-requires-clause-line
line_from-requires-clause-line c = line_of_zero c.args.bytes.now
