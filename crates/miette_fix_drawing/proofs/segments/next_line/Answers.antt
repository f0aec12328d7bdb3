use Rattle.miette_fix_drawing.proofs.LineCounts.{rest_of}
use Rattle.miette_fix_drawing.proofs.segments.next_line.Goals as goal

pub returns-clause-lines : goal.returns-clause-lines
returns-clause-lines c =
    rest_of c.args.bytes.now.now c.first_line-end.result c.first_line-end.ensures
