use Rattle.miette_fix_drawing.proofs.LinePlaces.{at_most}
use Rattle.miette_fix_drawing.proofs.counting.has_at_most_lines.Goals as goal

pub returns : goal.returns
returns c = at_most c.args.bytes.now c.args.many c.last_lines_start.result c.last_lines_start.ensures.size
