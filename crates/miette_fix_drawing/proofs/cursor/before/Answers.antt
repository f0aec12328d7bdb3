use Rattle.std.proofs.Common.{arith, sym}
use Rattle.miette_lines.proofs.Places.{line_of_none}
use Rattle.miette_fix_drawing.proofs.cursor.before.Goals as goal

pub returns-then-offset-cursor-clause-cursor : goal.returns-then-offset-cursor-clause-cursor
returns-then-offset-cursor-clause-cursor g c source h = record {
  within = omega arith;
  line = sym (line_of_none source);
  asked = h.asked;
}
