use Rattle.std.proofs.Common.{refl}
use Rattle.miette_fix_drawing.proofs.changed_rows.near_line.Goals as goal

pub returns : goal.returns
returns c = record {
  is = refl;
  apart = c.spans_not_ending_before.ensures.apart;
  held = c.spans_not_ending_before.ensures.held;
  parts = c.spans_not_ending_before.ensures.parts;
  on = c.spans_not_ending_before.ensures.on;
}
