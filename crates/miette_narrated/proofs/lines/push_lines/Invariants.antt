use Rattle.std.proofs.Common.{◌≡◌, ◌+◌, ◌++◌, string_bytes}
use Rattle.miette_labels.specs.rules.Contexts.{lines_of_contents}
use Rattle.miette_narrated.specs.steps.Conversions.{ranges_of}
use Rattle.miette_narrated.specs.rules.Lines.{narrated_lines_rows}
use Rattle.miette_narrated.specs.steps.LabelSweep.{IsUnderWay}
use Rattle.miette_narrated.proofs.Lining.{AreLeft}
use Rattle.miette_narrated.proofs.lines.push_lines.Given as goal

abbrev pub invariant-loop-line : goal.invariant-loop-line
invariant-loop-line l = record {
  left : AreLeft (ranges_of l.fn.walk.order.placed.now) l.contents l.before l.line-iterator (string_bytes l.out)
      (string_bytes l.fn.out ++ narrated_lines_rows (ranges_of l.fn.walk.order.placed.now) l.contents
      (l.contents.line + 1)
      (lines_of_contents l.contents));
  order : l.walk.order ≡ l.fn.walk.order;
  at : IsUnderWay l.walk;
}
