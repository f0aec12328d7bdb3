use Rattle.std.proofs.Common.{◌≡◌, ◌++◌, string_bytes, drop}
use Rattle.miette_narrated.specs.rules.Labels.{label_rows}
use Rattle.miette_narrated.specs.steps.Conversions.{ranges_of, narrated_line}
use Rattle.miette_narrated.proofs.label_rows.LabelledLine.push_labels.Given as goal

abbrev pub invariant-loop-label : goal.invariant-loop-label
invariant-loop-label l = string_bytes l.out ++ label_rows (narrated_line l.self.line.now)
    (ranges_of (drop l.label-index l.placed)) ≡ string_bytes l.fn.out
    ++ label_rows (narrated_line l.self.line.now) (ranges_of l.placed)
