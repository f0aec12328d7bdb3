use Rattle.std.proofs.Common.{◌≡◌, false, take}
use Rattle.std.specs.List.{list_any}
use Rattle.miette_lines.specs.views.Walking.{line_of_text}
use Rattle.miette_snippet_rules.specs.steps.LabelColumnSteps.{has_end}
use Rattle.miette_snippet_rules.proofs.label_columns.some_touches.Given as goal

abbrev pub invariant-loop-label : goal.invariant-loop-label
invariant-loop-label l = list_any (has_end (line_of_text l.line)) (take l.label-index l.labels) ≡ false
