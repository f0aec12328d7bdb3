use Rattle.std.proofs.Common.{◌≡◌, ◌++◌, take, drop, map}
use Rattle.miette_read.specs.rules.AnnotationLabels.{with_more_rows}
use Rattle.miette_read.proofs.file_labels.add_rows_to_all.Given as goal

-- those that are passed are told again
abbrev pub invariant-loop-mark : goal.invariant-loop-mark
invariant-loop-mark l =
    l.marks
    ≡ map (with_more_rows l.name l.stretch l.told) (take l.mark-index l.fn.marks) ++ drop l.mark-index l.fn.marks
