use Rattle.std.proofs.Common.{◌≡◌, map, take, string_bytes}
use Rattle.miette_read.specs.rules.AnnotationLabels.{with_rows}
use Rattle.miette_read.proofs.rows.push_rows_once.Given as goal

-- those that are passed are appended
abbrev pub invariant-loop-row : goal.invariant-loop-row
invariant-loop-row l =
    map string_bytes l.rows.items
    ≡ with_rows (map string_bytes l.fn.rows.items) (map string_bytes (take l.row-index l.more))
