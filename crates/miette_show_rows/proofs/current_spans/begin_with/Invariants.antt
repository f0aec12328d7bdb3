use Rattle.std.proofs.Common.{◌≡◌, drop}
use Rattle.miette_read.specs.views.Values.{values_behind}
use Rattle.miette_show_rows.specs.rules.CurrentSpans.{begin_with}
use Rattle.miette_show_rows.proofs.current_spans.begin_with.Given as goal

-- what is left begins with the rows that are left, where all begins with all of them
abbrev pub invariant-loop-row : goal.invariant-loop-row
invariant-loop-row l =
    begin_with (values_behind (drop l.row-index l.rows)) l.rest ≡ begin_with (values_behind l.rows) l.bytes
