use Rattle.std.proofs.Common.{◌≡◌, take, true}
use Rattle.std.specs.List.{list_all}
use Rattle.miette_read.specs.views.Values.{values_behind}
use Rattle.miette_show_rows.specs.rules.CurrentSpans.{is_span_current}
use Rattle.miette_show_rows.proofs.current_spans.are_spans_current.Given as goal

-- those that are passed are
abbrev pub invariant-loop-span : goal.invariant-loop-span
invariant-loop-span g l = list_all (is_span_current (g.F.Files.found l.files))
    (values_behind (take l.span-index l.spans)) ≡ true
