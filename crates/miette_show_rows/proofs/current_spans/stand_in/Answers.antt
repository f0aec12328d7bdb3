use Rattle.std.proofs.Common.{◌≡◌, ◌∙◌, ap, false, rules, tests}
use Rattle.std.specs.Prelude.{◌==◌}
use Rattle.miette_read.specs.views.Values.{values_behind}
use Rattle.miette_show_rows.specs.rules.CurrentSpans.{begin_with}
use Rattle.miette_show_rows.proofs.RowStarts.{left_of, is_edit_current, stands_not}
use Rattle.miette_show_rows.proofs.current_spans.stand_in.Goals as goal

pub returns-then-column_after-column : goal.returns-then-column_after-column
returns-then-column_after-column c =
    let same : c.column_after.result ≡ c.args.column = search rules in
    is_edit_current c.args.bytes.now c.args.offset c.args.column c.row_start-start.result c.column_after.result
    (values_behind c.args.rows.now) c.if-offset-bytes.false c.row_start-start.ensures.start c.column_after.ensures
    c.begin_with.result same
    (c.begin_with.ensures ∙ ap (begin_with (values_behind c.args.rows.now))
    (left_of c.args.bytes.now c.row_start-start.result))

pub returns-else-column_after-column : goal.returns-else-column_after-column
returns-else-column_after-column c =
    let differs : (c.column_after.result == c.args.column) ≡ false = search (rules, tests) in
    stands_not c.args.bytes.now c.args.offset c.args.column c.row_start-start.result c.column_after.result
    (values_behind c.args.rows.now) c.if-offset-bytes.false c.row_start-start.ensures.start c.column_after.ensures
    differs
