use Rattle.std.proofs.Common.{map, string_bytes, ap, ◌∙◌}
use Rattle.std.proofs.lemmas.List.{take_all}
use Rattle.miette_read.specs.rules.AnnotationLabels.{with_row, with_rows}
use Rattle.miette_read.proofs.Steps.{fold_more}
use Rattle.miette_read.proofs.rows.push_rows_once.Goals as goal

pub loop-row-preserved : goal.loop-row-preserved
loop-row-preserved c =
    let l = c.loop-row in
    let old = map string_bytes l.rows.items in
    fold_more string_bytes c.args.more.now l.row-index c.row-item.result c.loop-row-test.true c.row-item.is with_row
    (map string_bytes c.args.rows.now.items) old (map string_bytes c.push_row_once.new.rows.items)
    (c.in_ok-push_row_once.ensures ∙ ap (with_row old) c.as_str.ensures.value) l.invariant

pub returns : goal.returns
returns c =
    c.loop-row.invariant
    ∙ ap (λ rows. with_rows (map string_bytes c.args.rows.now.items) (map string_bytes rows))
    (take_all c.loop-row.row-index c.args.more.now c.loop-row-test.false)
