use Rattle.std.proofs.Common.{ap, ap₂, map, set, sym, ◌++◌, ◌∙◌, append-nil}
use Rattle.std.proofs.lemmas.List.{drop_all, take_all}
use Rattle.std.proofs.lemmas.List.Edits.{map_over_more}
use Rattle.miette_read.specs.rules.AnnotationLabels.{with_more_rows}
use Rattle.miette_read.proofs.file_labels.add_rows_to_all.Goals as goal

pub loop-mark-preserved : goal.loop-mark-preserved
loop-mark-preserved c =
    let l = c.loop-mark in
    let again = with_more_rows c.args.name.now c.args.stretch c.args.told.now in
    ap (λ m. set l.marks l.mark-index m) c.in_ok-add_rows.ensures
    ∙ ap (λ m. set l.marks l.mark-index (again m)) (sym c.mark-item.is)
    ∙ map_over_more again c.args.marks.now l.marks l.mark-index c.mark-item.result c.loop-mark-test.true l.invariant
    c.mark-item.is

pub returns : goal.returns
returns c =
    let l = c.loop-mark in
    let marks = c.args.marks.now in
    let again = with_more_rows c.args.name.now c.args.stretch c.args.told.now in
    l.invariant
    ∙ ap₂ (λ a b. map again a ++ b) (take_all l.mark-index marks c.loop-mark-test.false)
    (drop_all l.mark-index marks c.loop-mark-test.false)
    ∙ append-nil (map again marks)
