use Rattle.std.proofs.lemmas.Bool.{eq-eqb, ne_eqb}
use Rattle.std.proofs.lemmas.Result.{IfOk-weaker}
use Rattle.miette_columns.specs.views.Walking.{cell_of}
use Rattle.miette_snippet_cuts.specs.steps.Nearness.{near_by}
use Rattle.miette_snippet_cuts.proofs.CountedColumns.{cell_counted, cell_passed}
use Rattle.miette_snippet_cuts.proofs.counting.count_cell.Goals as goal

pub returns-then-cell-clause-counted : goal.returns-then-cell-clause-counted
returns-then-cell-clause-counted c = λ rest.
    cell_passed c.args.dots (near_by c.args.nearness.now.room c.args.nearness.now.ends) c.args.count.now
    (cell_of c.args.cell.now) rest (eq-eqb _ _ c.if-cell.true)

pub returns-clause-counted : goal.returns-clause-counted
returns-clause-counted c =
    IfOk-weaker c.counted.result _ _ (λ next h. λ rest.
    cell_counted c.args.dots (near_by c.args.nearness.now.room c.args.nearness.now.ends) c.args.count.now next
    c.is_near-near.result c.saturating_sub.result (cell_of c.args.cell.now) rest
    (ne_eqb _ _ c.if-cell.false) c.is_near-near.ensures.near
    c.saturating_sub.ensures h) c.counted.ensures
