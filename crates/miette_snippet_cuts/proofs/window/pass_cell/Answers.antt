use Rattle.std.proofs.Common.{◌≡◌, ◌∷◌, ◌∙◌, ap, length, sym, arith, rules}
use Rattle.miette_columns.specs.views.Walking.{cell_of}
use Rattle.miette_snippet_cuts.proofs.WindowColumns.{cell_passed_by, stays_passed}
use Rattle.miette_snippet_cuts.proofs.window.pass_cell.Goals as goal

pub returns-in_default-clause-passed : goal.returns-in_default-clause-passed
returns-in_default-clause-passed c = stays_passed c.args.end c.args.window.now c.requires

pub returns-then-cell-end-clause-passed : goal.returns-then-cell-end-clause-passed
returns-then-cell-end-clause-passed c = stays_passed c.args.end c.args.window.now c.requires

pub returns-clause-passed : goal.returns-clause-passed
returns-clause-passed c =
    let step : c.copy-walk.result ≡ cell_of c.in-Some.cell ∷ c.next.new.self = search rules in
    cell_passed_by c.args.end c.args.window.now (cell_of c.in-Some.cell) c.next.new.self c.requires
    (sym c.copy-walk.ensures ∙ step) c.if-cell-end.false

pub returns-clause-fewer : goal.returns-clause-fewer
returns-clause-fewer c = λ yes.
    let step : c.copy-walk.result ≡ cell_of c.in-Some.cell ∷ c.next.new.self = search rules in
    omega (arith, ap length step, ap length c.copy-walk.ensures)
