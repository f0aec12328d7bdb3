use Rattle.std.proofs.Common.{◌≡◌, ◌∷◌, ◌∙◌, List, ap, length, refl, subst, arith, rules}
use Rattle.miette_columns.specs.rules.Cells.{Cell}
use Rattle.miette_columns.specs.views.Walking.{cell_of}
use Rattle.miette_snippet_rules.specs.declared.line_scan.LineScan.{LineScan}
use Rattle.miette_snippet_rules.specs.views.LineScans.{HasScanned}
use Rattle.miette_snippet_rules.proofs.PassedCells.{passed_cell, width_passed}
use Rattle.miette_snippet_rules.proofs.line_scan.scan_cells.Goals as goal

pub returns-in_default-clause-passed : goal.returns-in_default-clause-passed
returns-in_default-clause-passed c = λ cells h.
    let same : c.loop.walk ≡ c.next.new.self = search rules in
    let at : List Cell → LineScan = λ left. record { walk = left; reached = c.loop.reached; width = c.loop.width } in
    subst (λ left. HasScanned cells (at left)) same (c.loop.invariant.passed cells h)

pub loop-preserved : goal.loop-preserved
loop-preserved c =
    let step : c.loop.walk ≡ cell_of c.in-Some.cell ∷ c.next.new.self = search rules in
    let old : LineScan = record { walk = c.loop.walk; reached = c.loop.reached; width = c.loop.width } in
    let new : LineScan = record {
      walk = c.next.new.self;
      reached = c.in-Some.cell.after;
      width = c.in-Some.cell.until;
    } in
    record {
      passed = λ cells h.
          passed_cell cells (cell_of c.in-Some.cell) old new step refl (c.loop.invariant.passed cells h);
      width = width_passed (cell_of c.in-Some.cell) c.loop.walk c.next.new.self c.loop.width step
          ∙ c.loop.invariant.width;
      fewer = omega (arith, ap length step, c.loop.invariant.fewer);
    }
