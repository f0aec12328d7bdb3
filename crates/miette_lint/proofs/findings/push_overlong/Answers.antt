use Rattle.std.proofs.Common.{ap, sym, ◌∙◌}
use Rattle.std.specs.Option.{option_map}
use Rattle.miette_columns.specs.views.Walking.{cell_of}
use Rattle.miette_lint.specs.rules.Findings.{lint_cells_of}
use Rattle.miette_lint.proofs.FindingSteps.{overlong_put}
use Rattle.miette_lint.proofs.findings.push_overlong.Goals as goal

pub returns-in_ok-words-in-Some : goal.returns-in_ok-words-in-Some
returns-in_ok-words-in-Some c =
    overlong_put _ c.args.width c.args.line.text_end (lint_cells_of c.args.line.start c.args.text.now)
    (cell_of c.in-Some.cell) _ _ _ (ap (option_map cell_of) (sym c.in-Some.is) ∙ c.in_ok-cell.ensures)
    c.in_ok-words-in-Some.ensures c.push_finding.ensures
