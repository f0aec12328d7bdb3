use Rattle.miette_snippet_laws.proofs.CutLaws.{bodies_stay, rows_stay}
use Rattle.miette_snippet_laws.proofs.row_laws.lines_that_fit_stay.Goals as goal

pub returns-clause-snippet : goal.returns-clause-snippet
returns-clause-snippet c = bodies_stay

pub returns-clause-rows : goal.returns-clause-rows
returns-clause-rows c = rows_stay
