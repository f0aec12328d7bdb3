use Rattle.miette_graphical_laws.proofs.WholeRows.{drawn-whole, first-whole, rows-whole}
use Rattle.miette_graphical_laws.proofs.laws.whole_rows_law.Goals as goal

pub returns-clause-rows : goal.returns-clause-rows
returns-clause-rows c = rows-whole

pub returns-clause-first : goal.returns-clause-first
returns-clause-first c = first-whole

pub returns-clause-drawn : goal.returns-clause-drawn
returns-clause-drawn c = drawn-whole
