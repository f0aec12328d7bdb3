use Rattle.miette_graphical_laws.proofs.NumberRows.{prints-itself, prints-number}
use Rattle.miette_graphical_laws.proofs.laws.number_rows_law.Goals as goal

pub returns-clause-rows : goal.returns-clause-rows
returns-clause-rows c = λ context line number is. prints-number context line number is

pub returns-clause-text : goal.returns-clause-text
returns-clause-text c = λ s bytes line. prints-itself s bytes line
