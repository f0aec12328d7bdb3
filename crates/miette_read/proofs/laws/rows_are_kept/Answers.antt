use Rattle.miette_read.proofs.Kept.{report_keeps}
use Rattle.miette_read.proofs.laws.rows_are_kept.Goals as goal

pub returns : goal.returns
returns c = λ files said told offers t row. report_keeps files said told offers t row
