use Rattle.miette_read_sarif.proofs.LogsHold.{sarif_reads}
use Rattle.miette_read_sarif.proofs.laws.reports_always_read.Goals as goal

pub returns : goal.returns
returns c = λ files d h. sarif_reads files h d
