use Rattle.miette_read_gcc.proofs.Reports.{gcc_reads}
use Rattle.miette_read_gcc.proofs.laws.reports_always_read.Goals as goal

pub returns : goal.returns
returns c = λ files d h. gcc_reads files h d
