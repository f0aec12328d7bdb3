use Rattle.miette_tree.specs.rules.Reads.{AlwaysReads}
use Rattle.miette_read.specs.rules.RustcReport.{rustc_tree}
use Rattle.miette_read.proofs.AllHold.{row_hold}
use Rattle.miette_read.proofs.AlwaysRead.{row_reads}
use Rattle.miette_read.proofs.rustc.RustcMessageFormat.reports_always_read.Goals as goal

pub returns : goal.returns
returns c = λ files d h. row_hold AlwaysReads (rustc_tree files d) (row_reads files h d)
