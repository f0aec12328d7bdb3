use Rattle.miette_read.proofs.AlwaysRead.{row_reads}
use Rattle.miette_read.proofs.laws.messages_always_read.Goals as goal

pub returns : goal.returns
returns c = λ files d h. row_reads files h d
