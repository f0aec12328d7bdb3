use Rattle.miette_read.proofs.Accepted.{row_accepts}
use Rattle.miette_read.proofs.laws.labels_are_accepted.Goals as goal

pub returns : goal.returns
returns c = λ files d h. row_accepts files h d
