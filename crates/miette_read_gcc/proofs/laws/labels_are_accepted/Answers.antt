use Rattle.miette_read_gcc.proofs.Reports.{gcc_accepts}
use Rattle.miette_read_gcc.proofs.laws.labels_are_accepted.Goals as goal

pub returns : goal.returns
returns c = λ files d h. gcc_accepts files h d
