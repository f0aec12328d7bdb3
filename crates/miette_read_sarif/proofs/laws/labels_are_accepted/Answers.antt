use Rattle.miette_read_sarif.proofs.LogsHold.{sarif_accepts}
use Rattle.miette_read_sarif.proofs.laws.labels_are_accepted.Goals as goal

pub returns : goal.returns
returns c = λ files d h. sarif_accepts files h d
