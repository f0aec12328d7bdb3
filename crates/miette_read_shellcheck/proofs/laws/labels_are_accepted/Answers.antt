use Rattle.miette_read_shellcheck.proofs.CommentsHold.{shellcheck_accepts}
use Rattle.miette_read_shellcheck.proofs.laws.labels_are_accepted.Goals as goal

pub returns : goal.returns
returns c = λ files d h. shellcheck_accepts files h d
