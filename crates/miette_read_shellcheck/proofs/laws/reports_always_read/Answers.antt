use Rattle.miette_read_shellcheck.proofs.CommentsHold.{shellcheck_reads}
use Rattle.miette_read_shellcheck.proofs.laws.reports_always_read.Goals as goal

pub returns : goal.returns
returns c = λ files d h. shellcheck_reads files h d
