use Rattle.std.proofs.Common.{◌≡◌, true}
use Rattle.miette_tree.specs.rules.Reads.{report_in_bounds}
use Rattle.miette_read.specs.rules.RustcReport.{rustc_tree}
use Rattle.miette_read.proofs.Accepted.{row_accepts}
use Rattle.miette_read.proofs.AllHold.{row_hold}
use Rattle.miette_read.proofs.rustc.RustcMessageFormat.labels_are_accepted.Goals as goal

pub returns : goal.returns
returns c = λ files d h. row_hold (λ tree. report_in_bounds tree ≡ true) (rustc_tree files d) (row_accepts files h d)
