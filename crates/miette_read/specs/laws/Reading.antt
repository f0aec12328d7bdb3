-- Properties of the reports that are read from a JSON value.
use Rattle.std.specs.Prelude.{◌≡◌, ℕ, List, Option, All, IfSome, true}
use Rattle.serde_json.specs.Data.{Data}
use Rattle.miette_protocol.specs.rules.Reading.{Source}
use Rattle.miette_tree.specs.rules.Reads.{AlwaysReads, report_in_bounds}
use Rattle.miette_tree.specs.rules.Tree.{Tree}

-- Every file that is found always reads.
abbrev pub FilesAlwaysRead : (List ℕ → Option Source) → Type 0
FilesAlwaysRead files = (name : List ℕ) → IfSome (files name) (λ s. s.always_reads ≡ true)

-- If every file always reads, the sources of all reports always read.
abbrev pub ReportsAlwaysRead : ((List ℕ → Option Source) → Data → Option (List Tree)) → Type 0
ReportsAlwaysRead reports = (files : List ℕ → Option Source) (d : Data) → FilesAlwaysRead files
    → IfSome (reports files d) (All AlwaysReads)

-- If every file always reads, all labels are in bounds of their sources.
abbrev pub LabelsAreAccepted : ((List ℕ → Option Source) → Data → Option (List Tree)) → Type 0
LabelsAreAccepted reports = (files : List ℕ → Option Source) (d : Data) → FilesAlwaysRead files
    → IfSome (reports files d) (All (λ tree. report_in_bounds tree ≡ true))
