-- The severity that a report is counted by.
use Rattle.std.specs.Prelude.{Option}
use Rattle.miette_protocol.specs.declared.protocol.Severity.{Severity}
use Rattle.miette_protocol.specs.rules.Reading.{Source}
use Rattle.miette_protocol.specs.views.Meaning.{Meaning}
use Rattle.miette_tree.specs.declared.tree.Report.{Report}
use Rattle.miette_tree.specs.rules.Tree.{head}
use Rattle.miette_tree.specs.views.Report.{tree_of}

-- the report's own severity, not that of related reports
abbrev pub counted_severity : {D S : Type 0} → (D → Meaning) → (S → Source) → Report D S → Option Severity
counted_severity means shows report = (head (tree_of means shows report)).severity
