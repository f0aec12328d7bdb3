-- Parts of a diagnostic as handlers print them.
use Rattle.std.specs.Prelude.{ℕ, List, [], codes, Option, Some, None}
use Rattle.miette_protocol.specs.views.Meaning.{Label}
use Rattle.miette_protocol.specs.declared.protocol.Severity.{Severity}
use Rattle.miette_protocol.specs.declared.protocol.Severity.TheVariants.{Advice, Warning, Error}

-- the labels; empty if there is no list
abbrev pub given_labels : Option (List Label) → List Label
given_labels None = []
given_labels (Some labels) = labels

-- the name of a severity
abbrev pub severity_text : Option Severity → List ℕ
severity_text None = codes "error"
severity_text (Some Error) = codes "error"
severity_text (Some Warning) = codes "warning"
severity_text (Some Advice) = codes "advice"

-- the title of a severity before the message of a related report
abbrev pub severity_title : Option Severity → List ℕ
severity_title None = codes "Error: "
severity_title (Some Error) = codes "Error: "
severity_title (Some Warning) = codes "Warning: "
severity_title (Some Advice) = codes "Advice: "
