-- The label lists of a report.
use Rattle.std.specs.Prelude.{List, ◌∷◌, Option, Some, None}
use Rattle.miette_protocol.specs.rules.Reading.{Source}
use Rattle.miette_tree.specs.rules.Diagnosis.{Diagnosis, Section}
use Rattle.miette_tree.specs.rules.DiagnosticParts.{given_labels}
use Rattle.miette_tree.specs.rules.Tree.{Tree, head, source_of}

-- Without a source, the report's own labels are in no list.
abbrev pub lists_by : Diagnosis → Option Source → List Section
lists_by m None = m.snippets
lists_by m (Some s) = record { source = s; labels = given_labels m.labels } ∷ m.snippets

-- The labels over the report's source, then those over each further source.
abbrev pub label_sections : Tree → List Section
label_sections t = lists_by (head t) (source_of t)
