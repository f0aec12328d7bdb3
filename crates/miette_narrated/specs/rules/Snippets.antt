-- Snippets: source lines with the labels below them.
use Rattle.std.specs.Prelude.{ℕ, ◌+◌, List, [], ◌∷◌, ◌++◌, map, length, Option, Some, None, Bool, decimal, codes}
use Rattle.miette_protocol.specs.views.Meaning.{Label}
use Rattle.miette_protocol.specs.rules.Reading.{Span, Source, Contents}
use Rattle.miette_labels.specs.rules.Contexts.{contents, lines_of_contents}
use Rattle.miette_labels.specs.rules.Around.{group_context}
use Rattle.miette_labels.specs.rules.Groups.{in_order, groups_of}
use Rattle.miette_narrated.specs.rules.Labels.{LabelRange, label_range, row}
use Rattle.miette_narrated.specs.rules.Lines.{narrated_lines_rows}

-- ` for bad_file.rs`
abbrev pub for_name_text : Option (List ℕ) → List ℕ
for_name_text None = []
for_name_text (Some name) = codes " for " ++ name

-- `Begin snippet for bad_file.rs starting at line 1, column 1`, and a blank line
abbrev pub begin_rows : Contents → List ℕ
begin_rows contents =
    row (codes "Begin snippet" ++ (for_name_text contents.name
    ++ (codes " starting at line " ++ (decimal (contents.line + 1)
    ++ (codes ", column " ++ decimal (contents.column + 1))))))
    ++ row []

-- a snippet from the contents of a read
abbrev pub snippet : List LabelRange → Contents → List ℕ
snippet labels contents =
    begin_rows contents ++ narrated_lines_rows labels contents (contents.line + 1) (lines_of_contents contents)

abbrev pub snippets_of : ℕ → Source → List LabelRange → List Span → List ℕ
snippets_of context source labels [] = []
snippets_of context source labels (group ∷ groups) =
    snippet labels (contents context source group) ++ snippets_of context source labels groups

-- the snippets of a source's labels, sorted by offset and grouped as in graphical reports; `fails` says which group
-- reads failed
abbrev pub snippets : ℕ → Source → List Bool → List Label → List ℕ
snippets context source fails labels =
    snippets_of (group_context context (in_order labels)) source
    (map (label_range (length source.bytes)) (in_order labels)) (groups_of context source fails (in_order labels))
