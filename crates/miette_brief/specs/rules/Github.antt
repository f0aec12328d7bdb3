-- The commands of a report: one for itself and one for each related report.
use Rattle.std.specs.Prelude.{ℕ, Bool, true, false, List, [], ◌∷◌, ◌++◌, map, Option, Some, None, codes}
use Rattle.std.specs.List.{flat_map}
use Rattle.miette_protocol.specs.rules.Reading.{Source}
use Rattle.miette_positions.specs.declared.position.PositionEncoding.TheVariants.{Utf16}
use Rattle.miette_positions.specs.declared.position.Region.{Region}
use Rattle.miette_positions.specs.rules.Regions.{region_of}
use Rattle.miette_fixes.specs.rules.Edits.{FixModel}
use Rattle.miette_tree.specs.rules.Diagnosis.{Diagnosis}
use Rattle.miette_tree.specs.rules.DiagnosticParts.{given_labels}
use Rattle.miette_tree.specs.rules.Tree.{Cause, causes_of}
use Rattle.miette_labels.specs.rules.Groups.{in_order}
use Rattle.miette_brief.specs.rules.Locations.{SpanInSource, primary_span, source_location}
use Rattle.miette_brief.specs.rules.Commands.{Command, FileLocation, MessageRow}
use Rattle.miette_brief.specs.rules.LocatedLabels.{LocatedLabel, marks, primary_first}

-- ---- where a diagnostic lies

-- a text, unless it is empty
abbrev pub nonempty : Option (List ℕ) → Option (List ℕ)
nonempty None = None
nonempty (Some []) = None
nonempty (Some (b ∷ bs)) = Some (b ∷ bs)

-- a file location, unless the name is missing or empty
abbrev pub named_file_location : Option (List ℕ) → Option Region → Option FileLocation
named_file_location None region = None
named_file_location (Some []) region = None
named_file_location (Some (b ∷ bs)) region = Some (record { file = b ∷ bs; region = region })

-- the region of the primary label in its source, in UTF-16, else the name of the first source
abbrev pub primary_file_location : Option Source → Bool → Option SpanInSource → Option FileLocation
primary_file_location source fault None = named_file_location (source_location source fault).name None
primary_file_location source fault (Some spot) = named_file_location spot.source.name
    (region_of Utf16 spot.source.bytes spot.span)

-- the file location of a diagnostic; the flag says whether the read for the source's name failed
abbrev pub diagnostic_file_location : Option Source → Bool → Diagnosis → Option FileLocation
diagnostic_file_location source fault m =
    primary_file_location source fault (primary_span source (in_order (given_labels m.labels)) m.snippets)

-- ---- its message

abbrev pub message_row : List ℕ → List ℕ → MessageRow
message_row title text = record { title = title; text = text }

-- a message row, if there is a text
abbrev pub message_row_if : List ℕ → Option (List ℕ) → List MessageRow
message_row_if title None = []
message_row_if title (Some text) = message_row title text ∷ []

abbrev pub note_message_row : LocatedLabel → List MessageRow
note_message_row it = message_row_if (codes "note: ") it.label.text

-- a row for each label that has a text, the primary label's first
abbrev pub note_message_rows : List LocatedLabel → List MessageRow
note_message_rows its = flat_map note_message_row its

-- the causes, if they are printed
abbrev pub cause_message_rows : Bool → List (List ℕ) → List MessageRow
cause_message_rows true causes = map (message_row (codes "caused by: ")) causes
cause_message_rows false causes = []

abbrev pub fix_message_row : FixModel → MessageRow
fix_message_row proposal = message_row (codes "fix: ") proposal.message

-- help, fixes without their edits, and the url
abbrev pub advice_message_rows : Diagnosis → List MessageRow
advice_message_rows m =
    message_row_if (codes "help: ") m.help ++ (map fix_message_row m.fixes ++ message_row_if (codes "see: ") m.url)

-- ---- the command

abbrev pub command : Bool → Option Source → Bool → Diagnosis → Cause → Command
command chain source fault m c = record {
  severity = m.severity;
  site = diagnostic_file_location source fault m;
  title = nonempty m.code;
  message = m.message;
  message_rows = note_message_rows (primary_first (marks source m)) ++ (cause_message_rows chain (causes_of c)
      ++ advice_message_rows m);
}
