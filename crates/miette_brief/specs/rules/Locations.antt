-- Locations of the parts of a report.
use Rattle.std.specs.Prelude.{◌+◌, List, [], ◌∷◌, Option, Some, None, Bool, not, ◌&&◌, if◌then◌else◌}
use Rattle.miette_protocol.specs.views.Meaning.{Label}
use Rattle.miette_protocol.specs.rules.Reading.{Span, Source, is_in_bounds}
use Rattle.miette_labels.specs.rules.Contexts.{contents}
use Rattle.miette_labels.specs.rules.Groups.{in_order}
use Rattle.miette_tree.specs.rules.Diagnosis.{Section}
use Rattle.miette_brief.specs.rules.Rows.{BriefLocation, no_location}

-- ---- primary labels

-- a span over a source
pub record SpanInSource : Type 0 where
  pub source : Source
  pub span : Span

-- the span of the first label that is marked as primary; labels by offset
abbrev pub marked_in : List Label → Option Span
marked_in [] = None
marked_in (label ∷ labels) = if label.primary then Some label.span else marked_in labels

-- the span of the first label; labels by offset
abbrev pub first_in : List Label → Option Span
first_in [] = None
first_in (label ∷ labels) = Some label.span

-- a span in a source, if there are both
abbrev pub span_in_source : Option Source → Option Span → Option SpanInSource
span_in_source None span = None
span_in_source (Some source) None = None
span_in_source (Some source) (Some span) = Some (record { source = source; span = span })

abbrev pub else_span : Option SpanInSource → Option SpanInSource → Option SpanInSource
else_span None other = other
else_span (Some spot) other = Some spot

-- the first span that `choice` finds in further sources, in order
abbrev pub found_further : (List Label → Option Span) → List Section → Option SpanInSource
found_further choice [] = None
found_further choice (section ∷ sections) =
    else_span (span_in_source (Some section.source) (choice (in_order section.labels))) (found_further choice sections)

-- The span of the primary label: the first that is marked as primary, in the order of the sources, else the first label
-- of the first source that has one.
abbrev pub primary_span : Option Source → List Label → List Section → Option SpanInSource
primary_span source labels further =
    else_span (span_in_source source (marked_in labels)) (else_span (found_further marked_in further)
    (else_span (span_in_source source (first_in labels)) (found_further first_in further)))

-- the location at which a span begins, from a read without context
abbrev pub span_location : Source → Span → BriefLocation
span_location source span = record {
  name = source.name;
  position = Some (record { line = (contents 0 source span).line + 1; column = (contents 0 source span).column + 1 });
}

-- the location at which a label's span begins; empty without a source
abbrev pub label_location : Option Source → Span → BriefLocation
label_location None span = no_location
label_location (Some source) span = span_location source span

-- the name of a source; none if its read failed
abbrev pub name_location : Source → Bool → BriefLocation
name_location source fault = record { name = if fault then None else source.name; position = None }

-- ---- diagnostics

-- the name of a source; empty without one
abbrev pub source_location : Option Source → Bool → BriefLocation
source_location None fault = no_location
source_location (Some source) fault = name_location source fault

-- the location at which the primary label begins, else the name of the first source
abbrev pub chosen_location : Option Source → Bool → Option SpanInSource → BriefLocation
chosen_location source fault None = source_location source fault
chosen_location source fault (Some spot) = span_location spot.source spot.span

-- the location of a diagnostic with these labels by offset and these further sources
abbrev pub diagnostic_location : Option Source → Bool → List Label → List Section → BriefLocation
diagnostic_location source fault labels further = chosen_location source fault (primary_span source labels further)

-- ---- causes

-- the location of a cause: that of its primary label if the label is in bounds and its read succeeds, else that of the
-- diagnostic
abbrev pub cause_location : BriefLocation → Bool → Option SpanInSource → BriefLocation
cause_location at fault None = at
cause_location at fault (Some spot) =
    if is_in_bounds spot.source.bytes spot.span && not fault then span_location spot.source spot.span else at

-- the source of a label
abbrev pub source_of_span : Option SpanInSource → Option Source
source_of_span None = None
source_of_span (Some spot) = Some spot.source
