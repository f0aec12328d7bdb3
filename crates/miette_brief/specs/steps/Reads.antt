-- Results of the reads for locations.
use Rattle.std.specs.Prelude.{◌≡◌, List, Option, Some, None, Bool, false, ◌&&◌, ⊤}
use Rattle.miette_lines.specs.declared.near.KnownLines.{KnownLines}
use Rattle.miette_lines.specs.views.Known.{IsKnown}
use Rattle.miette_protocol.specs.views.Meaning.{Label}
use Rattle.miette_protocol.specs.rules.Reading.{Span, Source, IsInBounds}
use Rattle.miette_brief.specs.rules.Rows.{BriefLocation}
use Rattle.miette_labels.specs.rules.Groups.{in_order}
use Rattle.miette_tree.specs.rules.Diagnosis.{Diagnosis, Section}
use Rattle.miette_tree.specs.rules.DiagnosticParts.{given_labels}
use Rattle.miette_brief.specs.rules.Locations.{span_location, name_location, source_location, diagnostic_location}
use Rattle.miette_brief.specs.rules.Locations.{cause_location, SpanInSource}
use Rattle.miette_brief.specs.rules.Locations.{source_of_span}
use Rattle.miette_tree.specs.rules.Reads.{MayMeet, accepts, further_pass}
use Rattle.miette_brief.specs.declared.primary.PrimaryRead.{PrimaryRead}
use Rattle.miette_brief.specs.declared.primary.PrimaryRead.TheVariants as found
use Rattle.miette_brief.specs.steps.Conversions.{brief_location_of}

-- a refused read: its span is out of bounds, or its source doesn't always read
abbrev pub IsRefusedRead : Option Source → Span → Type 0
IsRefusedRead None span = ⊥
IsRefusedRead (Some source) span = IsInBounds source.bytes span → source.always_reads ≡ false

-- whether all labels of a diagnostic are in bounds, over its own source and over further ones
abbrev pub brief_labels_accepted : Option Source → Diagnosis → Bool
brief_labels_accepted source m = accepts source (in_order (given_labels m.labels)) && further_pass accepts m.snippets

-- the span was read, if there is a source
abbrev pub IsReadAt : Option Source → Span → Type 0
IsReadAt None span = ⊤
IsReadAt (Some source) span = IsInBounds source.bytes span

-- the known lines are those of the source; without a source there are none
abbrev pub AreKnown : Option Source → KnownLines → Type 0
AreKnown None known = ⊤
AreKnown (Some source) known = IsKnown source.bytes known.first × IsKnown source.bytes known.last

-- the result of reading a span: its location, or a refusal
abbrev pub IsBegin : Source → Span → Option BriefLocation → Type 0
IsBegin source span None = IsRefusedRead (Some source) span
IsBegin source span (Some at) = IsInBounds source.bytes span × (at ≡ span_location source span)

-- the label was refused, or it is at this location
pub record IsSpanUnread (primary : Option SpanInSource) : Type 0 where
  pub spot : SpanInSource
  pub is : primary ≡ Some spot
  pub unread : IsRefusedRead (Some spot.source) spot.span

pub record IsSpanAt (primary : Option SpanInSource) (at : BriefLocation) : Type 0 where
  pub spot : SpanInSource
  pub is : primary ≡ Some spot
  pub begin : IsBegin spot.source spot.span (Some at)

-- the result of reading the primary label
abbrev pub IsPrimaryRead : Option SpanInSource → PrimaryRead → Type 0
IsPrimaryRead primary found.Nothing = primary ≡ None
IsPrimaryRead primary found.Unread = IsSpanUnread primary
IsPrimaryRead primary (found.At at) = IsSpanAt primary (brief_location_of at)

-- the location has only the source's name, for some answer
pub record IsNameLocation (source : Source) (at : BriefLocation) : Type 0 where
  pub fault : Bool
  pub possible : MayMeet (Some source) fault
  pub is : at ≡ name_location source fault

-- the location of a source without a label, for some answer
pub record IsSourceLocation (source : Option Source) (at : BriefLocation) : Type 0 where
  pub fault : Bool
  pub possible : MayMeet source fault
  pub is : at ≡ source_location source fault

-- the location of a diagnostic with these labels by offset and these further sources, for some answer
pub record IsDiagnosticLocation (source : Option Source) (labels : List Label) (further : List Section)
    (at : BriefLocation)
    : Type 0 where
  pub fault : Bool
  pub possible : MayMeet source fault
  pub is : at ≡ diagnostic_location source fault labels further

-- the location of a cause with this primary label, or none, below a diagnostic at `at`, for some answer
pub record IsCauseLocation (at : BriefLocation) (primary : Option SpanInSource) (own : BriefLocation) : Type 0 where
  pub fault : Bool
  pub possible : MayMeet (source_of_span primary) fault
  pub is : own ≡ cause_location at fault primary
