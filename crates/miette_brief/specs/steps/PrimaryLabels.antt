-- The primary label that was found, and the file locations that reads gave.
use Rattle.std.specs.Prelude.{◌≡◌, ℕ, List, Option, Some, None, Bool, slice_get}
use Rattle.std.specs.Option.{option_map_or}
use Rattle.miette_protocol.specs.rules.Reading.{Source}
use Rattle.miette_tree.specs.rules.Reads.{MayMeet}
use Rattle.miette_brief.specs.rules.Commands.{FileLocation}
use Rattle.miette_brief.specs.rules.Github.{named_file_location, primary_file_location}
use Rattle.miette_brief.specs.rules.LocatedLabels.{LocatedLabel}
use Rattle.miette_brief.specs.rules.Locations.{SpanInSource, span_in_source, source_location}

-- the span of a label in its source, if it has one
abbrev pub span_of_label : LocatedLabel → Option SpanInSource
span_of_label it = span_in_source it.source (Some it.label.span)

-- the same for the label at an index
abbrev pub span_at : Option ℕ → List LocatedLabel → Option SpanInSource
span_at None its = None
span_at (Some at) its = option_map_or span_of_label (slice_get its at) None

-- the location of a source without a label, for some answer
pub record IsSourceFileLocation (source : Option Source) (site : Option FileLocation) : Type 0 where
  pub fault : Bool
  pub possible : MayMeet source fault
  pub is : site ≡ named_file_location (source_location source fault).name None

-- the location of a diagnostic with this primary label, or none, for some answer
pub record IsPrimaryFileLocation (source : Option Source) (primary : Option SpanInSource) (site : Option FileLocation)
    : Type 0 where
  pub fault : Bool
  pub possible : MayMeet source fault
  pub is : site ≡ primary_file_location source fault primary
