-- Sources that were read for commands.
use Rattle.std.specs.Prelude.{◌≡◌, ℕ, ◌<◌, List, Option, Some, None, false, slice_get, ⊤}
use Rattle.std.specs.Option.{option_copied}
use Rattle.miette_protocol.specs.rules.Reading.{Source, Span}
use Rattle.miette_positions.specs.declared.position.PositionEncoding.TheVariants.{Utf16}
use Rattle.miette_positions.specs.rules.Regions.{region_of}
use Rattle.miette_brief.specs.declared.form.BriefForm.{BriefForm}
use Rattle.miette_brief.specs.declared.form.BriefForm.TheVariants.{Gcc, Github}
use Rattle.miette_brief.specs.declared.whole_source.WholeSource.{WholeSource}
use Rattle.miette_brief.specs.declared.whole_source.WholeSource.TheVariants.{Nowhere, Unread, Read}
use Rattle.miette_brief.specs.declared.whole_source.NamedPositions.{NamedPositions}
use Rattle.miette_brief.specs.rules.Commands.{FileLocation}
use Rattle.miette_brief.specs.rules.Github.{named_file_location}
use Rattle.miette_brief.specs.rules.LocatedLabels.{LocatedLabel}

-- the name and the bytes of a source; positions are in UTF-16
pub record IsPositionsOf (source : Source) (it : NamedPositions) : Type 0 where
  pub name : option_copied it.name ≡ source.name
  pub index : it.index ≡ record { source = source.bytes; encoding = Utf16 }

-- the result of reading a source, or none
abbrev pub IsWholeSource : Option Source → WholeSource → Type 0
IsWholeSource None Nowhere = ⊤
IsWholeSource None Unread = ⊥
IsWholeSource None (Read text) = ⊥
IsWholeSource (Some source) Nowhere = ⊥
IsWholeSource (Some source) Unread = source.always_reads ≡ false
IsWholeSource (Some source) (Read text) = IsPositionsOf source text

-- the location of a span in a source that was read; none if the read was refused
abbrev pub file_location_over : WholeSource → Span → Option (Option FileLocation)
file_location_over Nowhere span = Some None
file_location_over Unread span = None
file_location_over (Read text) span = Some (named_file_location (option_copied text.name)
    (region_of text.index.encoding text.index.source
    span))

-- the result of reading a report's own source, if it has one
abbrev pub IsOwn : Option Source → Option WholeSource → Type 0
IsOwn None None = ⊤
IsOwn None (Some it) = ⊥
IsOwn (Some source) None = ⊥
IsOwn (Some source) (Some it) = IsWholeSource (Some source) it

-- the commands' format reads sources as a whole; GCC's format needn't
abbrev pub IsWholeIn : BriefForm → Option Source → WholeSource → Type 0
IsWholeIn Gcc source it = ⊤
IsWholeIn Github source it = IsWholeSource source it

abbrev pub IsOwnIn : BriefForm → Option Source → Option WholeSource → Type 0
IsOwnIn Gcc source own = ⊤
IsOwnIn Github source own = IsOwn source own

-- the first `n` labels are over this source
abbrev pub AreOver : Option Source → ℕ → List LocatedLabel → Type 0
AreOver source n its = (at : ℕ) (it : LocatedLabel) → at < n → slice_get its at ≡ Some it → it.source ≡ source
