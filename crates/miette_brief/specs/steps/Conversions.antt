-- Locations, kinds of lines and sources of fixes, from the code to the definitions.
use Rattle.std.specs.Prelude.{Bool, true, false, List, Option}
use Rattle.std.specs.Option.{option_copied}
use Rattle.miette_protocol.specs.rules.Reading.{Span}
use Rattle.miette_protocol.specs.views.Meaning.{Label}
use Rattle.miette_brief.specs.declared.rows.BriefLocation.{BriefLocation as GivenPlace}
use Rattle.miette_brief.specs.declared.primary.LabelChoice.{LabelChoice}
use Rattle.miette_brief.specs.declared.primary.LabelChoice.TheVariants.{Marked, First}
use Rattle.miette_brief.specs.declared.primary.PrimaryRead.{PrimaryRead}
use Rattle.miette_brief.specs.declared.primary.PrimaryRead.TheVariants as found
use Rattle.miette_brief.specs.declared.rows.RowKind.{RowKind as GivenKind}
use Rattle.miette_brief.specs.declared.rows.RowKind.TheVariants as given
use Rattle.miette_brief.specs.declared.fix_its.FixIt.{FixIt as GivenFixIt}
use Rattle.miette_brief.specs.declared.fixes.BriefFixSource.{BriefFixSource}
use Rattle.miette_brief.specs.declared.fixes.BriefFixSource.TheVariants as over
use Rattle.miette_brief.specs.rules.FixIts.{FixIt}
use Rattle.miette_brief.specs.rules.Fixes.{BriefFixOrigin, no_source, unread, read}
use Rattle.miette_brief.specs.rules.Locations.{first_in, marked_in}
use Rattle.miette_brief.specs.rules.Rows.{BriefLocation, RowKind, finding, note, cause, help, fix, failure}

abbrev pub brief_location_of : GivenPlace → BriefLocation
brief_location_of it = record { name = option_copied it.name; position = it.position }

-- the span of the label that a rule picks; labels by offset
abbrev pub chosen_in : LabelChoice → List Label → Option Span
chosen_in Marked = marked_in
chosen_in First = first_in

-- whether there is a primary label
abbrev pub is_label : PrimaryRead → Bool
is_label found.Nothing = false
is_label found.Unread = true
is_label (found.At at) = true

abbrev pub row_kind_of : GivenKind → RowKind
row_kind_of (given.Finding severity code) = finding severity (option_copied code)
row_kind_of given.Note = note
row_kind_of given.Cause = cause
row_kind_of given.Help = help
row_kind_of given.Fix = fix
row_kind_of given.Failure = failure

abbrev pub fix_it_of : GivenFixIt → FixIt
fix_it_of it = record { name = option_copied it.name; start = it.start; end = it.end; text = it.text.now }

-- the source that fixes apply to
abbrev pub brief_origin_of : BriefFixSource → BriefFixOrigin
brief_origin_of over.Nowhere = no_source
brief_origin_of over.Unread = unread
brief_origin_of (over.Read text) = read (option_copied text.name) text.lines.now
