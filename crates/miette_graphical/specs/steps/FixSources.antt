-- The source of fixes in code: which source it is, and whether the read for fixes failed.
use Rattle.std.specs.Prelude.{◌≡◌, Bool, true, false, List, [], Option, Some, None}
use Rattle.std.specs.Option.{option_copied}
use Rattle.miette_fixes.specs.rules.Edits.{Replacement}
use Rattle.miette_fix_rows.specs.rules.DiffRows.{fix_rows}
use Rattle.miette_style.specs.rules.Rows.{Row}
use Rattle.miette_protocol.specs.rules.Reading.{Source}
use Rattle.miette_snippet_rules.specs.rules.SnippetSettings.{SnippetSettings}
use Rattle.miette_graphical.specs.declared.fixes.FixSource.{FixSource}
use Rattle.miette_graphical.specs.declared.fixes.FixSource.TheVariants as given

abbrev pub IsGivenOver : {S : Type 0} → FixSource S → Option Source → Bool → Type 0
IsGivenOver given.NoSource source fails = source ≡ None
IsGivenOver given.Unread source fails = (whole : Source) × (source ≡ Some whole) × (fails ≡ true)
IsGivenOver (given.Whole it) source fails = (whole : Source) × (source ≡ Some whole) × (fails ≡ false)
    × (whole.bytes ≡ it.bytes.now) × (whole.name ≡ option_copied it.name)

-- a source that was read as a whole is asked for line numbers
abbrev pub AsksItself : {S : Type 0} → (S → Source) → FixSource S → Type 0
AsksItself is given.NoSource = Unit {0}
AsksItself is given.Unread = Unit {0}
AsksItself is (given.Whole it) = (is it.asked.now).bytes ≡ it.bytes.now

-- the rows of edits over a source; the flag says whether its read failed; none without a source
abbrev pub fix_rows_over : SnippetSettings → Option Source → Bool → List Replacement → List Row
fix_rows_over s None fails edits = []
fix_rows_over s (Some source) fails edits = fix_rows s source fails edits
