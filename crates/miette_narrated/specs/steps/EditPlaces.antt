-- Positions of edits, as the code has them.
use Rattle.std.specs.Prelude.{ℕ, ◌≡◌, List, [], drop, slice_get, slice_range}
use Rattle.std.specs.Option.{option_map_or}
use Rattle.miette_lines.specs.rules.Lines.{lines_from}
use Rattle.miette_narrated.specs.declared.edit_places.EditPlace.{EditPlace as GivenPlace}
use Rattle.miette_narrated.specs.declared.edit_places.CachedLine.{CachedLine}
use Rattle.miette_narrated.specs.rules.Fixes.{EditPlace}

abbrev pub place_view : GivenPlace → EditPlace
place_view at = record { line = at.line; before = at.before }

-- the text of the line that begins at an offset
abbrev pub line_text_at : List ℕ → ℕ → List ℕ
line_text_at bytes start =
    option_map_or (λ l. slice_range bytes l.start l.text_end) (slice_get (lines_from start (drop start bytes)) 0) []

-- the cached columns are those of the line that begins at the cached offset
abbrev pub IsCachedLine : List ℕ → CachedLine → Type 0
IsCachedLine bytes kept = kept.columns ≡ line_text_at bytes kept.start
