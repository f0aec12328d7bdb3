-- Making frames.
use Rattle.std.specs.Prelude.{ℕ, ◌≡◌, ◌≤◌, List, [], ◌∷◌, ◌++◌, Some, option_copied, true}
use Rattle.std.specs.Prelude.{false}
use Rattle.miette_style.specs.rules.Rows.{Row}
use Rattle.miette_snippet_rules.specs.rules.Frames.{top_row_of, bottom_row}
use Rattle.miette_snippet_rules.specs.views.SnippetSettings.{settings_of}
use Rattle.miette_fix_rows.specs.rules.Hunks.{Hunk}
use Rattle.miette_fix_rows.specs.rules.DiffFrames.{DiffFrame, first_place, is_near_hunk}
use Rattle.miette_fix_rows.specs.rules.DiffRows.{DiffContext, frame_width, place_at, rows_of_diff_lines}
use Rattle.miette_fix_drawing.specs.declared.frames.FixDrawing.{FixDrawing}

-- the rows of a frame, drawn with the settings of a fix
abbrev pub context_over : FixDrawing → ℕ → DiffContext
context_over drawing width = record {
  settings = settings_of drawing.settings;
  number_width = width;
  deleted = drawing.deleted.now;
  inserted = drawing.inserted.now;
}

abbrev pub drawn_frame : FixDrawing → DiffFrame → List Row
drawn_frame drawing frame =
    top_row_of (settings_of drawing.settings) (frame_width frame) (option_copied drawing.name) true
    (Some (place_at drawing.source.now frame.place))
    ∷ rows_of_diff_lines (context_over drawing (frame_width frame)) frame.at frame.lines
    ++ bottom_row (settings_of drawing.settings) (frame_width frame) ∷ []

abbrev pub drawn_frames : FixDrawing → List DiffFrame → List Row
drawn_frames drawing [] = []
drawn_frames drawing (frame ∷ frames) = drawn_frame drawing frame ++ drawn_frames drawing frames

-- the first hunk, if there is one, begins a new frame
abbrev pub IsFar : ℕ → List Hunk → Type 0
IsFar context [] = Unit {0}
IsFar context (hunk ∷ hunks) = is_near_hunk context hunk ≡ false

-- frames point into the source
abbrev pub PointsWithin : ℕ → Hunk → Type 0
PointsWithin size hunk = first_place hunk.changes ≤ size
