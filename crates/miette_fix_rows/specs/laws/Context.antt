-- Which lines of a diff are shown.
use Rattle.std.specs.Prelude.{ℕ, List, [], ◌∷◌, ◌++◌, take, Bool, true, false, ◌||◌, if◌then◌else◌}
use Rattle.std.specs.List.{list_any}
use Rattle.miette_fix_rows.specs.rules.DiffFrames.{DiffFrame, DiffLine, kept, removed, added}

abbrev pub is_changed : DiffLine → Bool
is_changed (kept text) = false
is_changed (removed text other) = true
is_changed (added text other) = true

-- Whether a line is shown: it is changed, or one of the context lines before or after it is. The lines before it are
-- given from the last one back.
abbrev pub is_near_change : ℕ → List DiffLine → DiffLine → List DiffLine → Bool
is_near_change context before line after =
    is_changed line || (list_any is_changed (take context before) || list_any is_changed (take context after))

-- the shown lines, each once, in order
abbrev pub shown_after : ℕ → List DiffLine → List DiffLine → List DiffLine
shown_after context before [] = []
shown_after context before (line ∷ lines) =
    if is_near_change context before line lines then line ∷ shown_after context (line ∷ before) lines
    else shown_after context (line ∷ before) lines

abbrev pub shown_lines : ℕ → List DiffLine → List DiffLine
shown_lines context lines = shown_after context [] lines

-- the lines of all frames, in order
abbrev pub lines_of_frames : List DiffFrame → List DiffLine
lines_of_frames [] = []
lines_of_frames (frame ∷ frames) = frame.lines ++ lines_of_frames frames
