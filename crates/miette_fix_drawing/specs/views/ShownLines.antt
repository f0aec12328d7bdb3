-- Shown lines in code.
use Rattle.std.specs.Prelude.{ℕ, ◌+◌, ◌-◌, ◌<◌, ◌^◌, length, List, [], ◌∷◌, Option, Some, None}
use Rattle.std.specs.Option.{option_map}
use Rattle.std.specs.List.{flat_map}
use Rattle.miette_fix_rows.specs.rules.Blocks.{line_texts}
use Rattle.miette_fix_rows.specs.rules.DiffFrames.{DiffLine, PairedLine, DiffPosition, kept, removed, added, kept_lines}
use Rattle.miette_fix_rows.specs.rules.DiffFrames.{added_with, paired_line, removed_with}
use Rattle.miette_fix_drawing.specs.declared.segments.Segment.{Segment}
use Rattle.miette_fix_drawing.specs.declared.segments.PairedText.{PairedText}
use Rattle.miette_fix_drawing.specs.declared.segments.DiffLine.{DiffLine as MadeLine}
use Rattle.miette_fix_drawing.specs.declared.segments.DiffLineKind.{DiffLineKind}
use Rattle.miette_fix_drawing.specs.declared.segments.DiffLineKind.TheVariants.{Kept, Removed, Added}

abbrev pub paired_line_of : PairedText → PairedLine
paired_line_of other = paired_line other.text.now other.away

-- a line by its kind
abbrev pub line_by : DiffLineKind → List ℕ → Option PairedLine → DiffLine
line_by Kept text other = kept text
line_by Removed text other = removed text other
line_by Added text other = added text other

abbrev pub line_of_shown : MadeLine → DiffLine
line_of_shown line = line_by line.kind line.text.now (option_map paired_line_of line.other)

-- lines of one kind, with their counterparts
abbrev pub lines_by : DiffLineKind → ℕ → List (List ℕ) → List (List ℕ) → List DiffLine
lines_by Kept away lines others = kept_lines lines
lines_by Removed away lines others = removed_with away lines others
lines_by Added away lines others = added_with away lines others

-- the position of the next counterpart, after one of `size` bytes
abbrev pub away_after : DiffLineKind → ℕ → ℕ → ℕ
away_after Kept away size = away
away_after Removed away size = away + size
away_after Added away size = away - size

abbrev pub away_past : DiffLineKind → ℕ → Option (List ℕ) → ℕ
away_past kind away None = away
away_past kind away (Some text) = away_after kind away (length text)

abbrev pub lines_of_segment : Segment → List DiffLine
lines_of_segment it = lines_by it.kind it.away (line_texts it.lines.now) (line_texts it.others.now)

abbrev pub lines_of_segments : List Segment → List DiffLine
lines_of_segments list = flat_map lines_of_segment list

-- adds a line in front, if there is one
abbrev pub shown_before : Option MadeLine → List DiffLine → List DiffLine
shown_before None rest = []
shown_before (Some line) rest = line_of_shown line ∷ rest

-- adds a line's bytes in front, if there is one
abbrev pub text_before : Option (List ℕ) → List (List ℕ) → List (List ℕ)
text_before None rest = []
text_before (Some text) rest = text ∷ rest

-- the bytes before a line and its own are in range, in each text that contains it
abbrev pub FitsBy : DiffLineKind → DiffPosition → ℕ → Type 0
FitsBy Kept at size = at.old_offset + size < 2 ^ 64
FitsBy Removed at size = at.old_offset + size < 2 ^ 64
FitsBy Added at size = at.new_offset + size < 2 ^ 64

abbrev pub LineFits : DiffPosition → MadeLine → Type 0
LineFits at line = FitsBy line.kind at (length line.text.now)
