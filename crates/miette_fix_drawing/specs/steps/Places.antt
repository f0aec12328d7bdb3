-- Positions in a source.
use Rattle.std.specs.Prelude.{ℕ, ◌+◌, ◌≡◌, ◌≤◌, List, drop, length, take}
use Rattle.miette_protocol.specs.rules.Reading.{Source}
use Rattle.miette_lines.specs.rules.Lines.{line_of}
use Rattle.miette_fix_drawing.specs.declared.hunks.Hunk.{Hunk}
use Rattle.miette_fix_drawing.specs.declared.cursor.Cursor.{Cursor}

-- a cursor knows the line number of its offset, and its source has these bytes
pub record IsCursor {S : Type 0} (is : S → Source) (source : List ℕ) (cursor : Cursor S) : Type 0 where
  pub within : cursor.offset ≤ length source
  pub line : cursor.line ≡ line_of source cursor.offset
  pub asked : (is cursor.asked.now).bytes ≡ source

-- the unchanged lines before a hunk's changes are in the source at the hunk's offset
pub record HunkIsIn (source : List ℕ) (hunk : Hunk) : Type 0 where
  pub kept : hunk.kept.now ≡ take (length hunk.kept.now) (drop hunk.at source)
  pub within : hunk.at + length hunk.kept.now ≤ length source
