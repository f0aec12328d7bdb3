-- Lines in the code's types, and the rest of an iteration.
use Rattle.std.specs.Prelude.{ℕ, ◌+◌, ◌-◌, ◌<◌, ◌≤◌, ◌≡◌, List, [], ◌∷◌, length, drop, Option, MatchOption}
use Rattle.miette_lines.specs.rules.Lines.{Line, lines_from}
use Rattle.miette_lines.specs.declared.lines.LineOfText.{LineOfText}

-- a line as a value of the rules
abbrev pub line_of_text : LineOfText → Line
line_of_text l = record { start = l.start; text_end = l.text_end; end = l.end }

-- the remaining bytes, and their offset
pub record RemainingLines : Type 0 where
  pub start : ℕ
  pub bytes : List ℕ

abbrev pub lines_left : RemainingLines → List Line
lines_left rest = lines_from rest.start rest.bytes

-- the rest after a line
abbrev pub after_line : RemainingLines → LineOfText → RemainingLines
after_line rest line = record { start = line.end; bytes = drop (line.end - rest.start) rest.bytes }

-- a line is the first of the rest, and is within the remaining bytes
pub record IsFirst (rest : RemainingLines) (line : LineOfText) : Type 0 where
  pub lines : lines_left rest ≡ line_of_text line ∷ lines_left (after_line rest line)
  pub from : line.start ≡ rest.start
  pub text : line.start ≤ line.text_end
  pub ending : line.text_end ≤ line.end
  pub some : line.start < line.end
  pub to : line.end ≤ rest.start + length rest.bytes

-- a step yields the first line and leaves the rest, or there is none and nothing changes
abbrev pub GivesLine : RemainingLines → Option LineOfText → RemainingLines → Type 0
GivesLine before given after = MatchOption given ((before.bytes ≡ []) × (after ≡ before))
    (λ line. IsFirst before line × (after ≡ after_line before line))
