-- The terminator of a source's first line.
use Rattle.std.proofs.Common.{◌≡◌, ◌<◌, ap, sym, ◌∙◌, List, ◌∷◌, subst, ℕ}
use Rattle.std.specs.Prelude.{slice_range}
use Rattle.std.specs.List.{AllByRecursion}
use Rattle.miette_lines.specs.rules.Lines.{lines_of}
use Rattle.miette_lines.specs.declared.lines.LineOfText.{LineOfText}
use Rattle.miette_lines.specs.views.Walking.{RemainingLines, IsFirst, after_line, line_of_text, lines_left}
use Rattle.miette_lint.proofs.Pieces.{IsCutOut, IsEnding, cut_outs}

abbrev whole : List ℕ → RemainingLines
whole source = record { start = 0; bytes = source }

pub first_ends : (source : List ℕ) (rest : RemainingLines) (line : LineOfText) → rest ≡ whole source → IsFirst rest line
    → line.text_end < line.end → IsEnding (slice_range source line.text_end line.end)
first_ends source rest line is first lt =
    let there : lines_of source ≡ line_of_text line ∷ lines_left (after_line rest line) =
    ap lines_left (sym is) ∙ first.lines in
    let all : AllByRecursion (IsCutOut source) (line_of_text line ∷ lines_left (after_line rest line)) =
    subst (AllByRecursion (IsCutOut source)) there (cut_outs source) in
    all.0.ended lt
