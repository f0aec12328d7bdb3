-- Findings of `lint` with their codes and proposed fixes.
use Rattle.std.specs.Prelude.{ℕ, List, [], ◌∷◌, ◌++◌, codes, flat_map, slice_range, take_while}
use Rattle.miette_lines.specs.rules.Lines.{Line, lines_of}
use Rattle.miette_protocol.specs.views.Meaning.{Label}
use Rattle.miette_columns.specs.rules.Cells.{Cell}
use Rattle.miette_fixes.specs.rules.Edits.{FixModel}
use Rattle.miette_lint.specs.rules.Findings.{lint_cells_of, is_blank, misplaced_tab, missing_terminator, overlong}
use Rattle.miette_lint.specs.rules.Findings.{trailing_space}
use Rattle.miette_lint.specs.rules.Fixes.{blanks_fix, ending_fix, ending_of, trailing_fix, trimmed}

-- a finding: its code, its label, and the proposed fix, if there is one
pub record FindingWithFixes : Type 0 where
  pub code : List ℕ
  pub label : Label
  pub fixes : List FixModel

-- a finding, if there is a label
abbrev pub coded : List ℕ → List FixModel → List Label → List FindingWithFixes
coded code fixes [] = []
coded code fixes (label ∷ labels) = record { code = code; label = label; fixes = fixes } ∷ []

abbrev pub coded_trailing : ℕ → List ℕ → List FindingWithFixes
coded_trailing end text = coded (codes "trailing-blanks") (trailing_fix end text) (trailing_space end text)

-- if all of a text is blank, the fix for trailing blanks covers this too
abbrev pub coded_tab : ℕ → List ℕ → List FindingWithFixes
coded_tab start text =
    coded (codes "tab-after-space") (blanks_fix start (take_while is_blank (trimmed text))) (misplaced_tab start text)

abbrev pub coded_overlong : ℕ → ℕ → List Cell → List FindingWithFixes
coded_overlong width end cells = coded (codes "wide-line") [] (overlong width end cells)

abbrev pub coded_ending : List ℕ → Line → List Cell → List FindingWithFixes
coded_ending ending l cells = coded (codes "final-terminator") (ending_fix ending l) (missing_terminator l cells)

-- findings of a line with this text
abbrev pub text_coded : ℕ → List ℕ → Line → List ℕ → List Cell → List FindingWithFixes
text_coded width ending l text cells = coded_trailing l.text_end text
    ++ (coded_tab l.start text ++ (coded_overlong width l.text_end cells ++ coded_ending ending l cells))

abbrev pub line_coded : List ℕ → ℕ → List ℕ → Line → List FindingWithFixes
line_coded source width ending l =
    text_coded width ending l (slice_range source l.start l.text_end)
    (lint_cells_of l.start (slice_range source l.start l.text_end))

-- findings of a source
abbrev pub coded_findings : List ℕ → ℕ → List FindingWithFixes
coded_findings source width = flat_map (line_coded source width (ending_of source)) (lines_of source)
