-- The row of an unchanged line.
use Rattle.miette_style.specs.views.Printouts.{Printout, ◌⊕◌}
use Rattle.std.proofs.Common.{ℕ, ◌+◌, ◌≡◌, List, [], ◌∷◌, ◌++◌, map, Option, option_map, ap, ◌∙◌}
use Rattle.miette_style.specs.rules.Rows.{Run}
use Rattle.miette_style.specs.views.Tokens.{row_end, row_tokens, rows_tokens}
use Rattle.miette_columns.specs.rules.Cells.{Cell}
use Rattle.miette_snippet_rules.specs.rules.CutLines.{cut_line, dots, dots_width, shown_runs}
use Rattle.miette_snippet_rules.specs.rules.Frames.{number_start}
use Rattle.miette_snippet_rules.specs.rules.SnippetSettings.{SnippetSettings}
use Rattle.miette_snippet_rules.specs.declared.line_part.LinePart.{LinePart as MadePart}
use Rattle.miette_snippet_rules.specs.views.Cuts.{made_runs, measure}
use Rattle.miette_snippet_rules.proofs.CutText.{shown_made}
use Rattle.miette_snippet_frames.proofs.TextRows.{parts_then, row_done}
use Rattle.miette_fix_rows.specs.rules.DiffFrames.{DiffPosition}
use Rattle.miette_fix_rows.specs.rules.DiffRows.{kept_row}
use Rattle.miette_fix_rows.specs.rules.DiffTexts.{line_cells}

pub kept_put : (s : SnippetSettings) (w number : ℕ) (at : DiffPosition) (line : List ℕ) (many : ℕ) (cells : List Cell)
    (cut : Option (List MadePart)) (p a t n : Printout) → number ≡ at.old_line + 1
    → many ≡ dots_width s.theme.characters → cells ≡ line_cells s at.old_offset line
    → cut ≡ option_map (map measure) (cut_line many s.layout.line_columns [] cells)
    → a ≡ p ⊕ row_tokens (number_start s w number) → t ≡ a ⊕ row_tokens (made_runs (dots s.theme) cut [] cells)
    → n ≡ t ⊕ row_end ∷ []
    → n ≡ p ⊕ rows_tokens (kept_row s w at line ∷ [])
kept_put s w number at line many cells cut p a t n hnumber hmany hcells hcut ha ht hn =
    let run : Run = dots s.theme in
    let runs : List Cell → List Run =
    λ cs. shown_runs run (cut_line (dots_width s.theme.characters) s.layout.line_columns [] cs) [] cs in
    let shown : made_runs run cut [] cells ≡ runs cells =
    ap (λ x. made_runs run x [] cells) hcut
    ∙ ap (λ k. made_runs run (option_map (map measure) (cut_line k s.layout.line_columns [] cells)) [] cells) hmany
    ∙ shown_made run (dots_width s.theme.characters) s.layout.line_columns [] cells [] in
    row_done (number_start s w number ++ made_runs run cut [] cells) p t n
    (parts_then (number_start s w number) (made_runs run cut [] cells) p a t ha ht) hn
    ∙ ap (λ row. p ⊕ rows_tokens ((number_start s w number ++ row) ∷ [])) shown
    ∙ ap (λ k. p ⊕ rows_tokens ((number_start s w k ++ runs cells) ∷ [])) hnumber
    ∙ ap (λ cs. p ⊕ rows_tokens ((number_start s w (at.old_line + 1) ++ runs cs) ∷ [])) hcells
