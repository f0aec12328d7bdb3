use Rattle.std.proofs.Common.{◌+◌, ◌∙◌, ap, length, List, map, ℕ, false}
use Rattle.std.proofs.lemmas.Result.{IfOk-weaker}
use Rattle.miette_columns.specs.rules.Cells.{cells_from, characters}
use Rattle.miette_columns.specs.rules.Widths.{width_of}
use Rattle.miette_labels.specs.views.ProgramLabels.{drawn_of}
use Rattle.miette_snippet_rules.specs.rules.Underlines.{MeasuredText, marks}
use Rattle.miette_snippet_rules.specs.rules.SnippetLayout.{text_of_cells}
use Rattle.miette_fix_rows.specs.rules.DiffTexts.{parts_in}
use Rattle.miette_fix_drawing.proofs.edit_underline_row.edit_underlines.Goals as goal

pub returns : goal.returns
returns c =
    let start : ℕ = c.args.line.now.start in
    let line : List ℕ = c.args.line.now.text.now in
    let tab : ℕ = c.args.settings.now.layout.now.tab_width in
    let text : List ℕ → MeasuredText =
    λ bytes. text_of_cells (cells_from width_of tab false start 0 (characters bytes)) (start + length bytes) in
    IfOk-weaker c.underlines_on.result _ _ (λ _ h. h
    ∙ ap (λ ps. marks (text c.strip_terminator-text.result.now) (map drawn_of ps)) c.deref.ensures.value
    ∙ ap (marks (text c.strip_terminator-text.result.now)) c.in_ok-parts.ensures
    ∙ ap (λ bytes. marks (text bytes) (parts_in start (length line) c.args.line.now.style c.args.line.now.spans.now))
    c.strip_terminator-text.ensures.text) c.underlines_on.ensures.is
