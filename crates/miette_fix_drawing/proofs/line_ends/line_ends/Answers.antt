use Rattle.std.proofs.Common.{◌+◌, ◌∙◌, ap, length, List, ℕ, false}
use Rattle.std.specs.List.{filter}
use Rattle.std.proofs.lemmas.Result.{IfOk-weaker}
use Rattle.miette_columns.specs.rules.Cells.{cells_from, characters}
use Rattle.miette_columns.specs.rules.Widths.{width_of}
use Rattle.miette_snippet_rules.specs.rules.Underlines.{MeasuredText}
use Rattle.miette_snippet_rules.specs.rules.SnippetLayout.{text_of_cells}
use Rattle.miette_snippet_rules.specs.views.SnippetSettings.{settings_of}
use Rattle.miette_fix_rows.specs.rules.DiffTexts.{is_on}
use Rattle.miette_fix_drawing.specs.steps.Ends.{all_ends}
use Rattle.miette_fix_drawing.proofs.LineEnds.{all_alike}
use Rattle.miette_fix_drawing.proofs.line_ends.line_ends.Goals as goal

pub returns : goal.returns
returns c =
    let start : ℕ = c.args.line.now.start in
    let line : List ℕ = c.args.line.now.text.now in
    let tab : ℕ = c.args.settings.now.layout.now.tab_width in
    let on = filter (is_on start line) c.args.line.now.spans.now in
    IfOk-weaker c.ends_in.result _ _ (λ _ h. h
    ∙ ap (λ (t : MeasuredText). all_ends t start (length line) on) c.in_ok-columns.ensures
    ∙ ap (λ bytes. all_ends (text_of_cells (cells_from width_of tab false start 0 (characters bytes))
    (start + length bytes)) start (length line) on) c.strip_terminator-text.ensures.text
    ∙ all_alike (settings_of c.args.settings.now) start line on) c.ends_in.ensures
