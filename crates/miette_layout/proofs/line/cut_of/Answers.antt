use Rattle.std.proofs.Common.{◌++◌, ◌∙◌, ℕ, List, Option, Some, map, ap, option_map, sym}
use Rattle.std.proofs.lemmas.Result.{IfOk-weaker}
use Rattle.miette_columns.specs.rules.Cells.{Cell}
use Rattle.miette_snippet_rules.specs.rules.LabelColumns.{underline_ends, multi_line_ends}
use Rattle.miette_snippet_rules.specs.rules.CutLines.{cut_line, dots_width}
use Rattle.miette_snippet_rules.specs.rules.SnippetLayout.{text_of_cells}
use Rattle.miette_snippet_rules.specs.views.MadeUnderlines.{underline_of}
use Rattle.miette_lines.specs.views.Walking.{line_of_text}
use Rattle.miette_snippet_rules.specs.views.Cuts.{measure}
use Rattle.miette_snippet_rules.specs.views.LineTexts.{text_cells}
use Rattle.miette_snippet_frames.specs.views.LineContexts.{settings, multi_labels}
use Rattle.miette_layout.proofs.line.cut_of.Goals as goal

pub returns : goal.returns
returns c =
    let context = c.args.context.now in
    let cells : List Cell = text_cells c.args.text.now in
    let most : Option ℕ = Some c.in-Some._limit in
    let ends : List ℕ = underline_ends (map underline_of c.args.marks.now)
    ++ multi_line_ends (line_of_text context.line)
    (text_of_cells cells context.line.text_end) (multi_labels context) in
    IfOk-weaker c.cut_long_line.result _ _ (λ cut h. h
    ∙ ap (λ es. option_map (map measure) (cut_line c.dots_width-dots.result most es cells))
    (c.deref.ensures.value ∙ c.in_ok-ends.ensures)
    ∙ ap (λ n. option_map (map measure) (cut_line n most ends cells)) c.dots_width-dots.ensures
    ∙ ap (λ (o : Option ℕ). option_map (map measure) (cut_line (dots_width (settings context).theme.characters) o ends
    cells)) (sym c.in-Some.is)) c.cut_long_line.ensures

pub returns-in_default : goal.returns-in_default
returns-in_default c =
    let context = c.args.context.now in
    let cells : List Cell = text_cells c.args.text.now in
    ap (λ (o : Option ℕ). option_map (map measure) (cut_line (dots_width (settings context).theme.characters) o
    (underline_ends (map underline_of c.args.marks.now) ++ multi_line_ends (line_of_text context.line)
    (text_of_cells cells context.line.text_end) (multi_labels context)) cells)) (sym c.in_default.is)
