use Rattle.miette_style.specs.views.Printouts.{◌⊕◌}
use Rattle.std.proofs.Common.{◌≡◌, ℕ, List, Option, [], ◌∷◌, ◌++◌, ◌∙◌, false, map, ap, sym, option_map, rules}
use Rattle.std.proofs.lemmas.Result.{on_ok_weaker}
use Rattle.miette_style.specs.rules.Rows.{Row}
use Rattle.miette_style.specs.views.Tokens.{rows_tokens}
use Rattle.miette_labels.specs.rules.Answers.{Highlight}
use Rattle.miette_columns.specs.rules.Cells.{Cell}
use Rattle.miette_labels.specs.rules.Labels.{closing_labels}
use Rattle.miette_snippet_rules.specs.rules.CutLines.{LinePart, cut_line, dots, dots_width, row_underlines, shown_runs}
use Rattle.miette_snippet_rules.specs.rules.LabelColumns.{underline_ends, multi_line_ends}
use Rattle.miette_snippet_rules.specs.rules.Underlines.{Underline, marks}
use Rattle.miette_snippet_rules.specs.rules.LabelRows.{underline_rows}
use Rattle.miette_snippet_rules.specs.rules.Gutters.{closing_rows}
use Rattle.miette_snippet_rules.specs.rules.Frames.{other_start}
use Rattle.miette_snippet_rules.specs.rules.Highlighting.{highlight_of}
use Rattle.miette_snippet_rules.specs.rules.SnippetLayout.{before_each, cut_ends, line_cut, line_or_break_of}
use Rattle.miette_snippet_rules.specs.rules.SnippetLayout.{text_of_cells}
use Rattle.miette_snippet_rules.specs.declared.line_part.LinePart.{LinePart as MadePart}
use Rattle.miette_snippet_frames.specs.declared.line_context.LineContext.{LineContext}
use Rattle.miette_snippet_rules.specs.views.Cuts.{made_runs, measure}
use Rattle.miette_snippet_rules.specs.views.MadeUnderlines.{underline_of}
use Rattle.miette_snippet_frames.specs.views.LineContexts.{settings, multi_labels, before_underlines}
use Rattle.miette_layout.specs.steps.ShownLines.{number_row, shown_cells}
use Rattle.miette_layout.specs.steps.ShownLines.{labels_alone}
use Rattle.miette_lines.specs.views.Walking.{line_of_text}
use Rattle.miette_snippet_cuts.proofs.CutStretches.{shown_made_anchored}
use Rattle.miette_snippet_rules.proofs.CutText.{shown_made}
use Rattle.miette_layout.proofs.LineRows.{line_put}
use Rattle.miette_layout.proofs.line.push_line_or_break.Goals as goal
use Rattle.miette_snippet_rules.specs.rules.SnippetLayout.{line_in, line_shown}

-- how the context's line is cut around these marks of it, by the counts of its stretches
abbrev cut_by : LineContext → List Cell → List Underline → Option (List MadePart)
cut_by context cells ms = option_map (map measure) (cut_line (dots_width (settings context).theme.characters)
    (settings context).layout.line_columns (underline_ends ms ++ multi_line_ends (line_of_text context.line)
    (text_of_cells cells context.line.text_end) (multi_labels context)) cells)

pub push_underline_rows-requires : goal.push_underline_rows-requires
push_underline_rows-requires g c =
    let context = c.args.context.now in
    let cells : List Cell = shown_cells context in
    let own : List Underline = marks (text_of_cells cells context.line.text_end) (labels_alone context) in
    let o : Option (List LinePart) = line_cut (settings context) (line_of_text context.line) cells
    (labels_alone context) (multi_labels context) in
    let made : option_map (λ v. v.items) c.in_ok-cut.cut ≡ option_map (map measure) o =
    c.in_ok-cut.ensures ∙ ap (λ ms. cut_by context cells (map underline_of ms)) c.deref.ensures.value
    ∙ ap (cut_by context cells) c.in_ok-whole.ensures.marks in
    rw c.deref-2.ensures.value (shown_made_anchored c.dots_width-dots.result o own c.in_ok-whole.whole.items
    c.in_ok-marks.marks.items c.in_ok-whole.ensures.marks c.in_ok-whole.ensures.anchored
    (c.in_ok-marks.ensures o made ∙ ap (row_underlines c.dots_width-dots.result o) c.in_ok-whole.ensures.marks))

pub returns : goal.returns
returns g c =
    let context = c.args.context.now in
    let cells : List Cell = shown_cells context in
    let pieces : List Highlight = map highlight_of context.pieces.now in
    let own : List Underline = marks (text_of_cells cells context.line.text_end) (labels_alone context) in
    let many : ℕ = dots_width (settings context).theme.characters in
    let o : Option (List LinePart) = line_cut (settings context) (line_of_text context.line) cells
    (labels_alone context) (multi_labels context) in
    let kept : c.args.left_out ≡ false = search rules in
    let drawn : List Underline → List Row = λ ms. before_each (before_underlines context)
    (underline_rows (settings context) ms) in
    let made : option_map (λ v. v.items) c.in_ok-cut.cut ≡ option_map (map measure) o =
    c.in_ok-cut.ensures ∙ ap (λ ms. cut_by context cells (map underline_of ms)) c.deref.ensures.value
    ∙ ap (cut_by context cells) c.in_ok-whole.ensures.marks in
    let text : made_runs (dots (settings context).theme) (option_map (λ v. v.items) c.in_ok-cut.cut) pieces cells
    ≡ shown_runs (dots (settings context).theme) o pieces cells =
    ap (λ x. made_runs (dots (settings context).theme) x pieces cells) made
    ∙ shown_made (dots (settings context).theme) many (settings context).layout.line_columns
    (cut_ends (line_of_text context.line) cells (labels_alone context) (multi_labels context)) cells pieces in
    let moved : map underline_of c.in_ok-marks.marks.items ≡ row_underlines many o own = c.in_ok-marks.ensures o made
    ∙ ap (row_underlines c.dots_width-dots.result o) c.in_ok-whole.ensures.marks
    ∙ ap (λ n. row_underlines n o own) c.dots_width-dots.ensures in
    on_ok_weaker c.push_end_texts.result (λ h.
    line_put (number_row context (shown_runs (dots (settings context).theme) o pieces cells))
    (drawn (row_underlines many o own))
    (before_each (other_start (settings context) context.frame.number_width)
    (closing_rows (settings context) (line_of_text context.line) context.gutter
    (multi_labels context) (closing_labels (line_of_text context.line) (multi_labels context))))
    c.args.page.now c.push_number_row.new.page c.push_underline_rows.new.page c.push_end_texts.new.page
    (c.in_ok-push_number_row.ensures ∙ ap (λ runs. c.args.page.now ⊕ rows_tokens (number_row context runs ∷ []))
    text)
    (c.in_ok-push_underline_rows.ensures ∙ ap (λ ms. c.push_number_row.new.page
    ⊕ rows_tokens (drawn (map underline_of ms))) c.deref-2.ensures.value
    ∙ ap (λ ms. c.push_number_row.new.page ⊕ rows_tokens (drawn ms)) moved)
    h
    ∙ ap (λ out. c.args.page.now ⊕ rows_tokens (line_or_break_of c.args.gap out
    (line_in (settings context) context.frame.number_width context.gutter (line_of_text context.line)
    (multi_labels context))
    (line_shown context.number (labels_alone context) cells pieces))) (sym kept)) c.push_end_texts.ensures
