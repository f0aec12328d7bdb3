use Rattle.std.proofs.Common.{◌+◌, ◌<◌, ◌^◌, ◌∙◌, ◌++◌, ℕ, List, false, length, map, ap, sym, subst}
use Rattle.miette_columns.specs.rules.Cells.{cells_from, characters}
use Rattle.miette_columns.specs.rules.Widths.{width_of}
use Rattle.miette_lines.specs.views.Walking.{line_of_text}
use Rattle.miette_labels.specs.views.ProgramLabels.{drawn_of}
use Rattle.miette_snippet_rules.specs.rules.LabelColumns.{underline_ends, multi_line_ends}
use Rattle.miette_snippet_rules.specs.rules.Underlines.{MeasuredText}
use Rattle.miette_snippet_rules.specs.rules.SnippetLayout.{text_of_cells}
use Rattle.miette_snippet_rules.specs.views.MadeUnderlines.{underline_of}
use Rattle.miette_snippet_rules.proofs.EndColumns.{ends_alone}
use Rattle.miette_snippet_rules.proofs.label_columns.label_columns_of.Goals as goal

pub new-requires : goal.new-requires
new-requires c = subst (λ n. n + length c.args.text.now.bytes.now < 2 ^ 64) c.requires.start c.requires.fits

pub returns-then-some_touches : goal.returns-then-some_touches
returns-then-some_touches c =
    let own : List ℕ = underline_ends (map underline_of c.args.marks.now) in
    c.in_ok-push_multi_line_ends.ensures
    ∙ ap (λ xs. xs ++ multi_line_ends (line_of_text c.args.line.now) c.in_ok-columns.columns
    (map drawn_of c.args.multi_line.now))
    (c.in_ok-push_underline_ends.ensures ∙ ap (λ xs. xs ++ own) c.new-ends.ensures.items)
    ∙ ap (λ (t : MeasuredText). own ++ multi_line_ends (line_of_text c.args.line.now) t
    (map drawn_of c.args.multi_line.now))
    (c.in_ok-columns.ensures
    ∙ ap (λ n. text_of_cells (cells_from width_of c.args.text.now.tab false n 0 (characters c.args.text.now.bytes.now))
    c.args.line.now.text_end) (sym c.requires.start))

pub returns : goal.returns
returns c =
    ends_alone (line_of_text c.args.line.now) _ c.args.multi_line.now c.some_touches.result
    (underline_ends (map underline_of c.args.marks.now)) c.push_underline_ends.new.ends.items c.some_touches.ensures
    c.if-some_touches.false
    (c.in_ok-push_underline_ends.ensures
    ∙ ap (λ xs. xs ++ underline_ends (map underline_of c.args.marks.now)) c.new-ends.ensures.items)
