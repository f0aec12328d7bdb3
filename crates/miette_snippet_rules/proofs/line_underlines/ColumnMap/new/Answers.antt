use Rattle.std.proofs.Common.{◌+◌, ◌∙◌, ℕ, List, false, ap, drop, length, subst, sym, take, arith}
use Rattle.miette_columns.specs.rules.Cells.{Cell, cells_from, characters}
use Rattle.miette_columns.specs.rules.Widths.{width_of}
use Rattle.miette_snippet_rules.specs.rules.PrintedCells.{cells_width}
use Rattle.miette_snippet_rules.specs.views.LineScans.{ComeFrom}
use Rattle.miette_snippet_rules.proofs.PassedCells.{cells_come}
use Rattle.miette_snippet_rules.proofs.PlainText.{plain_text}
use Rattle.miette_snippet_rules.proofs.line_underlines.ColumnMap.new.Goals as goal

pub stops_of-requires : goal.stops_of-requires
stops_of-requires c =
    subst (λ (cs : List Cell). ComeFrom 0 cs) (sym (c.copy.ensures ∙ c.from_column-whole.ensures))
    (cells_come width_of c.args.tab false _ _ _)

pub returns : goal.returns
returns c =
    let n : ℕ = length c.split_at.result.0.now in
    let text : List ℕ = c.args.text.now in
    plain_text c.args.tab c.args.line.now.start c.args.line.now.text_end n c.in_ok-stops.width text
    c.split_at.result.0.now c.from_column-whole.result
    (omega (arith, c.split_at.ensures.front_len, c.plain_len.ensures.within))
    (c.split_at.ensures.front_len ∙ c.plain_len.ensures.len)
    (c.split_at.ensures.front ∙ ap (λ k. take k text) (sym c.split_at.ensures.front_len))
    (c.from_column-whole.ensures ∙ ap (λ bs. cells_from width_of c.args.tab false (c.args.line.now.start + n) n
    (characters bs)) (c.split_at.ensures.back ∙ ap (λ k. drop k text) (sym c.split_at.ensures.front_len)))
    (c.in_ok-stops.ensures.width ∙ ap (cells_width n) c.copy.ensures)
