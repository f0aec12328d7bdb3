use Rattle.std.proofs.Common.{◌≡◌, ◌∷◌, [], ◌∙◌, sym, ap, rules}
use Rattle.miette_columns.specs.views.Walking.{cell_of}
use Rattle.miette_snippet_rules.specs.steps.ColumnStops.{column_in}
use Rattle.miette_snippet_rules.proofs.StopColumns.{found_at, passed_by}
use Rattle.miette_snippet_rules.proofs.line_underlines.column_among.Goals as goal

pub returns-then-stops_at : goal.returns-then-stops_at
returns-then-stops_at c =
    let step : c.loop-cell.walk ≡ cell_of c.in-Some.cell ∷ c.next.new.self = search rules in
    λ text_end width. found_at c.args.rounding c.in-Some.cell c.loop-cell.walk c.next.new.self text_end width
    c.args.offset step (sym c.stops_at.ensures ∙ c.if-stops_at.true) ∙ c.loop-cell.invariant text_end width

pub loop-cell-preserved : goal.loop-cell-preserved
loop-cell-preserved c =
    let step : c.loop-cell.walk ≡ cell_of c.in-Some.cell ∷ c.next.new.self = search rules in
    λ text_end width. passed_by c.args.rounding c.in-Some.cell c.loop-cell.walk c.next.new.self text_end width
    c.args.offset step (sym c.stops_at.ensures ∙ c.if-stops_at.false) ∙ c.loop-cell.invariant text_end width

pub returns : goal.returns
returns c =
    let done : c.loop-cell.walk ≡ [] = search rules in
    λ text_end width. ap (λ cs. column_in c.args.rounding cs text_end width c.args.offset) (sym done)
    ∙ c.loop-cell.invariant text_end width
