use Rattle.std.proofs.Common.{◌≡◌, ◌∷◌, ◌-◌, ◌∙◌, ap, rules}
use Rattle.miette_columns.specs.views.Walking.{cell_of}
use Rattle.miette_snippet_rules.proofs.CellPrints.{within_more, beyond_more, within_end, beyond_end}
use Rattle.miette_snippet_rules.proofs.cells.push_cells_within.Goals as goal

pub loop-left-preserved : goal.loop-left-preserved
loop-left-preserved g c =
    let step : c.loop-left.walk ≡ cell_of c.in-Some.cell ∷ c.next.new.self = search rules in
    let less = c.saturating_sub-left.ensures ∙ ap (λ k. c.loop-left.left - k) c.len_utf8.ensures.value in
    record {
      within = within_more c.loop-left.left c.saturating_sub-left.result (cell_of c.in-Some.cell) c.loop-left.walk
          c.next.new.self c.loop-left.page c.push_cell.new.page _ c.loop-left-test.true less step
          c.in_ok-push_cell.ensures c.loop-left.invariant.within;
      beyond = beyond_more c.loop-left.left c.saturating_sub-left.result (cell_of c.in-Some.cell) c.loop-left.walk
          c.next.new.self _ c.loop-left-test.true less step c.loop-left.invariant.beyond;
    }

pub returns-clause-within : goal.returns-clause-within
returns-clause-within g c = within_end c.loop-left.left c.loop-left.walk c.loop-left.page _ c.loop-left-test.false
    c.loop-left.invariant.within

pub returns-clause-beyond : goal.returns-clause-beyond
returns-clause-beyond g c = beyond_end c.loop-left.left c.loop-left.walk _ c.loop-left-test.false
    c.loop-left.invariant.beyond
