use Rattle.std.proofs.Common.{◌≡◌, ◌∷◌, ◌-◌, ◌∙◌, arith, rules}
use Rattle.miette_columns.specs.views.Walking.{cell_of}
use Rattle.miette_snippet_rules.proofs.CutText.{drop_cell, drop_plain_cells}
use Rattle.miette_snippet_rules.proofs.cut_text.skip.Goals as goal

pub loop-left-preserved-then-plain-eq0 : goal.loop-left-preserved-then-plain-eq0
loop-left-preserved-then-plain-eq0 c =
    let left = c.loop-left.left - c.in_ok-plain.plain.many in
    let step : c.pass_plain.new.self ≡ cell_of c.in-Some.cell ∷ c.next.new.self = search rules in
    drop_cell left (cell_of c.in-Some.cell) c.pass_plain.new.self c.next.new.self step
    (omega (arith, c.loop-left-test.true, c.if-plain-eq0.true))
    ∙ drop_plain_cells c.in_ok-plain.plain c.loop-left.walk c.pass_plain.new.self c.loop-left.left
    c.in_ok-plain.ensures.passed c.in_ok-plain.ensures.few ∙ c.loop-left.invariant

pub loop-left-preserved : goal.loop-left-preserved
loop-left-preserved c =
    drop_plain_cells c.in_ok-plain.plain c.loop-left.walk c.pass_plain.new.self c.loop-left.left
    c.in_ok-plain.ensures.passed c.in_ok-plain.ensures.few ∙ c.loop-left.invariant
