use Rattle.std.proofs.Common.{◌≡◌, ◌∷◌, [], ◌-◌, ◌<◌, ◌∙◌, take, ap, sym, arith, rules}
use Rattle.miette_columns.specs.views.Walking.{cell_of}
use Rattle.miette_snippet_rules.proofs.CutText.{take_cell, drop_cell, take_none, drop_none, take_zero, drop_zero}
use Rattle.miette_snippet_rules.proofs.CutText.{within_stop}
use Rattle.miette_snippet_rules.proofs.CutText.{beyond_stop}
use Rattle.miette_snippet_rules.proofs.CellPrints.{within_more, beyond_more, within_end, beyond_end}
use Rattle.miette_snippet_rules.proofs.cut_text.push_some.Goals as goal

pub loop-left-preserved : goal.loop-left-preserved
loop-left-preserved g c =
    let step : c.loop-left.walk ≡ cell_of c.in-Some.cell ∷ c.next.new.self = search rules in
    let less = c.saturating_sub-left.ensures ∙ ap (λ k. c.loop-left.left - k) c.len_utf8.ensures.value in
    let some : 0 < c.loop-left.many = omega (arith, c.if-many-eq0.false) in
    let rest = take_cell c.loop-left.many (cell_of c.in-Some.cell) c.loop-left.walk c.next.new.self step some in
    record {
      within = within_more c.loop-left.left c.saturating_sub-left.result (cell_of c.in-Some.cell)
          (take c.loop-left.many c.loop-left.walk) (take (c.loop-left.many - 1) c.next.new.self) c.loop-left.page
          c.push_cell.new.page _ c.loop-left-test.true less rest c.in_ok-push_cell.ensures c.loop-left.invariant.within;
      beyond = beyond_more c.loop-left.left c.saturating_sub-left.result (cell_of c.in-Some.cell)
          (take c.loop-left.many c.loop-left.walk) (take (c.loop-left.many - 1) c.next.new.self) _ c.loop-left-test.true
          less rest c.loop-left.invariant.beyond;
      later = drop_cell c.loop-left.many (cell_of c.in-Some.cell) c.loop-left.walk c.next.new.self step some
          ∙ c.loop-left.invariant.later;
    }

pub returns-then-many-eq0-clause-within : goal.returns-then-many-eq0-clause-within
returns-then-many-eq0-clause-within g c =
    within_stop c.loop-left.left (take c.loop-left.many c.loop-left.walk) c.loop-left.page _
    (take_zero c.loop-left.many c.loop-left.walk (omega (arith, c.if-many-eq0.true))) c.loop-left.invariant.within

pub returns-then-many-eq0-clause-beyond : goal.returns-then-many-eq0-clause-beyond
returns-then-many-eq0-clause-beyond g c =
    let none = take_zero c.loop-left.many c.loop-left.walk (omega (arith, c.if-many-eq0.true)) in
    sym none ∙ beyond_stop c.loop-left.left (take c.loop-left.many c.loop-left.walk) _ none c.loop-left.invariant.beyond

pub returns-then-many-eq0-clause-later : goal.returns-then-many-eq0-clause-later
returns-then-many-eq0-clause-later g c = drop_zero c.loop-left.many c.loop-left.walk (omega (arith, c.if-many-eq0.true))
    ∙ c.loop-left.invariant.later

pub returns-in_default-clause-within : goal.returns-in_default-clause-within
returns-in_default-clause-within g c =
    let done : c.loop-left.walk ≡ [] = search rules in
    within_stop c.loop-left.left (take c.loop-left.many c.loop-left.walk) c.loop-left.page _
    (take_none c.loop-left.many c.loop-left.walk done) c.loop-left.invariant.within

pub returns-in_default-clause-beyond : goal.returns-in_default-clause-beyond
returns-in_default-clause-beyond g c =
    let done : c.loop-left.walk ≡ [] = search rules in
    let gone : c.next.new.self ≡ [] = search rules in
    let none = take_none c.loop-left.many c.loop-left.walk done in
    take_none c.loop-left.many c.next.new.self gone ∙ sym none
    ∙ beyond_stop c.loop-left.left (take c.loop-left.many c.loop-left.walk) _ none c.loop-left.invariant.beyond

pub returns-in_default-clause-later : goal.returns-in_default-clause-later
returns-in_default-clause-later g c =
    let done : c.loop-left.walk ≡ [] = search rules in
    let gone : c.next.new.self ≡ [] = search rules in
    drop_none c.loop-left.many c.next.new.self gone ∙ sym (drop_none c.loop-left.many c.loop-left.walk done)
    ∙ c.loop-left.invariant.later

pub returns-clause-within : goal.returns-clause-within
returns-clause-within g c = within_end c.loop-left.left (take c.loop-left.many c.loop-left.walk) c.loop-left.page _
    c.loop-left-test.false c.loop-left.invariant.within

pub returns-clause-beyond : goal.returns-clause-beyond
returns-clause-beyond g c = beyond_end c.loop-left.left (take c.loop-left.many c.loop-left.walk) _
    c.loop-left-test.false c.loop-left.invariant.beyond
