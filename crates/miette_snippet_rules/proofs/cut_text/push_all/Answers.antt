use Rattle.std.proofs.Common.{◌≡◌, ◌<◌, ◌∷◌, [], ◌+◌, ◌-◌, ◌∙◌, take, drop, ap, sym, arith, rules}
use Rattle.miette_columns.specs.views.Walking.{cell_of}
use Rattle.miette_snippet_rules.proofs.CutText.{take_cell, drop_cell, take_none, drop_none, take_zero, drop_zero}
use Rattle.miette_snippet_rules.proofs.CutText.{told_stop}
use Rattle.miette_snippet_rules.proofs.CellPrints.{cells_more}
use Rattle.miette_snippet_rules.proofs.cut_text.push_all.Goals as goal

pub loop-preserved : goal.loop-preserved
loop-preserved g c =
    let left = c.args.many - c.loop.counter in
    let cell = cell_of c.in-Some.cell in
    let step : c.loop.walk ≡ cell ∷ c.next.new.self = search rules in
    let some : 0 < left = omega (arith, c.loop-test.true) in
    let less : left - 1 ≡ c.args.many - (c.loop.counter + 1) = omega arith in
    record {
      told = cells_more cell (take left c.loop.walk) (take (c.args.many - (c.loop.counter + 1)) c.next.new.self)
          c.loop.page c.push_cell.new.page _
          (take_cell left cell c.loop.walk c.next.new.self step some ∙ ap (λ k. cell ∷ take k c.next.new.self) less)
          c.in_ok-push_cell.ensures c.loop.invariant.told;
      later = ap (λ k. drop k c.next.new.self) (sym less) ∙ drop_cell left cell c.loop.walk c.next.new.self step some
          ∙ c.loop.invariant.later;
    }

pub returns-in_default-clause-told : goal.returns-in_default-clause-told
returns-in_default-clause-told g c =
    let left = c.args.many - c.loop.counter in
    let done : c.loop.walk ≡ [] = search rules in
    told_stop (take left c.loop.walk) c.loop.page _ (take_none left c.loop.walk done) c.loop.invariant.told

pub returns-in_default-clause-later : goal.returns-in_default-clause-later
returns-in_default-clause-later g c =
    let left = c.args.many - c.loop.counter in
    let done : c.loop.walk ≡ [] = search rules in
    let gone : c.next.new.self ≡ [] = search rules in
    gone ∙ sym (drop_none left c.loop.walk done) ∙ c.loop.invariant.later

pub returns-clause-told : goal.returns-clause-told
returns-clause-told g c =
    let left = c.args.many - c.loop.counter in
    told_stop (take left c.loop.walk) c.loop.page _ (take_zero left c.loop.walk (omega (arith, c.loop-test.false)))
    c.loop.invariant.told

pub returns-clause-later : goal.returns-clause-later
returns-clause-later g c = drop_zero (c.args.many - c.loop.counter) c.loop.walk (omega (arith, c.loop-test.false))
    ∙ c.loop.invariant.later
