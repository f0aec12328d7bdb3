use Rattle.std.proofs.Common.{◌≡◌, ◌<◌, ◌+◌, ◌-◌, take, drop, arith, length, sym, ◌∙◌, rules, eqb-true}
use Rattle.std.proofs.lemmas.List.{nil_from_length}
use Rattle.std.proofs.lemmas.Grind.{common_steps}
use Rattle.miette_columns.specs.rules.Widths.{width_of}
use Rattle.miette_columns.proofs.Stepping.{cells_step, cells_end}
use Rattle.miette_columns.proofs.cells.CellWalk.next.Goals as goal

pub returns-then-is_empty : goal.returns-then-is_empty
returns-then-is_empty c =
    let none = cells_end width_of c.self.inside.tab c.self.inside.hidden c.self.inside.offset c.self.inside.column
    c.self.inside.rest.now
    (nil_from_length c.self.inside.rest.now (eqb-true _ _ (sym c.is_empty.ensures ∙ c.if-is_empty.true))) in
    let empty = sym c.self.view_is ∙ none in (empty, empty)

pub returns : goal.returns
returns c =
    let some : 0 < length c.self.inside.rest.now = search rules in
    let until : c.in_ok-until.until ≡ c.self.inside.column + c.width_there-width.result = search rules in
    let left : take (length c.self.inside.rest.now - c.measured-code.result.1)
    (drop c.measured-code.result.1 c.self.inside.rest.now)
    ≡ drop c.measured-code.result.1 c.self.inside.rest.now = grind (arith, common_steps) in
    sym c.self.view_is ∙ cells_step width_of c.self.inside.tab c.self.inside.hidden c.hides_later-self-inside.result
    c.self.inside.offset c.self.inside.column c.self.inside.rest.now
    (take (length c.self.inside.rest.now - c.measured-code.result.1)
    (drop c.measured-code.result.1 c.self.inside.rest.now))
    c.measured-code.result.0 c.measured-code.result.1 c.width_there-width.result c.in_ok-until.until some left
    c.measured-code.ensures.code c.measured-code.ensures.size c.width_there-width.ensures until
    c.hides_later-self-inside.ensures
