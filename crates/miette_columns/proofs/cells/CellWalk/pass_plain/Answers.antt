use Rattle.std.proofs.Common.{◌≡◌, ◌+◌, ◌≤◌, ◌++◌, ℕ, Bool, List, true, take, drop, length, ap, sym, ◌∙◌}
use Rattle.std.proofs.Common.{arith, rules}
use Rattle.std.specs.List.{list_all}
use Rattle.std.proofs.lemmas.List.{take_rest, length-take, length-take-le}
use Rattle.miette_columns.specs.rules.Cells.{Cell, cells_from, characters}
use Rattle.miette_columns.specs.rules.Widths.{width_of}
use Rattle.miette_columns.specs.views.Printable.{is_printable, plain_cells}
use Rattle.miette_columns.proofs.Plaining.{printable_then}
use Rattle.miette_columns.proofs.Prefixes.{prefix_taken}
use Rattle.miette_columns.proofs.cells.CellWalk.pass_plain.Goals as goal

pub returns-clause-passed : goal.returns-clause-passed
returns-clause-passed c =
    let rest : List ℕ = c.self.inside.rest.now in
    let tab : ℕ = c.self.inside.tab in
    let offset : ℕ = c.self.inside.offset in
    let column : ℕ = c.self.inside.column in
    let many : ℕ = c.plain_len-many.result in
    let column_is : c.in_ok-after.after ≡ column + many = search rules in
    let within : many ≤ length rest = omega (
      arith,
      c.plain_len-many.ensures.within,
      length-take c.min.result rest,
    ) in
    let plain : list_all is_printable (take many rest) ≡ true =
    ap (λ n. list_all is_printable (take n rest)) c.plain_len-many.ensures.len
    ∙ prefix_taken is_printable c.min.result rest in
    let after : Bool → ℕ → List ℕ → List Cell = λ hidden at bytes. plain_cells offset column (take many rest)
    ++ cells_from width_of tab hidden (offset + many) at (characters bytes) in
    record {
      bytes = take many rest;
      printable = plain;
      many = length-take-le many rest within;
      cells_are = sym c.self.view_is
          ∙ ap (λ hidden. cells_from width_of tab hidden offset column (characters rest)) c.if-self.false
          ∙ printable_then tab offset column many rest within plain
          ∙ ap (λ hidden. after hidden (column + many) (drop many rest)) (sym c.if-self.false)
          ∙ ap (λ at. after c.self.inside.hidden at (drop many rest)) (sym column_is)
          ∙ ap (after c.self.inside.hidden c.in_ok-after.after) (sym (take_rest rest many));
    }
