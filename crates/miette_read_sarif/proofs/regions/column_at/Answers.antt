use Rattle.std.proofs.Common.{ℕ, List, Option, ◌∙◌, ap, arith, length, length-take-le}
use Rattle.std.specs.Prelude.{unwrap_or}
use Rattle.miette_read_sarif.specs.rules.Regions.{column_before, units_after}
use Rattle.miette_read_sarif.proofs.regions.column_at.Goals as goal

pub units_after-requires : goal.units_after-requires
units_after-requires c =
    omega (
      arith,
      c.text_end-stop.ensures.order,
      ap length c.front_to.ensures,
      length-take-le c.text_end-stop.result c.args.bytes.now c.text_end-stop.ensures.within,
    )

pub returns : goal.returns
returns c =
    let e = c.args.encoding in
    let bytes = c.args.bytes.now in
    let start = c.args.start in
    let columns = c.args.columns in
    c.unwrap_or.ensures
    ∙ ap (λ (o : Option ℕ). unwrap_or o c.text_end-stop.result)
    (c.units_after.ensures.value ∙ ap (λ (bs : List ℕ). units_after e bs start columns) c.front_to.ensures)
    ∙ ap (λ stop. column_before e bytes start stop columns) c.text_end-stop.ensures.value
