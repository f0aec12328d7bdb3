use Rattle.std.proofs.Common.{◌+◌, ◌≡◌, ◌∙◌, length, ap, sym, refl, arith}
use Rattle.miette_snippet_cuts.specs.steps.Counting.{whole_count}
use Rattle.miette_snippet_cuts.specs.steps.LineParts.{cell_at}
use Rattle.miette_snippet_cuts.specs.steps.Nearness.{LineEnds, near_by}
use Rattle.miette_snippet_cuts.proofs.CountedColumns.{plain_begun, plain_counted, plain_done}
use Rattle.miette_snippet_cuts.proofs.PlainStretches.{IsEven}
use Rattle.miette_snippet_cuts.proofs.counting.count_plain.Goals as goal

pub loop-column-init : goal.loop-column-init
loop-column-init c =
    let value : LineEnds = c.args.nearness.now in
    record {
      nearness = refl;
      within = omega (arith, c.in_ok-end.ensures);
      from = omega arith;
      told = λ bytes rest printable many.
          ap (whole_count c.args.room.now.dots (near_by value.room value.ends) c.args.count.now)
          (sym (plain_begun c.args.plain.now bytes rest));
    }

pub loop-column-preserved : goal.loop-column-preserved
loop-column-preserved c =
    let value : LineEnds = c.args.nearness.now in
    record {
      nearness = c.even_part-next.ensures.same ∙ c.loop-column.invariant.nearness;
      within = c.even_part-next.ensures.within;
      from = omega (arith, c.loop-column.invariant.from);
      told = λ bytes rest printable many.
          let next = c.even_part-next.result in
          let end : c.in_ok-end.end ≡ c.args.plain.now.from + length bytes =
          omega (arith, c.in_ok-end.ensures, many) in
          let is : IsEven value.room value.ends c.loop-column.column (c.args.plain.now.from + length bytes) next =
          record {
            even = c.even_part-next.ensures.even;
            some = c.even_part-next.ensures.some;
            within = omega (arith, end, c.even_part-next.ensures.within);
            alike = λ x lo lt.
                ap (λ (v : LineEnds). near_by v.room v.ends (cell_at x)) (sym c.loop-column.invariant.nearness)
                ∙ c.even_part-next.ensures.alike x lo lt;
          } in
          plain_counted c.args.room.now.dots value.room value.ends c.args.plain.now bytes rest c.loop-column.column
          c.loop-column.count c.in_ok-count.count next _ c.loop-column.invariant.from is c.in_ok-count.ensures
          (c.loop-column.invariant.told bytes rest printable many);
    }

pub returns-clause-counted : goal.returns-clause-counted
returns-clause-counted c = λ bytes rest printable many.
    let value : LineEnds = c.args.nearness.now in
    plain_done c.args.room.now.dots (near_by value.room value.ends) c.args.room.now.limit c.args.plain.now bytes rest
    c.loop-column.column c.loop-column.count _
    (omega (arith, c.in_ok-end.ensures, many, c.loop-column-test.false))
    (c.loop-column.invariant.told bytes rest printable many)
