use Rattle.std.proofs.Common.{◌+◌, ◌≡◌, ◌∙◌, length, ap, sym, arith}
use Rattle.miette_snippet_cuts.specs.steps.LineParts.{cell_at}
use Rattle.miette_snippet_cuts.specs.steps.Nearness.{LineEnds, near_by}
use Rattle.miette_snippet_cuts.proofs.PlainStretches.{IsEven, even_more}
use Rattle.miette_snippet_cuts.proofs.plain_parts.push_plain_parts.Goals as goal

pub loop-column-preserved : goal.loop-column-preserved
loop-column-preserved c =
    let value : LineEnds = c.args.nearness.now in
    record {
      nearness = c.even_part-next.ensures.same ∙ c.loop-column.invariant.nearness;
      within = c.even_part-next.ensures.within;
      from = omega (arith, c.loop-column.invariant.from);
      told = λ bytes rest printable many.
          let next = c.even_part-next.result in
          let end : c.in_ok-end.end ≡ c.args.plain.now.from + length bytes =
          omega (arith, c.in_ok-end.ensures, many) in
          let is : IsEven value.room value.ends c.loop-column.column (c.args.plain.now.from + length bytes) next =
          record {
            even = c.even_part-next.ensures.even;
            some = c.even_part-next.ensures.some;
            within = omega (arith, end, c.even_part-next.ensures.within);
            alike = λ x lo lt.
                ap (λ (v : LineEnds). near_by v.room v.ends (cell_at x)) (sym c.loop-column.invariant.nearness)
                ∙ c.even_part-next.ensures.alike x lo lt;
          } in
          even_more value.room value.ends c.args.plain.now bytes rest c.loop-column.column
          c.loop-column.made.items c.push_line_part.new.made.items _ c.loop-column.reached next
          c.push_line_part.new.reached printable c.loop-column.invariant.from is c.in_ok-push_line_part.ensures.shown
          c.in_ok-push_line_part.ensures.put (c.loop-column.invariant.told bytes rest printable many);
    }
