use Rattle.std.proofs.Common.{◌∙◌, sym}
use Rattle.miette_positions.specs.rules.Stops.{stops_from}
use Rattle.miette_positions.specs.steps.Samples.{is_reached}
use Rattle.miette_positions.proofs.Finding.{last_on}
use Rattle.miette_positions.proofs.Passing.{last_passed}
use Rattle.miette_positions.proofs.sampled_source.last_from.Goals as goal

pub loop-next-preserved : goal.loop-next-preserved
loop-next-preserved c =
    let source = c.args.source.now in
    let e = c.args.encoding in
    let next = c.in-Some.next in
    record {
      within = c.after_plain-here.ensures.within;
      same = sym (last_passed e source (is_reached c.args.target) c.columns_before.result next
          c.after_plain-here.result c.after_plain-here.ensures.passed c.columns_before.ensures)
          ∙ sym (last_on (is_reached c.args.target) c.loop-next.here next (stops_from e source c.loop-next.here)
          (stops_from e source next) c.in-Some.ensures.next (sym c.is_reached.ensures ∙ c.if-not-is_reached.false))
          ∙ c.loop-next.invariant.same;
    }
