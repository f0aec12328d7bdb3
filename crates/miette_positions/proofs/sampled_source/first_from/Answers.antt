use Rattle.std.proofs.Common.{◌∙◌, arith, leb, sym}
use Rattle.std.proofs.lemmas.Bool.{le-leb, lt-leb}
use Rattle.miette_positions.specs.rules.Stops.{stops_from}
use Rattle.miette_positions.specs.steps.Onward.{onward}
use Rattle.miette_positions.proofs.Finding.{first_here, first_on}
use Rattle.miette_positions.proofs.Passing.{first_passed}
use Rattle.miette_positions.proofs.sampled_source.first_from.Goals as goal

pub loop-here-preserved : goal.loop-here-preserved
loop-here-preserved c =
    let source = c.args.source.now in
    let e = c.args.encoding in
    let at = c.args.at in
    let next = c.in-Some.next in
    record {
      within = c.after_plain-here.ensures.within;
      same = sym (first_passed e source (λ s. leb at s.offset) c.saturating_sub.result next c.after_plain-here.result
          c.after_plain-here.ensures.passed
          (λ k few. lt-leb at (onward k next).offset (omega (arith, few, c.saturating_sub.ensures))))
          ∙ sym (first_on (λ s. leb at s.offset) c.loop-here.here next (stops_from e source c.loop-here.here)
          (stops_from e source next) c.in-Some.ensures.next (lt-leb at c.loop-here.here.offset c.loop-here-test.true))
          ∙ c.loop-here.invariant.same;
    }

pub returns : goal.returns
returns c =
    sym (first_here (λ s. leb c.args.at s.offset) c.loop-here.here
    (stops_from c.args.encoding c.args.source.now c.loop-here.here)
    (le-leb c.args.at c.loop-here.here.offset c.loop-here-test.false)) ∙ c.loop-here.invariant.same
