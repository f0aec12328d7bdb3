use Rattle.std.proofs.Common.{arith}
use Rattle.std.proofs.lemmas.List.Elements.{All-push, All-same}
use Rattle.miette_positions.specs.steps.Samples.{IsSample}
use Rattle.miette_positions.proofs.Passing.{mark_after}
use Rattle.miette_positions.proofs.index.sample_stops.Goals as goal

pub loop-next-preserved-then-here-last-ge-APART : goal.loop-next-preserved-then-here-last-ge-APART
loop-next-preserved-then-here-last-ge-APART c =
    let source = c.args.source.now in
    let result = c.after_plain-here.result in
    let here = mark_after c.args.encoding source _ c.loop-next.here c.in-Some.next result c.loop-next.invariant.here
    c.in-Some.ensures.next c.in-Some.ensures.within
    (record { offset = c.in-Some.ensures.order; position = c.in-Some.ensures.rise })
    c.after_plain-here.ensures.passed in
    record {
      here = here;
      samples = All-same (IsSample c.args.encoding source) _ _ c.in_ok-push.ensures.items
          (All-push (IsSample c.args.encoding source) c.loop-next.samples.items result c.loop-next.invariant.samples
          here);
      last = omega arith;
    }

pub loop-next-preserved : goal.loop-next-preserved
loop-next-preserved c =
    record {
      here = mark_after c.args.encoding c.args.source.now _ c.loop-next.here c.in-Some.next c.after_plain-here.result
          c.loop-next.invariant.here c.in-Some.ensures.next c.in-Some.ensures.within
          (record { offset = c.in-Some.ensures.order; position = c.in-Some.ensures.rise })
          c.after_plain-here.ensures.passed;
      samples = c.loop-next.invariant.samples;
      last = omega (arith, c.loop-next.invariant.last, c.in-Some.ensures.order, c.after_plain-here.ensures.order);
    }
