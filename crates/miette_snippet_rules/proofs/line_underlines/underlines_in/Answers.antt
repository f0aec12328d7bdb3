use Rattle.std.proofs.Common.{sym, subst}
use Rattle.miette_snippet_rules.specs.views.MadeUnderlines.{HasOwnPointer}
use Rattle.std.specs.List.{All}
use Rattle.std.proofs.lemmas.List.Elements.{All-push}
use Rattle.miette_snippet_rules.proofs.OffsetColumns.{mark_more, mark_end}
use Rattle.miette_snippet_rules.proofs.line_underlines.underlines_in.Goals as goal

pub loop-label-preserved : goal.loop-label-preserved
loop-label-preserved c = record {
  told = mark_more c.loop-label.made.items c.push.new.self.items c.in_ok-mark.mark c.args.columns.now
      c.loop-label.reached c.args.placed.now c.loop-label.label-index
      c.loop-label-test.true c.in_ok-push.ensures.items c.in_ok-mark.ensures.from c.in_ok-mark.ensures.until
      c.in_ok-mark.ensures.pointer c.in_ok-mark.ensures.label _ (c.loop-label.invariant.told);
  apart = subst (λ marks. All HasOwnPointer marks) (sym c.in_ok-push.ensures.items)
      (All-push HasOwnPointer c.loop-label.made.items c.in_ok-mark.mark c.loop-label.invariant.apart
      c.in_ok-mark.ensures.anchored);
}

pub returns-clause-is : goal.returns-clause-is
returns-clause-is c = mark_end c.loop-label.made.items c.args.columns.now c.loop-label.reached
    c.args.placed.now c.loop-label.label-index c.loop-label-test.false _ (c.loop-label.invariant.told)
