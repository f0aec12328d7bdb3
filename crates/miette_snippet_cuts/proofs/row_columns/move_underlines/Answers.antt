use Rattle.miette_snippet_rules.specs.views.MadeUnderlines.{no_underline}
use Rattle.std.proofs.Common.{refl}
use Rattle.miette_snippet_cuts.proofs.PassedStretches.{marks_more, place_first}
use Rattle.miette_snippet_cuts.proofs.row_columns.move_underlines.Goals as goal

pub loop-mark-init : goal.loop-mark-init
loop-mark-init c = record {
  moved = c.new-moved.ensures.items;
  place = place_first c.args.dots c.args.cut.now (record { passed = 0; before = 0; row = 0 }) refl refl refl;
}

pub loop-mark-preserved : goal.loop-mark-preserved
loop-mark-preserved c = record {
  moved = marks_more c.args.dots c.args.cut.now c.args.marks.now c.loop-mark.mark-index no_underline c.in_ok-next.next
      c.loop-mark.moved.items c.push.new.self.items c.loop-mark-test.true c.in_ok-next.ensures.mark
      c.in_ok-push.ensures.items c.loop-mark.invariant.moved;
  place = c.in_ok-next.ensures.place;
}
