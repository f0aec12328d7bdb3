use Rattle.std.proofs.Common.{◌≡◌, ◌∷◌, ◌∙◌, [], List, ap, subst, sym, rules}
use Rattle.miette_columns.specs.rules.Cells.{Cell}
use Rattle.miette_columns.specs.views.Walking.{cell_of}
use Rattle.miette_snippet_cuts.specs.declared.counting.Count.{Count}
use Rattle.miette_snippet_cuts.specs.steps.Counting.{whole_count}
use Rattle.miette_snippet_cuts.specs.steps.Nearness.{LineEnds, near_by}
use Rattle.miette_snippet_cuts.specs.steps.Windows.{StandTogether}
use Rattle.miette_snippet_cuts.proofs.CountedColumns.{counts_plain, line_counted, line_done, line_more, line_over}
use Rattle.miette_snippet_cuts.proofs.WindowColumns.{line_past, stand_after, stand_later}
use Rattle.miette_snippet_cuts.proofs.counting.fits.Goals as goal

pub loop-cell-init : goal.loop-cell-init
loop-cell-init c =
    let line : LineEnds = record { room = c.args.room.now; ends = c.args.ends.now } in
    let none : Count = record { shown = 0; passed = c.args.window.now.column } in
    record {
      nearness = c.in_ok-count.ensures.same ∙ c.new-nearness.ensures;
      stands = stand_after c.in_ok-plain.plain c.copy-walk.result c.pass_plain.new.self c.in_ok-plain.ensures.passed
          (subst (λ (cs : List Cell). StandTogether cs) (sym c.copy-walk.ensures) c.requires.stands);
      counted = line_counted line.room.dots (near_by line.room line.ends) line.room.limit c.in_ok-plain.plain
          c.copy-walk.result c.pass_plain.new.self none c.in_ok-count.count _ c.in_ok-plain.ensures.passed
          (counts_plain line.room.limit line.room.dots c.new-nearness.result line c.in_ok-plain.plain none
          c.in_ok-count.count c.new-nearness.ensures c.in_ok-count.ensures.counted)
          (ap (whole_count line.room.dots (near_by line.room line.ends) none) c.copy-walk.ensures);
    }

pub loop-cell-preserved : goal.loop-cell-preserved
loop-cell-preserved c =
    let line : LineEnds = record { room = c.args.room.now; ends = c.args.ends.now } in
    let step : c.loop-cell.walk ≡ cell_of c.in-Some.cell ∷ c.next.new.self = search rules in
    let same : c.count_cell.new.nearness ≡ line = c.in_ok-next.ensures.same ∙ c.loop-cell.invariant.nearness in
    record {
      nearness = c.in_ok-count-2.ensures.same ∙ same;
      stands = stand_after c.in_ok-plain-2.plain c.next.new.self c.pass_plain-in-Some.new.self
          c.in_ok-plain-2.ensures.passed (stand_later (cell_of c.in-Some.cell) c.loop-cell.walk c.next.new.self step
          c.loop-cell.invariant.stands);
      counted = line_counted line.room.dots (near_by line.room line.ends) line.room.limit c.in_ok-plain-2.plain
          c.next.new.self c.pass_plain-in-Some.new.self c.in_ok-next.next c.in_ok-count-2.count _
          c.in_ok-plain-2.ensures.passed
          (counts_plain line.room.limit line.room.dots c.count_cell.new.nearness line c.in_ok-plain-2.plain
          c.in_ok-next.next c.in_ok-count-2.count same c.in_ok-count-2.ensures.counted)
          (line_more line.room.dots line.room.limit c.loop-cell.nearness line c.loop-cell.walk c.next.new.self
          (cell_of c.in-Some.cell) c.loop-cell.count c.in_ok-next.next _ c.loop-cell.invariant.nearness step
          c.if-count-room.false c.in_ok-next.ensures.counted c.loop-cell.invariant.counted);
    }

pub returns-then-count-room : goal.returns-then-count-room
returns-then-count-room c =
    line_over c.args.room.now.limit c.loop-cell.count _ _ c.if-count-room.true c.loop-cell.invariant.counted

pub returns-then-is_past : goal.returns-then-is_past
returns-then-is_past c =
    let line : LineEnds = record { room = c.args.room.now; ends = c.args.ends.now } in
    let step : c.loop-cell.walk ≡ cell_of c.in-Some.cell ∷ c.next.new.self = search rules in
    line_past line.room.dots line.room.limit c.args.window.now.stop (near_by line.room line.ends) c.loop-cell.count
    (cell_of c.in-Some.cell) c.loop-cell.walk c.next.new.self c.in_ok-all.all _ c.is_past.result c.if-is_past.true
    c.is_past.ensures step c.loop-cell.invariant.stands c.requires.past c.if-count-room.false c.in_ok-all.ensures
    c.loop-cell.invariant.counted

pub returns : goal.returns
returns c =
    let line : LineEnds = record { room = c.args.room.now; ends = c.args.ends.now } in
    let done : c.loop-cell.walk ≡ [] = search rules in
    line_done line.room.dots (near_by line.room line.ends) line.room.limit c.loop-cell.count c.loop-cell.walk
    c.min.result c.in_ok-width.width _ done c.min.ensures c.in_ok-width.ensures c.loop-cell.invariant.counted
