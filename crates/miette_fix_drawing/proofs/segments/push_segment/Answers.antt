use Rattle.std.proofs.Common.{◌≡◌, ◌∷◌, rules}
use Rattle.miette_fix_drawing.proofs.ShownLines.{past_goes_on, rows_go_on}
use Rattle.miette_fix_drawing.specs.views.Contexts.{context_with}
use Rattle.miette_fix_drawing.specs.views.ShownLines.{line_of_shown, lines_of_segment}
use Rattle.miette_fix_drawing.specs.views.DiffPositions.{diff_position_of}
use Rattle.miette_fix_drawing.proofs.segments.push_segment.Goals as goal

pub loop-line-preserved : goal.loop-line-preserved
loop-line-preserved g c =
    let step : lines_of_segment c.loop-line.left ≡ line_of_shown c.in-Some.line ∷ lines_of_segment c.next.new.self =
    search rules in
    record {
      rows = rows_go_on (context_with c.args.drawing.now) (diff_position_of c.loop-line.at)
          (diff_position_of c.in_ok-at.at)
          (line_of_shown c.in-Some.line) (lines_of_segment c.loop-line.left) (lines_of_segment c.next.new.self)
          c.loop-line.page c.push_line.new.page _ step c.in_ok-at.ensures.behind c.in_ok-at.ensures.rows
          c.loop-line.invariant.rows;
      behind = past_goes_on (diff_position_of c.loop-line.at) (diff_position_of c.in_ok-at.at) _
          (line_of_shown c.in-Some.line)
          (lines_of_segment c.loop-line.left) (lines_of_segment c.next.new.self) step
          c.in_ok-at.ensures.behind c.loop-line.invariant.behind;
    }
