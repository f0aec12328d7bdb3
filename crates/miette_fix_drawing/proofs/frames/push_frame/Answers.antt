use Rattle.std.proofs.Common.{ap, ◌∙◌}
use Rattle.miette_style.specs.views.Printouts.{◌⊕◌}
use Rattle.miette_style.specs.views.Tokens.{rows_tokens}
use Rattle.miette_fix_rows.specs.rules.DiffRows.{rows_of_diff_lines}
use Rattle.miette_fix_drawing.specs.steps.Framing.{context_over}
use Rattle.miette_fix_drawing.specs.views.ShownLines.{lines_of_segments}
use Rattle.miette_fix_drawing.specs.views.DiffPositions.{diff_position_of}
use Rattle.std.proofs.lemmas.Result.{on_ok_weaker}
use Rattle.miette_fix_drawing.specs.views.Frames.{frame_of}
use Rattle.miette_fix_drawing.proofs.FrameRows.{frame_put}
use Rattle.miette_fix_drawing.proofs.frames.push_frame.Goals as goal

pub returns : goal.returns
returns g c =
    on_ok_weaker c.push_frame_bottom.result
    (λ h. frame_put c.args.drawing.now (frame_of c.args.frame.now) c.digits.result c.place_of.result c.args.page.now
    c.push_frame_top.new.page c.push_lines.new.page c.push_frame_bottom.new.page c.args.frame.now.largest_number
    c.digits.ensures
    c.requires.largest_number c.place_of.ensures.line c.place_of.ensures.column c.in_ok-push_frame_top.ensures
    (c.in_ok-push_lines.ensures
    ∙ ap (λ items. c.push_frame_top.new.page ⊕ rows_tokens
    (rows_of_diff_lines (context_over c.args.drawing.now c.digits.result)
    (diff_position_of c.args.frame.now.at) (lines_of_segments items))) c.deref.ensures.value) h)
    c.push_frame_bottom.ensures
