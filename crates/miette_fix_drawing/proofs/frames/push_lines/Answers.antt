use Rattle.std.proofs.Common.{◌+◌, ap, ◌∙◌, arith, drop}
use Rattle.miette_style.specs.views.Printouts.{◌⊕◌}
use Rattle.miette_style.specs.views.Tokens.{rows_tokens}
use Rattle.miette_fix_drawing.specs.views.Contexts.{context_with}
use Rattle.miette_fix_drawing.specs.views.DiffPositions.{diff_position_of}
use Rattle.miette_fix_drawing.proofs.Framing.{rows_end, rows_next, rows_of_all_segments}
use Rattle.miette_fix_drawing.proofs.frames.push_lines.Goals as goal

pub loop-i-preserved : goal.loop-i-preserved
loop-i-preserved g c =
    rows_next (context_with c.args.drawing.now) (diff_position_of c.loop-i.at) (diff_position_of c.in_ok-at.at)
    (drop c.loop-i.i c.args.list.now) (drop (c.loop-i.i + 1) c.args.list.now) c.segment_at-segment.result c.loop-i.page
    c.push_segment.new.page _
    c.segment_at-segment.ensures
    c.in_ok-at.ensures.behind c.in_ok-at.ensures.rows c.loop-i.invariant

pub returns : goal.returns
returns g c =
    rows_end (context_with c.args.drawing.now) (diff_position_of c.loop-i.at) c.args.list.now c.loop-i.i c.loop-i.page _
    (omega (arith, c.loop-i-test.false, c.loop-i.auto.i-end)) c.loop-i.invariant
    ∙ ap (λ rows. c.args.page.now ⊕ rows_tokens rows)
    (rows_of_all_segments (context_with c.args.drawing.now) (diff_position_of c.args.at.now) c.args.list.now)
