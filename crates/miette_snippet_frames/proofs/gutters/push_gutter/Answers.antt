use Rattle.std.proofs.Common.{◌∙◌, sym}
use Rattle.std.proofs.lemmas.Result.{on_ok_weaker}
use Rattle.miette_lines.specs.views.Walking.{line_of_text}
use Rattle.miette_snippet_frames.specs.views.LineContexts.{settings}
use Rattle.miette_snippet_frames.proofs.GutterRows.{bar_more, end_put, blank_put}
use Rattle.miette_snippet_frames.proofs.gutters.push_gutter.Goals as goal

pub loop-label-preserved : goal.loop-label-preserved
loop-label-preserved g c =
    bar_more c.args.end (settings c.args.context.now) (line_of_text c.args.context.now.line) c.loop-label.left
    c.saturating_sub-left.result c.args.context.now.multi.now c.loop-label.label-index c.loop-label.page
    c.push_line.new.self _ c.loop-label-test.true (sym c.stops.ensures ∙ c.if-stops.false)
    c.saturating_sub-left.ensures c.in_ok-push_line.ensures c.loop-label.invariant

pub returns-then-stops : goal.returns-then-stops
returns-then-stops g c =
    on_ok_weaker c.push_gutter_end.result (λ h.
    end_put c.args.end (settings c.args.context.now) (line_of_text c.args.context.now.line) c.loop-label.left
    c.args.context.now.multi.now c.loop-label.label-index c.loop-label.page c.push_gutter_end.new.page _
    c.loop-label-test.true (sym c.stops.ensures ∙ c.if-stops.true) h
    c.loop-label.invariant) c.push_gutter_end.ensures

pub returns : goal.returns
returns g c =
    on_ok_weaker c.push_blank.result (λ h.
    blank_put c.args.end (settings c.args.context.now) (line_of_text c.args.context.now.line) c.loop-label.left
    c.args.context.now.multi.now c.loop-label.label-index c.loop-label.page c.push_blank.new.self _
    c.loop-label-test.false h c.loop-label.invariant) c.push_blank.ensures
