use Rattle.std.proofs.lemmas.Result.{on_ok_weaker}
use Rattle.miette_snippet_rules.specs.rules.Frames.{other_start}
use Rattle.miette_snippet_frames.specs.views.LineContexts.{settings, gutter_below}
use Rattle.miette_snippet_frames.proofs.TextRows.{parts_then}
use Rattle.miette_snippet_frames.proofs.connectors.push_before_underlines.Goals as goal

pub returns : goal.returns
returns g c =
    on_ok_weaker c.push_gutter.result (λ h.
    parts_then (other_start (settings c.args.context.now) c.args.context.now.frame.number_width)
    (gutter_below c.args.context.now)
    c.args.page.now c.push_other_start.new.page c.push_gutter.new.page c.in_ok-push_other_start.ensures
    h) c.push_gutter.ensures
