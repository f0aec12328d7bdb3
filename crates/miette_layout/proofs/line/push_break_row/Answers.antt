use Rattle.std.proofs.lemmas.Result.{on_ok_weaker}
use Rattle.miette_snippet_rules.specs.rules.Gutters.{break_gutter}
use Rattle.miette_snippet_frames.specs.views.LineContexts.{settings, multi_labels}
use Rattle.miette_layout.proofs.LineRows.{break_put}
use Rattle.miette_layout.proofs.line.push_break_row.Goals as goal

pub returns : goal.returns
returns g c =
    on_ok_weaker c.end_row.result (λ h.
    break_put (settings c.args.context.now) c.args.context.now.frame.number_width c.saturating_sub.result
    (break_gutter (settings c.args.context.now)
    (multi_labels c.args.context.now)) c.args.page.now c.push_blank.new.self c.push_line.new.self c.push.new.self
    c.push_break_gutter.new.page c.end_row.new.self
    c.saturating_sub.ensures c.in_ok-push_blank.ensures c.in_ok-push_line.ensures c.in_ok-push.ensures
    c.in_ok-push_break_gutter.ensures h) c.end_row.ensures
