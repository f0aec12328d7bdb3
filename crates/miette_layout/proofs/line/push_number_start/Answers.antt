use Rattle.std.proofs.lemmas.Result.{on_ok_weaker}
use Rattle.miette_snippet_frames.specs.views.LineContexts.{settings}
use Rattle.miette_layout.proofs.LineRows.{number_put}
use Rattle.miette_layout.proofs.line.push_number_start.Goals as goal

pub returns : goal.returns
returns g c =
    on_ok_weaker c.push.result (λ h.
    number_put (settings c.args.context.now) c.args.context.now.frame.number_width c.args.context.now.number c.args.page.now
    c.push_blank.new.self c.begin.new.self c.push_right.new.self c.push_line.new.self c.push.new.self
    c.in_ok-push_blank.ensures c.in_ok-begin.ensures c.in_ok-push_right.ensures c.in_ok-push_line.ensures
    h) c.push.ensures
