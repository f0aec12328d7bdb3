use Rattle.std.proofs.Common.{rules, ◌+◌}
use Rattle.std.proofs.lemmas.Result.{on_ok_weaker}
use Rattle.miette_snippet_frames.proofs.TextRows.{start_put}
use Rattle.miette_snippet_frames.proofs.connectors.push_other_start.Goals as goal
use Rattle.miette_snippet_frames.specs.views.LineContexts.{settings}

pub returns : goal.returns
returns g c =
    on_ok_weaker c.push_line.result (λ h. start_put (settings c.args.context.now) c.in_ok-columns.columns
    (c.args.context.now.frame.number_width + 2) c.args.page.now c.push_blank.new.self c.push_line.new.self
    (search rules) c.in_ok-push_blank.ensures h) c.push_line.ensures
