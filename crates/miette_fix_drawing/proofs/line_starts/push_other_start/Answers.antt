use Rattle.std.proofs.Common.{◌+◌}
use Rattle.std.proofs.lemmas.Result.{on_ok_weaker}
use Rattle.miette_snippet_rules.specs.views.SnippetSettings.{settings_of}
use Rattle.miette_snippet_frames.proofs.TextRows.{start_put}
use Rattle.miette_fix_drawing.proofs.line_starts.push_other_start.Goals as goal

pub returns : goal.returns
returns g c =
    on_ok_weaker c.push_line.result (λ h.
    start_put (settings_of c.args.frame.now.settings) c.in_ok-columns.columns (c.args.frame.now.number_width + 2)
    c.args.page.now c.push_blank.new.self c.push_line.new.self c.in_ok-columns.ensures c.in_ok-push_blank.ensures
    h) c.push_line.ensures
