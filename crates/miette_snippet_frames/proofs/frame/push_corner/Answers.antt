use Rattle.std.proofs.Common.{rules}
use Rattle.std.proofs.lemmas.Result.{on_ok_weaker}
use Rattle.miette_snippet_rules.specs.views.SnippetSettings.{settings_of}
use Rattle.miette_snippet_frames.proofs.FrameRows.{corner_put}
use Rattle.miette_snippet_frames.proofs.frame.push_corner.Goals as goal

pub returns : goal.returns
returns g c =
    on_ok_weaker c.push_line.result (λ h. corner_put (settings_of c.args.frame.now.settings) c.in_ok-columns.columns
    c.args.frame.now.number_width c.args.corner c.args.many c.args.page.now c.push_blank.new.self c.push_line.new.self
    (search rules) c.in_ok-push_blank.ensures h) c.push_line.ensures
