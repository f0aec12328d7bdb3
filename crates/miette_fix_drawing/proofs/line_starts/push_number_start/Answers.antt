use Rattle.std.proofs.lemmas.Result.{on_ok_weaker}
use Rattle.miette_snippet_rules.specs.views.SnippetSettings.{settings_of}
use Rattle.miette_fix_drawing.proofs.StartRows.{number_put}
use Rattle.miette_fix_drawing.proofs.line_starts.push_number_start.Goals as goal

pub returns : goal.returns
returns g c =
    on_ok_weaker c.push.result (λ h.
    number_put (settings_of c.args.frame.now.settings) c.args.frame.now.number_width c.args.number c.args.page.now
    c.push_digits.new.page c.push_line.new.self c.push.new.self c.in_ok-push_digits.ensures c.in_ok-push_line.ensures
    h) c.push.ensures
