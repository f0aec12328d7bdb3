use Rattle.std.proofs.lemmas.Result.{on_ok_weaker}
use Rattle.miette_snippet_rules.specs.views.SnippetSettings.{settings_of}
use Rattle.miette_fix_drawing.proofs.StartRows.{digits_put}
use Rattle.miette_fix_drawing.proofs.line_starts.push_digits.Goals as goal

pub returns : goal.returns
returns g c =
    on_ok_weaker c.push_right.result (λ h.
    digits_put (settings_of c.args.frame.now.settings) c.args.frame.now.number_width c.args.number c.args.page.now
    c.push_blank.new.self c.begin.new.self c.push_right.new.self c.in_ok-push_blank.ensures c.in_ok-begin.ensures
    h) c.push_right.ensures
