use Rattle.std.proofs.lemmas.Result.{on_ok_weaker}
use Rattle.miette_snippet_rules.specs.views.SnippetSettings.{settings_of}
use Rattle.miette_fix_drawing.specs.views.ChangedLines.{changed_line_of}
use Rattle.miette_fix_drawing.proofs.ChangedRows.{sign_put}
use Rattle.miette_fix_drawing.proofs.changed_rows.push_sign_start.Goals as goal

pub returns : goal.returns
returns g c =
    on_ok_weaker c.push_blank-2.result (λ h.
    sign_put (settings_of c.args.frame.now.settings) c.args.frame.now.number_width (changed_line_of c.args.line.now)
    c.args.page.now c.push_digits.new.page c.push_blank.new.self c.begin.new.self c.push.new.self
    c.push_blank-2.new.self c.in_ok-push_digits.ensures c.in_ok-push_blank.ensures c.in_ok-begin.ensures
    c.in_ok-push.ensures h) c.push_blank-2.ensures
