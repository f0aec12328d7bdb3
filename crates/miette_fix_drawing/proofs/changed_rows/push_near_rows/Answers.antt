use Rattle.std.proofs.Common.{◌∙◌, ap, option_map}
use Rattle.std.proofs.lemmas.Result.{on_ok_weaker}
use Rattle.miette_snippet_rules.specs.views.SnippetSettings.{settings_of}
use Rattle.miette_fix_rows.specs.rules.DiffTexts.{look_alike}
use Rattle.miette_fix_drawing.specs.views.ChangedLines.{changed_line_of}
use Rattle.miette_fix_drawing.proofs.ChangedRows.{alike_put, unlike_put}
use Rattle.miette_fix_drawing.proofs.changed_rows.push_near_rows.Goals as goal

pub returns-then-alike : goal.returns-then-alike
returns-then-alike g c =
    let s = settings_of c.args.frame.now.settings in
    on_ok_weaker c.push_line_underlines.result (λ h.
    alike_put s c.args.frame.now.number_width (changed_line_of c.args.line.now)
    (option_map changed_line_of c.args.other.now) c.in_ok-alike.alike c.args.page.now c.push_text_row.new.page
    c.push_line_underlines.new.page
    (c.in_ok-alike.ensures ∙ ap (look_alike s c.args.line.now.text.now) c.bytes_beside.ensures)
    c.if-alike.true c.in_ok-push_text_row.ensures h) c.push_line_underlines.ensures

pub returns : goal.returns
returns g c =
    let s = settings_of c.args.frame.now.settings in
    unlike_put s c.args.frame.now.number_width (changed_line_of c.args.line.now)
    (option_map changed_line_of c.args.other.now) c.in_ok-alike.alike c.args.page.now c.push_text_row.new.page
    (c.in_ok-alike.ensures ∙ ap (look_alike s c.args.line.now.text.now) c.bytes_beside.ensures)
    c.if-alike.false c.in_ok-push_text_row.ensures
