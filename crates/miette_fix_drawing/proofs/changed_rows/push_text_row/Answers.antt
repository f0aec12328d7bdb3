use Rattle.std.proofs.Common.{◌∙◌, ap, map, option_map}
use Rattle.std.proofs.lemmas.Result.{on_ok_weaker}
use Rattle.miette_snippet_rules.specs.rules.Highlighting.{highlight_of}
use Rattle.miette_snippet_rules.specs.views.SnippetSettings.{settings_of}
use Rattle.miette_snippet_rules.specs.views.LineTexts.{text_cells}
use Rattle.miette_fix_drawing.specs.views.ChangedLines.{changed_line_of}
use Rattle.miette_fix_drawing.proofs.ChangedRows.{text_put}
use Rattle.miette_fix_drawing.proofs.changed_rows.push_text_row.Goals as goal

pub returns : goal.returns
returns g c =
    on_ok_weaker c.end_row.result (λ h.
    text_put (settings_of c.args.frame.now.settings) c.args.frame.now.number_width (changed_line_of c.args.line.now)
    (option_map changed_line_of c.args.other.now) (text_cells c.text_in-text.result)
    (map highlight_of c.deref.result.now)
    (option_map (λ made. made.items) c.args.cut.now) c.args.page.now c.push_sign_start.new.page
    c.push_changed_text.new.page c.end_row.new.self c.text_in-text.ensures.text
    (ap (map highlight_of) c.deref.ensures.value ∙ c.in_ok-pieces.ensures) c.requires.cut
    c.in_ok-push_sign_start.ensures c.in_ok-push_changed_text.ensures h) c.end_row.ensures
