use Rattle.std.proofs.Common.{ap, false, option_map}
use Rattle.std.proofs.lemmas.Result.{on_ok_weaker}
use Rattle.miette_columns.specs.rules.Cells.{cells_from, characters}
use Rattle.miette_columns.specs.rules.Widths.{width_of}
use Rattle.miette_snippet_rules.specs.views.SnippetSettings.{settings_of}
use Rattle.miette_fix_drawing.specs.views.DiffPositions.{diff_position_of}
use Rattle.miette_fix_drawing.proofs.KeptRows.{kept_put}
use Rattle.miette_fix_drawing.proofs.kept_row.push_kept_row.Goals as goal

pub returns : goal.returns
returns g c =
    let tab = c.args.frame.now.settings.layout.now.tab_width in
    let at = c.args.at.now in
    on_ok_weaker c.end_row.result (λ h.
    kept_put (settings_of c.args.frame.now.settings) c.args.frame.now.number_width c.in_ok-number.number
    (diff_position_of at) c.args.line.now c.dots_width-dots.result
    (cells_from width_of tab false at.old_offset 0 (characters c.strip_terminator.result.now))
    (option_map (λ made. made.items) c.in_ok-cut.cut) c.args.page.now c.push_number_start.new.page
    c.push_shown_text.new.page c.end_row.new.self c.in_ok-number.ensures c.dots_width-dots.ensures
    (ap (λ bytes. cells_from width_of tab false at.old_offset 0 (characters bytes)) c.strip_terminator.ensures.text)
    c.in_ok-cut.ensures c.in_ok-push_number_start.ensures c.in_ok-push_shown_text.ensures h) c.end_row.ensures
