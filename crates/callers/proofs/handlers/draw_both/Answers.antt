use Rattle.std.proofs.Common.{refl, inl, sym, ◌∙◌, ◌∷◌, []}
use Rattle.miette_style.specs.rules.Themes.{ansi_styles, unicode_characters}
use Rattle.callers.proofs.ClauseSteps.{bare_text, both_lines, coloured-one, own_mark, plain-one, plain_text}
use Rattle.callers.proofs.ClauseSteps.{text_hangs}
use Rattle.callers.proofs.RowSteps.{host_stands}
use Rattle.callers.specs.Known.{ShowsBothLines, name_label, plain, settings_file}
use Rattle.callers.proofs.handlers.draw_both.Goals as goal

pub returns-clause-plain : goal.returns-clause-plain
returns-clause-plain g c =
    plain_text _ c.new_themed-handler-2.result _ _ _
    (plain-one c.in_ok-unicode_nocolor.field-0 _ c.in_ok-unicode_nocolor.ensures c.new_themed-handler-2.ensures)
    c.requires c.new-plain.ensures.bytes c.in_ok-render_report-2.ensures.only

pub returns-clause-colours : goal.returns-clause-colours
returns-clause-colours g c =
    bare_text c.new_themed-handler.result _ _ _
    (coloured-one c.in_ok-unicode.field-0 _ c.in_ok-unicode.ensures c.new_themed-handler.ensures)
    c.requires c.new-coloured.ensures.bytes c.in_ok-render_report.ensures.plain
    (c.themes_law.ensures.settings (record { characters = unicode_characters; styles = ansi_styles }) (inl refl))
    c.plain_law.ensures.shipped
    ∙ sym (returns-clause-plain g c)

pub returns-clause-lines : goal.returns-clause-lines
returns-clause-lines g c =
    both_lines c.new_themed-handler-2.result _
    (plain-one c.in_ok-unicode_nocolor.field-0 _ c.in_ok-unicode_nocolor.ensures c.new_themed-handler-2.ensures)
    c.requires c.in_ok-render_report-2.ensures.lines

pub returns-clause-marks : goal.returns-clause-marks
returns-clause-marks g c =
    own_mark c.new_themed-handler-2.result _
    (plain-one c.in_ok-unicode_nocolor.field-0 _ c.in_ok-unicode_nocolor.ensures c.new_themed-handler-2.ensures)
    c.requires c.in_ok-render_report-2.ensures.marks

pub returns-clause-texts : goal.returns-clause-texts
returns-clause-texts g c =
    text_hangs c.new_themed-handler-2.result _
    (plain-one c.in_ok-unicode_nocolor.field-0 _ c.in_ok-unicode_nocolor.ensures c.new_themed-handler-2.ensures)
    c.requires (c.themes_law.ensures.narrow unicode_characters (inl refl)) c.in_ok-render_report-2.ensures.texts

pub returns-clause-row : goal.returns-clause-row
returns-clause-row g c =
    let both : ShowsBothLines plain = returns-clause-lines g c in
    host_stands _ c.new_themed-handler-2.result _ _ _
    (plain-one c.in_ok-unicode_nocolor.field-0 _ c.in_ok-unicode_nocolor.ensures c.new_themed-handler-2.ensures)
    c.requires c.new-plain.ensures.bytes c.in_ok-render_report-2.ensures.holds both
    (c.shown_lines_law.ensures.rows plain settings_file (name_label ∷ []) both.shown)
    c.number_rows_law.ensures.rows c.number_rows_law.ensures.text
