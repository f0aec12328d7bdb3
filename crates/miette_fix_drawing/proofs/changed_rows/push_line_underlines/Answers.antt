use Rattle.std.proofs.Common.{◌∙◌, ap, map, option_map}
use Rattle.std.proofs.lemmas.Result.{on_ok_weaker}
use Rattle.miette_style.specs.views.Printouts.{◌⊕◌}
use Rattle.miette_style.specs.views.Tokens.{rows_tokens}
use Rattle.miette_snippet_rules.specs.rules.CutLines.{row_underlines}
use Rattle.miette_snippet_rules.specs.rules.Frames.{other_start}
use Rattle.miette_snippet_rules.specs.views.MadeUnderlines.{underline_of}
use Rattle.miette_snippet_rules.specs.views.SnippetSettings.{settings_of}
use Rattle.miette_fix_rows.specs.rules.DiffRows.{before_some, changed_cut, row_if_some}
use Rattle.miette_fix_rows.specs.rules.DiffTexts.{edit_underlines, sign_runs}
use Rattle.miette_fix_drawing.specs.views.ChangedLines.{changed_line_of}
use Rattle.miette_fix_drawing.proofs.changed_rows.push_line_underlines.Goals as goal

pub returns : goal.returns
returns g c =
    let s = settings_of c.args.frame.now.settings in
    let w = c.args.frame.now.number_width in
    let line = c.args.line.now in
    let cut = changed_cut s (changed_line_of line) (option_map changed_line_of c.args.other.now) in
    on_ok_weaker c.push_edit_underlines.result (λ h. h
    ∙ ap (λ ms. c.args.page.now ⊕ rows_tokens (before_some (other_start s w)
    (row_if_some (sign_runs s line.sign 0 ms))))
    (ap (map underline_of) c.deref.ensures.value ∙ c.in_ok-shown.ensures cut c.requires.cut
    ∙ ap (row_underlines c.dots_width-dots.result cut) c.in_ok-marks.ensures
    ∙ ap (λ n. row_underlines n cut (edit_underlines s line.start line.text.now line.style line.spans.now))
    c.dots_width-dots.ensures)) c.push_edit_underlines.ensures
