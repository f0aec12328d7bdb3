use Rattle.std.proofs.Common.{◌∙◌, ap, false}
use Rattle.std.proofs.lemmas.Result.{on_ok_weaker}
use Rattle.miette_columns.specs.rules.Widths.{width_of}
use Rattle.miette_style.specs.views.Printouts.{◌⊕◌}
use Rattle.miette_style.specs.views.Tokens.{rows_tokens}
use Rattle.miette_snippet_rules.specs.views.SnippetSettings.{settings_of}
use Rattle.miette_snippet_rules.proofs.PassedCells.{cells_come_from}
use Rattle.miette_fix_rows.specs.rules.DiffTexts.{without_terminator}
use Rattle.miette_fix_drawing.proofs.ChangedRows.{near_put, near_readable, near_within}
use Rattle.miette_fix_drawing.proofs.changed_rows.push_changed_rows.Goals as goal

pub push_near_rows-requires-clause-within : goal.push_near_rows-requires-clause-within
push_near_rows-requires-clause-within g c =
    near_within c.args.line.now c.near_line-near.result c.near_line-near.ensures c.requires.within

pub push_near_rows-requires-clause-apart : goal.push_near_rows-requires-clause-apart
push_near_rows-requires-clause-apart g c = c.near_line-near.ensures.apart

pub push_near_rows-requires-clause-other : goal.push_near_rows-requires-clause-other
push_near_rows-requires-clause-other g c =
    near_readable c.args.other c.near_other-beside.result c.near_other-beside.ensures c.requires.other

pub returns : goal.returns
returns g c =
    let s = settings_of c.args.frame.now.settings in
    let line = c.args.line.now in
    on_ok_weaker c.push_near_rows.result (λ h. h
    ∙ ap (λ rows. c.args.page.now ⊕ rows_tokens rows)
    (near_put s c.args.frame.now.number_width line c.near_line-near.result c.args.other c.near_other-beside.result
    (cells_come_from width_of c.args.frame.now.settings.layout.now.tab_width false line.start 0
    (without_terminator line.text.now)) c.near_line-near.ensures c.near_other-beside.ensures)) c.push_near_rows.ensures
