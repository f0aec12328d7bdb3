use Rattle.std.proofs.Common.{◌∙◌, ap, ap₂, min, option_map, sym}
use Rattle.miette_snippet_rules.specs.views.SnippetSettings.{settings_of}
use Rattle.miette_fix_rows.specs.rules.DiffRows.{pair_reach}
use Rattle.miette_fix_drawing.specs.views.ChangedLines.{changed_line_of}
use Rattle.miette_fix_drawing.proofs.changed_rows.reach_of_pair.Goals as goal

pub returns-in_ok-reach_of-in-Some : goal.returns-in_ok-reach_of-in-Some
returns-in_ok-reach_of-in-Some c =
    let s = settings_of c.args.settings.now in
    let line = changed_line_of c.args.line.now in
    c.min.ensures ∙ ap₂ (λ a b. min a b) c.in_ok-own.ensures c.in_ok-reach_of-in-Some.ensures
    ∙ ap (λ o. pair_reach s c.args.limit line (option_map changed_line_of o)) (sym c.in-Some.is)

pub returns-in-None : goal.returns-in-None
returns-in-None c =
    let s = settings_of c.args.settings.now in
    let line = changed_line_of c.args.line.now in
    c.in_ok-own.ensures
    ∙ ap (λ o. pair_reach s c.args.limit line (option_map changed_line_of o)) (sym c.in-None.is)
