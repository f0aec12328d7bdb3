use Rattle.std.proofs.Common.{◌≡◌, rules}
use Rattle.miette_style.specs.views.Printouts.{printout_of}
use Rattle.miette_graphical_rules.specs.rules.Snippets.{snippet_settings}
use Rattle.miette_graphical.specs.steps.FixSources.{fix_rows_over}
use Rattle.miette_graphical.specs.views.Painting.{settings_of}
use Rattle.miette_graphical.proofs.ShownFixes.{fix_after, rows_after}
use Rattle.miette_graphical.proofs.fixes.push_fix.Goals as goal

pub returns-clause-text : goal.returns-clause-text
returns-clause-text g c = λ source fails given.
    let old = c.args.painter.now in
    let told = c.push_text.new.painter in
    let rows = fix_rows_over (snippet_settings (settings_of told)) source fails c.args.fix.now.edits in
    let over : c.over-page.result ≡ printout_of told.out = search rules in
    fix_after (settings_of old) (settings_of told) source fails c.args.fix.now _ old.out told.out _ c.message.ensures
    c.in_ok-push_text.ensures.text c.push_text.ensures.stays.0
    (rows_after told.out rows c.over-page.result c.push_changes.new.page _ over
    (c.in_ok-push_changes.ensures source fails given) c.in_ok-painter.ensures)
