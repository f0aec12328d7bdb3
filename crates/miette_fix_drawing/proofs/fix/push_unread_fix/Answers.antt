use Rattle.std.proofs.Common.{sym, ◌∙◌}
use Rattle.std.proofs.lemmas.Result.{on_ok_weaker}
use Rattle.miette_snippet_rules.specs.views.SnippetSettings.{settings_of}
use Rattle.miette_fix_drawing.proofs.FixRows.{edits_put, no_edit_put}
use Rattle.miette_fix_drawing.proofs.fix.push_unread_fix.Goals as goal

pub returns-then-is_empty : goal.returns-then-is_empty
returns-then-is_empty g c = λ whole.
    no_edit_put (settings_of c.args.settings.now) whole c.edits.result.now c.args.fix.now.edits c.args.page.now
    c.edits.ensures (sym c.is_empty.ensures ∙ c.if-is_empty.true)

pub returns : goal.returns
returns g c =
    on_ok_weaker c.push_refused_fix.result (λ h. λ whole.
    edits_put (settings_of c.args.settings.now) whole c.edits.result.now c.args.fix.now.edits c.args.page.now
    c.push_refused_fix.new.page c.edits.ensures (sym c.is_empty.ensures ∙ c.if-is_empty.false)
    h) c.push_refused_fix.ensures
