use Rattle.std.proofs.Common.{◌∙◌, arith, eqb-true, sym}
use Rattle.std.proofs.lemmas.Bool.Decides.{nat_tests}
use Rattle.std.proofs.lemmas.Result.{on_ok_weaker}
use Rattle.miette_snippet_rules.specs.views.SnippetSettings.{settings_of}
use Rattle.miette_fix_drawing.proofs.MarkRows.{marks_put, no_marks_put}
use Rattle.miette_fix_drawing.proofs.edit_underline_row.push_edit_underlines.Goals as goal

pub returns-then-is_empty : goal.returns-then-is_empty
returns-then-is_empty g c =
    no_marks_put (settings_of c.args.frame.now.settings) c.args.frame.now.number_width c.args.sign c.args.marks.now
    c.args.page.now (eqb-true _ _ (sym c.is_empty.ensures ∙ c.if-is_empty.true))

pub returns : goal.returns
returns g c =
    let some = sym c.is_empty.ensures ∙ c.if-is_empty.false in
    on_ok_weaker c.end_row.result (λ h.
    marks_put (settings_of c.args.frame.now.settings) c.args.frame.now.number_width c.args.sign c.args.marks.now
    c.args.page.now c.push_other_start.new.page c.push_sign_runs.new.page c.end_row.new.self
    (grind (arith, nat_tests, some)) c.in_ok-push_other_start.ensures
    (c.in_ok-push_sign_runs.ensures (settings_of c.args.frame.now.settings)) h) c.end_row.ensures
