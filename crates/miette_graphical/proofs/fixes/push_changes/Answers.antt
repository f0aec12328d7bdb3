use Rattle.std.proofs.Common.{ap, sym, subst}
use Rattle.std.proofs.lemmas.Result.{on_ok_weaker}
use Rattle.miette_style.specs.views.Printouts.{◌⊕◌}
use Rattle.miette_style.specs.views.Tokens.{rows_tokens}
use Rattle.miette_snippet_rules.specs.views.SnippetSettings.{settings_of}
use Rattle.miette_graphical.specs.steps.FixSources.{AsksItself, IsGivenOver, fix_rows_over}
use Rattle.miette_graphical.proofs.ShownFixes.{rows_printed_over}
use Rattle.miette_graphical.proofs.fixes.push_changes.Goals as goal

pub returns-in-NoSource : goal.returns-in-NoSource
returns-in-NoSource g c = λ source fails given.
    let none = subst (λ o. IsGivenOver o source fails) c.in-NoSource.is given in
    let s = settings_of c.args.settings.now in
    ap (λ o. c.args.page.now ⊕ rows_tokens (fix_rows_over s o fails c.args.fix.now.edits)) (sym none)

pub returns-in-Unread : goal.returns-in-Unread
returns-in-Unread g c =
    on_ok_weaker c.push_unread_fix.result (λ h source fails given.
    let is = subst (λ o. IsGivenOver o source fails) c.in-Unread.is given in
    rows_printed_over (settings_of c.args.settings.now) source is.0 fails _ c.args.fix.now.edits c.args.page.now
    c.push_unread_fix.new.page is.1 is.2 (h is.0)) c.push_unread_fix.ensures

pub returns-in-Whole : goal.returns-in-Whole
returns-in-Whole g c =
    on_ok_weaker c.push_fix_rows.result (λ h source fails given.
    let is = subst (λ o. IsGivenOver o source fails) c.in-Whole.is given in
    rows_printed_over (settings_of c.args.settings.now) source is.0 fails _ c.args.fix.now.edits c.args.page.now
    c.push_fix_rows.new.page is.1 is.2 (h is.0 is.3 is.4)) c.push_fix_rows.ensures

pub push_fix_rows-requires : goal.push_fix_rows-requires
push_fix_rows-requires g c = record {
  asked = subst (AsksItself g.S.SourceCode.source) c.in-Whole.is c.requires;
}
