use Rattle.std.proofs.Common.{[], ap, eqb-true, sym, ◌∙◌, ◌∷◌}
use Rattle.miette_style.specs.declared.page.TheConstants.{PLAIN}
use Rattle.miette_style.specs.views.Printouts.{◌⊕◌}
use Rattle.miette_style.specs.views.Tokens.{begins}
use Rattle.std.proofs.lemmas.Result.{on_ok_weaker}
use Rattle.miette_snippet_rules.proofs.TextWithoutTabs.{untabbed_put}
use Rattle.miette_snippet_rules.proofs.TabbedText.{tabbed_put, tabbed_ascii}
use Rattle.miette_snippet_rules.proofs.line_printing.push_text.Goals as goal

pub returns-in-Some : goal.returns-in-Some
returns-in-Some g c =
    on_ok_weaker c.push_str.result (λ h.
    untabbed_put c.args.text.now.tab c.args.text.now.start c.args.text.now.bytes.now c.in-Some.untabbed.now
    c.args.pieces.now c.args.page.now c.begin.new.self c.push_str.new.self
    (eqb-true _ _ (sym c.is_empty.ensures ∙ c.if-is_empty.true)) c.in-Some.ensures.same c.in-Some.ensures.utf8
    c.in-Some.ensures.untabbed
    (c.in_ok-begin.ensures ∙ ap (λ page. page ⊕ begins PLAIN ∷ []) c.in_ok-make_room.ensures) h) c.push_str.ensures

pub push_tabbed-requires : goal.push_tabbed-requires
push_tabbed-requires g c = tabbed_ascii c.args.text.now.bytes.now (sym c.all_tabbed.ensures ∙ c.if-all_tabbed.true)

pub returns-then-all_tabbed : goal.returns-then-all_tabbed
returns-then-all_tabbed g c =
    on_ok_weaker c.push_tabbed.result (λ h.
    tabbed_put c.args.text.now.tab c.args.text.now.start c.args.text.now.bytes.now c.args.pieces.now c.args.page.now
    c.begin-then-all_tabbed.new.self c.push_tabbed.new.page
    (eqb-true _ _ (sym c.is_empty.ensures ∙ c.if-is_empty.true)) (sym c.all_tabbed.ensures ∙ c.if-all_tabbed.true)
    c.in_ok-begin-2.ensures h) c.push_tabbed.ensures
