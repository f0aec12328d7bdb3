use Rattle.std.proofs.Common.{◌∙◌, ap, eqb-true, map, option_map, sym}
use Rattle.std.proofs.lemmas.Result.{on_ok_weaker}
use Rattle.miette_style.specs.views.Printouts.{◌⊕◌}
use Rattle.miette_style.specs.views.Tokens.{row_tokens}
use Rattle.miette_style.specs.rules.Themes.{theme_of}
use Rattle.miette_snippet_rules.specs.rules.CutLines.{dots}
use Rattle.miette_snippet_rules.specs.rules.Highlighting.{highlight_of}
use Rattle.miette_snippet_rules.specs.views.Cuts.{made_runs}
use Rattle.miette_snippet_rules.specs.steps.PlainCut.{plain_told}
use Rattle.miette_snippet_rules.specs.views.LineTexts.{text_cells}
use Rattle.miette_snippet_rules.proofs.CutPlain.{plain_cut_put}
use Rattle.miette_snippet_rules.proofs.line_printing.push_shown_text.Goals as goal

pub push_plain_cut-requires : goal.push_plain_cut-requires
push_plain_cut-requires g c = sym c.all_printable.ensures ∙ c.if-all_printable.true

pub returns-then-all_printable : goal.returns-then-all_printable
returns-then-all_printable g c =
    on_ok_weaker c.push_plain_cut.result (λ h.
    plain_cut_put (dots (theme_of c.args.theme.now)) c.args.text.now.tab c.args.text.now.start c.args.pieces.now
    c.in-Some.cut.items
    c.args.text.now.bytes.now c.args.page.now c.push_plain_cut.new.page
    (eqb-true _ _ (sym c.is_empty.ensures ∙ c.if-is_empty.true)) (sym c.all_printable.ensures ∙ c.if-all_printable.true)
    (h ∙ ap (λ cut. c.args.page.now ⊕ plain_told (dots (theme_of c.args.theme.now)) cut c.args.text.now.bytes.now)
    c.deref.ensures.value)
    ∙ ap (λ cut. c.args.page.now ⊕ row_tokens (made_runs (dots (theme_of c.args.theme.now))
    (option_map (λ made. made.items) cut)
    (map highlight_of c.args.pieces.now) (text_cells c.args.text.now))) (sym c.in-Some.is)) c.push_plain_cut.ensures
