use Rattle.miette_protocol.specs.declared.error.RenderError.TheVariants as errors
use Rattle.miette_style.specs.views.Printouts.{printout_of}
use Rattle.miette_tree.specs.views.Handler.{AppendsOne}
use Rattle.miette_graphical.specs.views.PartTexts.{AreDrawn}
use Rattle.std.proofs.Common.{rules, ◌≡◌, Some, subst, sym}
use Rattle.miette_tree.specs.views.Owned.{ref_source}
use Rattle.miette_layout.specs.views.PrintedSnippets.{MayGive, RefusesWith}
use Rattle.miette_snippet_rules.specs.rules.Highlighting.{AreCallsOn, leaves_plain}
use Rattle.miette_graphical_rules.specs.rules.Snippets.{snippet_settings}
use Rattle.miette_graphical.specs.views.Painting.{settings_of, settings_with}
use Rattle.miette_graphical.proofs.DrawnRows.{drawn_page, refused_page}
use Rattle.miette_graphical.proofs.sources.push_label_rows.Goals as goal

pub returns-in_err-page-clause-refused : goal.returns-in_err-page-clause-refused
returns-in_err-page-clause-refused g c = λ h.
    let u = settings_of c.args.painter.now in
    let s = settings_with u c.args.drawn_with.now in
    let was = c.args.painter.now.highlighter.now in
    let blank = leaves_plain g.H.Highlighter.is_blank was in
    let source = ref_source g.S.SourceCode.source c.args.source in
    let happen = AreCallsOn g.H.Highlighter.may_follow was c.snippets.new.highlighter in
    let refused : c.in_err-page.field-0.0 ≡ errors.Refused = search rules in
    refused_page s source c.args.labels.now blank c.over-page.result
    (subst (λ e. RefusesWith (record { settings = snippet_settings s; blank = blank; happen = happen }) source
    c.args.labels.now c.over-page.result e) refused c.in_err-page.ensures.gives)

pub returns-clause-ok : goal.returns-clause-ok
returns-clause-ok g c =
    let u = settings_of c.args.painter.now in
    let s = settings_with u c.args.drawn_with.now in
    let was = c.args.painter.now.highlighter.now in
    let blank = leaves_plain g.H.Highlighter.is_blank was in
    let source = ref_source g.S.SourceCode.source c.args.source in
    let happen = AreCallsOn g.H.Highlighter.may_follow was c.snippets.new.highlighter in
    let before = c.args.painter.now.out in
    let over : c.over-page.result ≡ printout_of before = search rules in
    subst (λ out. AppendsOne (AreDrawn s source c.args.labels.now
    (record { settings = u; blank = blank; happen = happen }))
    before out) (sym c.in_ok-painter.ensures)
    (drawn_page u s source c.args.labels.now blank before c.in_ok-page.page
    (subst (λ over. MayGive (record { settings = snippet_settings s; blank = blank; happen = happen }) source
    c.args.labels.now over (Some c.in_ok-page.page)) over c.in_ok-page.ensures.gives))
