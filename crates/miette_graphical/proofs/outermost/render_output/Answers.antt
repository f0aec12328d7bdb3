use Rattle.std.proofs.Common.{[], rules, subst, sym}
use Rattle.miette_snippet_rules.specs.rules.Highlighting.{follows, leaves_plain}
use Rattle.miette_tree.specs.views.Handler.{AppendsOne}
use Rattle.miette_tree.specs.views.Report.{tree_of}
use Rattle.miette_graphical.specs.views.PartTexts.{IsOutermost}
use Rattle.miette_graphical.specs.views.Painting.{printing}
use Rattle.miette_graphical_rules.specs.views.GraphicalSettings.{handler_settings}
use Rattle.miette_graphical.proofs.outermost.render_output.Goals as goal

pub returns-clause-ok : goal.returns-clause-ok
returns-clause-ok g c =
    let may = g.H.Highlighter.may_follow in
    let is_blank = g.H.Highlighter.is_blank in
    let was = c.args.highlighter.now in
    let after = c.push_report-printed.new.painter.highlighter.now in
    let tree = tree_of g.D.Diagnostic.meaning g.S.SourceCode.source c.args.report.now in
    let s = handler_settings c.args.settings.now in
    let by = printing s (leaves_plain is_blank was) (follows may was) (follows may after) in
    let printed = c.push_report-printed.new.painter.out in
    let drawn : AppendsOne (IsOutermost tree by) [] printed =
    subst (λ o. AppendsOne (IsOutermost tree by) o printed) c.for_text.ensures c.in_ok-printed.ensures.ok in
    subst (λ h. IsOutermost tree (printing s (leaves_plain is_blank was) (follows may was) (follows may h)) printed)
    {x = after} (search rules) (subst (λ x. IsOutermost tree by x) (sym drawn.appended) drawn.is_given)
