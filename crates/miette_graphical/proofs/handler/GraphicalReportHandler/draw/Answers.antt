use Rattle.std.proofs.Common.{◌≡◌, ap, refl, subst, encode_utf8_all}
use Rattle.miette_snippet_rules.specs.rules.Highlighting.{follows, leaves_plain}
use Rattle.miette_tree.specs.views.Report.{tree_of}
use Rattle.miette_graphical.specs.views.PartTexts.{IsOutermost}
use Rattle.miette_graphical.specs.views.Painting.{printing}
use Rattle.miette_graphical_rules.specs.views.GraphicalSettings.{handler_settings}
use Rattle.miette_graphical.proofs.handler.GraphicalReportHandler.draw.Goals as goal

pub returns-clause-calls : goal.returns-clause-calls
returns-clause-calls g c =
    let may = g.H.Highlighter.may_follow in
    let is_blank = g.H.Highlighter.is_blank in
    let tree = tree_of g.D.Diagnostic.meaning g.S.SourceCode.source c.args.report.now in
    let own = c.args.self.now in
    let after = c.render_output.new.highlighter in
    let text = c.in_ok-printed.printed in
    let had : c.self.inside.highlighter ≡ own.highlighter = ap (λ it. it.highlighter) c.self.view_is in
    let is : handler_settings c.self.inside.settings ≡ own.settings = ap (λ it. it.settings) c.self.view_is in
    record {
      text = encode_utf8_all text;
      is_given = (
        text,
        subst (λ s. IsOutermost tree (printing s (leaves_plain is_blank own.highlighter)
            (follows may own.highlighter) (follows may after)) text) is
            (subst (λ h. IsOutermost tree (printing (handler_settings c.self.inside.settings)
            (leaves_plain is_blank h) (follows may h) (follows may after)) text) had c.in_ok-printed.ensures.ok),
        refl,
      );
      appended = c.in_ok-append_output.ensures.ok;
    }
