use Rattle.std.proofs.Common.{◌≡◌, ◌++◌, subst}
use Rattle.miette_tree.specs.rules.Tree.{head}
use Rattle.miette_tree.specs.views.Report.{tree_of}
use Rattle.miette_graphical_rules.specs.rules.DiagnosticText.{help_text}
use Rattle.miette_graphical.specs.views.PartTexts.{AppendsFixes}
use Rattle.miette_graphical.specs.views.Painting.{settings_of, opt_ref_source}
use Rattle.miette_graphical.proofs.Steps.{own_after}
use Rattle.miette_graphical.proofs.body.push_body.Goals as goal

pub returns-clause-ok : goal.returns-clause-ok
returns-clause-ok g c =
    let drawn = c.push_rows.new.painter in
    let helped = c.push_help.new.painter in
    let new = c.push_fixes.new.painter in
    let source = opt_ref_source g.S.SourceCode.source c.args.source in
    let m = head (tree_of g.D.Diagnostic.meaning g.S.SourceCode.source c.args.report.now) in
    own_after g.H.Highlighter.is_blank g.H.Highlighter.may_follow source m c.args.painter.now drawn helped new
    c.in_ok-push_rows.ensures.ok c.push_rows.ensures.keeps
    (subst (λ o. helped.out ≡ drawn.out ++ help_text (settings_of drawn) o) c.help.ensures
    c.in_ok-push_help.ensures.text) c.push_help.ensures.stays
    (subst (λ fixes. AppendsFixes (settings_of helped) source fixes helped.out new.out) c.fixes.ensures
    c.in_ok-push_fixes.ensures.ok) c.push_fixes.ensures.stays
