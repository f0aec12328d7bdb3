use Rattle.std.proofs.Common.{true, sym, ◌∙◌}
use Rattle.miette_graphical.specs.views.Painting.{settings_of, opt_ref_source}
use Rattle.miette_graphical.proofs.ShownFixes.{over_nothing}
use Rattle.miette_graphical.proofs.fixes.push_fixes.Goals as goal

pub returns-then-is_empty-clause-ok : goal.returns-then-is_empty-clause-ok
returns-then-is_empty-clause-ok g c =
    over_nothing (settings_of c.args.painter.now) (opt_ref_source g.S.SourceCode.source c.args.source) c.args.fixes.now
    c.args.painter.now.out (sym c.is_empty.ensures ∙ c.if-is_empty.true)
