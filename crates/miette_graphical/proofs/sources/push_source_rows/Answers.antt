use Rattle.std.proofs.Common.{[], sym, subst}
use Rattle.miette_snippet_rules.specs.rules.Highlighting.{follows}
use Rattle.miette_graphical_rules.specs.rules.Sources.{labelled}
use Rattle.miette_graphical.specs.views.PartTexts.{IsSourceDrawn}
use Rattle.miette_graphical.specs.views.Painting.{printing_of, settings_of, settings_with, opt_ref_source}
use Rattle.miette_graphical.proofs.DrawnRows.{drawn_nowhere}
use Rattle.miette_graphical.proofs.Steps.{nothing_after}
use Rattle.miette_graphical.proofs.sources.push_source_rows.Goals as goal

pub returns-in-None-clause-ok : goal.returns-in-None-clause-ok
returns-in-None-clause-ok g c =
    let old = c.args.painter.now in
    let by = printing_of g.H.Highlighter.is_blank g.H.Highlighter.may_follow old old in
    let s = settings_with (settings_of old) c.args.drawn_with.now in
    let labels = c.args.labels.now in
    nothing_after (IsSourceDrawn s (labelled (opt_ref_source g.S.SourceCode.source c.args.source) labels) by) old.out
    (subst (λ o. IsSourceDrawn s (labelled (opt_ref_source g.S.SourceCode.source o) labels) by []) (sym c.in-None.is)
    (drawn_nowhere by.settings s by.blank (follows g.H.Highlighter.may_follow old.highlighter.now) labels))
