use Rattle.std.proofs.Common.{[], Some}
use Rattle.miette_snippet_rules.specs.rules.Highlighting.{follows}
use Rattle.miette_tree.specs.views.Owned.{ref_source}
use Rattle.miette_graphical_rules.specs.rules.Sources.{labelled}
use Rattle.miette_graphical.specs.views.PartTexts.{IsSourceDrawn}
use Rattle.miette_graphical.specs.views.Painting.{printing_of, settings_of, settings_with}
use Rattle.miette_graphical.proofs.DrawnRows.{drawn_unlabelled, empty_list}
use Rattle.miette_graphical.proofs.Steps.{nothing_after}
use Rattle.miette_graphical.proofs.sources.push_rows_over.Goals as goal

pub returns-in-empty-clause-ok : goal.returns-in-empty-clause-ok
returns-in-empty-clause-ok g c =
    let old = c.args.painter.now in
    let by = printing_of g.H.Highlighter.is_blank g.H.Highlighter.may_follow old old in
    let s = settings_with (settings_of old) c.args.drawn_with.now in
    let source = ref_source g.S.SourceCode.source c.args.source in
    let labels = c.args.labels.now in
    nothing_after (IsSourceDrawn s (labelled (Some source) labels) by) old.out
    (drawn_unlabelled by.settings s by.blank (follows g.H.Highlighter.may_follow old.highlighter.now) source labels
    (empty_list labels c.in-empty.len_below))
