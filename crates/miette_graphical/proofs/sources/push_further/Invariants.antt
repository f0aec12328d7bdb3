use Rattle.std.proofs.Common.{length, map}
use Rattle.miette_style.specs.rules.Themes.{theme_of}
use Rattle.miette_tree.specs.views.Attachments.{section_of}
use Rattle.miette_graphical_rules.specs.rules.Sources.{after_labels, further_sources}
use Rattle.miette_graphical.specs.views.Painting.{settings_of}
use Rattle.miette_graphical.proofs.Remaining.{Left}
use Rattle.miette_graphical.proofs.SourceRows.{left_in, sources_left}
use Rattle.miette_graphical.proofs.sources.push_further.Given as goal

abbrev pub invariant-loop-rest : goal.invariant-loop-rest
invariant-loop-rest g l =
    let value = section_of g.S.SourceCode.source in
    let s = settings_of l.fn.painter in
    Left g.H.Highlighter.is_blank g.H.Highlighter.may_follow sources_left l.fn.painter l.painter
    (left_in (after_labels l.before (record s { layout = l.layout })) (further_sources (map value l.sections)))
    (left_in (record s { theme = theme_of l.theme; layout = l.layout }) (further_sources (map value l.rest)))

abbrev pub decreases-loop-rest : goal.decreases-loop-rest
decreases-loop-rest g l = length l.rest
