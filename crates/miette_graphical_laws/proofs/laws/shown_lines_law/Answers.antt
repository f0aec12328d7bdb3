use Rattle.miette_graphical_rules.specs.rules.Snippets.{drawn_rows}
use Rattle.miette_graphical_rules.specs.rules.Sources.{drawn_with, sources_of}
use Rattle.miette_graphical_laws.proofs.ShownLines.{lines_show, lines_stand, sources_stand, stand_whole}
use Rattle.miette_graphical_laws.proofs.laws.shown_lines_law.Goals as goal

pub returns-clause-rows : goal.returns-clause-rows
returns-clause-rows c = lines_stand

pub returns-clause-texts : goal.returns-clause-texts
returns-clause-texts c = lines_show

pub returns-clause-sources : goal.returns-clause-sources
returns-clause-sources c = λ s source m a. sources_stand (drawn_with m.snippets s) (sources_of source m) a.sources
    (drawn_rows s source m a) (stand_whole (drawn_rows s source m a))
