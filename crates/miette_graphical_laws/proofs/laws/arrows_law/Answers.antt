use Rattle.miette_graphical_laws.proofs.Arrows.{first-stands, inner-stand, printed-rows, rows-stand}
use Rattle.miette_graphical_laws.proofs.ArrowRows.{drawn-stand}
use Rattle.miette_graphical_laws.proofs.laws.arrows_law.Goals as goal

pub returns-clause-rows : goal.returns-clause-rows
returns-clause-rows c = λ s outer is_last text wrap_lines. rows-stand s outer is_last text wrap_lines

pub returns-clause-first : goal.returns-clause-first
returns-clause-first c = λ s outer is_last text wrap_lines. first-stands s outer is_last text wrap_lines

pub returns-clause-inner : goal.returns-clause-inner
returns-clause-inner c = λ s arrow front back rows wrap_lines. inner-stand s arrow front back rows wrap_lines

pub returns-clause-printed : goal.returns-clause-printed
returns-clause-printed c = λ rows. printed-rows rows

pub returns-clause-drawn : goal.returns-clause-drawn
returns-clause-drawn c = λ s arrow drawn text wrap_lines held. drawn-stand s arrow drawn text wrap_lines held
