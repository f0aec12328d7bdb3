use Rattle.miette_graphical_laws.proofs.Barred.{have-room, shipped-bars, stand-after}
use Rattle.miette_graphical_laws.proofs.Levels.{levels-hold, levels-stand}
use Rattle.miette_graphical_laws.proofs.laws.levels_law.Goals as goal

pub returns-clause-drawn : goal.returns-clause-drawn
returns-clause-drawn c = λ s arrows drawn text wrap_lines held. levels-stand arrows s drawn text wrap_lines held

pub returns-clause-bytes : goal.returns-clause-bytes
returns-clause-bytes c = λ drawing s t a text wrap_lines held. levels-hold drawing s t a text wrap_lines held

pub returns-clause-room : goal.returns-clause-room
returns-clause-room c = λ s arrows rows bars. have-room s arrows rows bars

pub returns-clause-bars : goal.returns-clause-bars
returns-clause-bars c = λ s arrows rows bars. stand-after s arrows rows bars

pub returns-clause-shipped : goal.returns-clause-shipped
returns-clause-shipped c = λ s shipped. shipped-bars s shipped
