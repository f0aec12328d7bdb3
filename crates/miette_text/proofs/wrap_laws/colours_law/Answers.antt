use Rattle.miette_text.proofs.FilledColours.{erase-coloured}
use Rattle.miette_text.proofs.wrap_laws.colours_law.Goals as goal

pub returns : goal.returns
returns c = erase-coloured
