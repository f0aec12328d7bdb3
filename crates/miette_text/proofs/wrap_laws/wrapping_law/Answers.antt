use Rattle.miette_text.proofs.Erasing.{wrapped-tame, erase-wrapped}
use Rattle.miette_text.proofs.wrap_laws.wrapping_law.Goals as goal

pub returns : goal.returns
returns c = record { tame = wrapped-tame; erase = erase-wrapped }
