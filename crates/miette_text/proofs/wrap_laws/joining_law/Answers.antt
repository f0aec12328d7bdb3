use Rattle.miette_text.proofs.Erasing.{append-tame, erase-append}
use Rattle.miette_text.proofs.wrap_laws.joining_law.Goals as goal

pub returns : goal.returns
returns c = record { tame = append-tame; erase = erase-append }
