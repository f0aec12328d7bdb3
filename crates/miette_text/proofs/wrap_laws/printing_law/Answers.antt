use Rattle.miette_text.proofs.Printing.{print-tame, print-erase}
use Rattle.miette_text.proofs.wrap_laws.printing_law.Goals as goal

pub returns : goal.returns
returns c = record { tame = print-tame; erase = print-erase }
