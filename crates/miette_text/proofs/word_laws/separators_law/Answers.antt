use Rattle.miette_text.proofs.SameWords.{words-same}
use Rattle.miette_text.proofs.word_laws.separators_law.Goals as goal

pub returns : goal.returns
returns c = words-same
