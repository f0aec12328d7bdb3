use Rattle.miette_text.proofs.WordLaws.{no-closing, no-half, no-inner, no-mark}
use Rattle.miette_text.proofs.word_laws.words_law.Goals as goal

pub returns : goal.returns
returns c = record { marks = no-mark; closing = no-closing; opening = no-inner; flags = no-half }
