use Rattle.miette_read.specs.rules.AnnotationLabels.{label_lists}
use Rattle.miette_read.proofs.Made.{report_says}
use Rattle.miette_read.proofs.kept_laws.own_words_stay.Goals as goal

pub returns : goal.returns
returns c = λ files said told offers. report_says said (label_lists files told) offers
