use Rattle.miette_read_gcc.specs.rules.Gcc.{diagnostic_annotations}
use Rattle.miette_read_gcc.specs.rules.GccReport.{gcc_context_of, diagnostic_suggestions, diagnostic_parts}
use Rattle.miette_read.specs.rules.AnnotationLabels.{label_lists}
use Rattle.miette_read_laws.proofs.GccTexts.{gcc_stand}
use Rattle.miette_read.proofs.Made.{report_says}
use Rattle.miette_read_laws.proofs.laws.gcc_texts_stand.Goals as goal

pub returns-clause-message : goal.returns-clause-message
returns-clause-message c = λ files d.
    (let g = gcc_context_of files d in
    (report_says (diagnostic_parts g d) (label_lists files (diagnostic_annotations g d))
    (diagnostic_suggestions g d)).0)

pub returns-clause-texts : goal.returns-clause-texts
returns-clause-texts c = λ files d. gcc_stand (gcc_context_of files d) d
