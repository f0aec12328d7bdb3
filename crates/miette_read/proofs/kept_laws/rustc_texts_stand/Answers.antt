use Rattle.miette_read.specs.rules.Rustc.{message_annotations}
use Rattle.miette_read.specs.rules.RustcReport.{message_suggestions, message_parts}
use Rattle.miette_read.specs.rules.AnnotationLabels.{label_lists}
use Rattle.miette_read.proofs.Made.{report_says}
use Rattle.miette_read.proofs.RustcTexts.{rustc_stand, rustc_written}
use Rattle.miette_read.proofs.kept_laws.rustc_texts_stand.Goals as goal

pub returns-clause-message : goal.returns-clause-message
returns-clause-message c = λ build d.
    (report_says (message_parts build.files d) (label_lists build.files (message_annotations build d))
    (message_suggestions build.files d)).0

pub returns-clause-texts : goal.returns-clause-texts
returns-clause-texts c = rustc_stand

pub returns-clause-written : goal.returns-clause-written
returns-clause-written c = λ build d c text. rustc_written build d c text
