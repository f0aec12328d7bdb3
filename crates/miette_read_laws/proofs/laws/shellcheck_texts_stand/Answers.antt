use Rattle.miette_read.specs.rules.AnnotationLabels.{label_lists}
use Rattle.miette_read.proofs.Made.{report_says}
use Rattle.miette_read_shellcheck.specs.rules.Comments.{comment_help, comment_suggestions, comment_parts}
use Rattle.miette_read_shellcheck.specs.rules.Comments.{comment_annotations}
use Rattle.miette_read_laws.proofs.ShellcheckTexts.{comment_stands}
use Rattle.miette_read_laws.proofs.laws.shellcheck_texts_stand.Goals as goal

pub returns-clause-message : goal.returns-clause-message
returns-clause-message c = λ files d.
    (report_says (comment_parts (comment_help files d) d) (label_lists files (comment_annotations files d))
    (comment_suggestions files d)).0

pub returns-clause-texts : goal.returns-clause-texts
returns-clause-texts c = λ files d. comment_stands files d
