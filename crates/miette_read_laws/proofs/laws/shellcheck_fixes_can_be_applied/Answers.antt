use Rattle.miette_read.proofs.Applying.{all_apply}
use Rattle.miette_read_shellcheck.specs.rules.Comments.{comment_help, comment_suggestions, comment_parts}
use Rattle.miette_read_shellcheck.specs.rules.Comments.{comment_annotations}
use Rattle.miette_read_laws.proofs.ShellcheckFixes.{shellcheck_found}
use Rattle.miette_read_laws.proofs.laws.shellcheck_fixes_can_be_applied.Goals as goal

pub returns : goal.returns
returns c = λ files d.
    all_apply files (comment_parts (comment_help files d) d) (comment_annotations files d) (comment_suggestions files d)
    (shellcheck_found files d)
