use Rattle.miette_read.specs.rules.Rustc.{message_annotations}
use Rattle.miette_read.specs.rules.RustcReport.{message_suggestions, message_parts}
use Rattle.miette_read.proofs.Applying.{all_apply}
use Rattle.miette_read.proofs.RustcTexts.{rustc_found}
use Rattle.miette_read.proofs.kept_laws.rustc_fixes_can_be_applied.Goals as goal

pub returns : goal.returns
returns c = λ build d.
    all_apply build.files (message_parts build.files d) (message_annotations build d)
    (message_suggestions build.files d) (rustc_found build d)
