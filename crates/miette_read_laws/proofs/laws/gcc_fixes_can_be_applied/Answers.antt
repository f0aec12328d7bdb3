use Rattle.miette_read_gcc.specs.rules.Gcc.{diagnostic_annotations}
use Rattle.miette_read_gcc.specs.rules.GccReport.{gcc_context_of, diagnostic_suggestions, diagnostic_parts}
use Rattle.miette_read.proofs.Applying.{all_apply}
use Rattle.miette_read_laws.proofs.GccFixes.{gcc_found}
use Rattle.miette_read_laws.proofs.laws.gcc_fixes_can_be_applied.Goals as goal

pub returns : goal.returns
returns c = λ files d.
    (let g = gcc_context_of files d in all_apply files (diagnostic_parts g d) (diagnostic_annotations g d)
    (diagnostic_suggestions g d) (gcc_found g d))
