-- The texts of errors and names.
use Rattle.std.specs.Prelude.{ℕ, List, ◌++◌, codes, decimal}
use Rattle.miette_fixes.specs.declared.applicability.Applicability.{Applicability}
use Rattle.miette_fixes.specs.declared.applicability.Applicability.TheVariants.{MachineApplicable, MaybeIncorrect}
use Rattle.miette_fixes.specs.declared.applicability.Applicability.TheVariants.{HasPlaceholders, Unspecified}
use Rattle.miette_fixes.specs.declared.error.FixError.{FixError}
use Rattle.miette_fixes.specs.declared.error.FixError.TheVariants.{OutOfBounds, Overlap, Memory}

-- the name of an applicability in descriptions and JSON
abbrev pub applicability_name : Applicability → List ℕ
applicability_name MachineApplicable = codes "machine-applicable"
applicability_name MaybeIncorrect = codes "maybe-incorrect"
applicability_name HasPlaceholders = codes "has-placeholders"
applicability_name Unspecified = codes "unspecified"

-- what is printed for a fix that can't be applied
abbrev pub fix_error_text : FixError → List ℕ
fix_error_text (OutOfBounds edit) = codes "edits[" ++ decimal edit ++ codes "] ends after the end of the source"
fix_error_text (Overlap first second) =
    codes "edits[" ++ (decimal first ++ (codes "] and edits[" ++ (decimal second ++ codes "] overlap")))
fix_error_text Memory = codes "memory allocation failed"
