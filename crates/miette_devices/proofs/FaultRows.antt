-- The row that says why a program fails.
use Rattle.std.proofs.Common.{◌≡◌, ℕ, List, ◌++◌, Some, None, codes, Result, OnOk, ap, ap₂, subst, ◌∙◌}
use Rattle.std.proofs.lemmas.Result.{on_ok_weaker}
use Rattle.miette_devices.specs.rules.Faults.{error_line, program_name, error_reason, reason_row, usage_of}
use Rattle.miette_devices.specs.declared.fault.ProgramError.{ProgramError}
use Rattle.miette_devices.specs.declared.fault.Program.{Program}

pub row_named : {A E : Type 0} (r : Result A E) (P : List ℕ → Type 0) (program : Program) (fault : ProgramError)
    (name reason : List ℕ) → name ≡ program_name program → Some reason ≡ error_reason fault
    → OnOk r (P (name ++ (codes ": " ++ (reason ++ codes "\n")))) → OnOk r (P (error_line program fault))
row_named r P program fault name reason is_name is_reason =
    on_ok_weaker r (subst P (ap (λ n. n ++ (codes ": " ++ (reason ++ codes "\n"))) is_name
    ∙ ap (reason_row program) is_reason))

pub row_used : {A E : Type 0} (r : Result A E) (P : List ℕ → Type 0) (program : Program) (fault : ProgramError)
    (name usage : List ℕ) → name ≡ program_name program → usage ≡ usage_of program → None ≡ error_reason fault
    → OnOk r (P (codes "usage: " ++ (name ++ (codes " " ++ (usage ++ codes "\n")))))
    → OnOk r (P (error_line program fault))
row_used r P program fault name usage is_name is_usage is_reason =
    on_ok_weaker r (subst P (ap₂ (λ n u. codes "usage: " ++ (n ++ (codes " " ++ (u ++ codes "\n")))) is_name is_usage
    ∙ ap (reason_row program) is_reason))
