-- Errors of programs, their messages and exit codes.
use Rattle.std.specs.Prelude.{ℕ, List, ◌++◌, Option, Some, None, Result, Ok, Err, codes}
use Rattle.miette_devices.specs.declared.fault.ProgramError.{ProgramError}
use Rattle.miette_devices.specs.declared.fault.ProgramError.TheVariants.{Usage, Memory, Read, Write, Description}
use Rattle.miette_devices.specs.declared.fault.ProgramError.TheVariants.{Refused}
use Rattle.miette_devices.specs.declared.fault.Program.{Program}
use Rattle.miette_devices.specs.declared.fault.Program.TheVariants.{Draw, Job, Bench, Lint, Show}

-- the exit code of each error, in all programs except `lint` and `show`
abbrev pub usual_status : ProgramError → ℕ
usual_status Usage = 2
usual_status Memory = 1
usual_status Read = 1
usual_status Write = 1
usual_status Description = 3
usual_status Refused = 4

-- the exit code of an error; for `lint` and `show` always 2, because 1 means that they found something
abbrev pub status_of : Program → ProgramError → ℕ
status_of Draw fault = usual_status fault
status_of Job fault = usual_status fault
status_of Bench fault = usual_status fault
status_of Lint fault = 2
status_of Show fault = 2

-- the exit code of a result, given the exit code of each error
abbrev pub end_status : {T : Type 0} → (ProgramError → ℕ) → Result T ProgramError → ℕ
end_status status (Ok x) = 0
end_status status (Err fault) = status fault

abbrev pub program_name : Program → List ℕ
program_name Draw = codes "draw"
program_name Job = codes "job"
program_name Bench = codes "bench"
program_name Lint = codes "lint"
program_name Show = codes "show"

-- the usage text of a program
abbrev pub usage_of : Program → List ℕ
usage_of Draw = codes "NAME OFFSET LENGTH LABEL MESSAGE"
usage_of Job = codes "[OPTIONS]"
usage_of Bench = codes "N [OPTIONS]"
usage_of Lint = codes "[--brief | --github | --fix | --diff | --sarif [--tool TOOL]] NAME WIDTH | --lsp WIDTH"
usage_of Show = codes "[--from auto|rustc|gcc|sarif|shellcheck] [--root DIR] [--fix [--broken-code] | OPTIONS]"

-- the text of an error, except for usage errors
abbrev pub error_reason : ProgramError → Option (List ℕ)
error_reason Usage = None
error_reason Memory = Some (codes "out of memory")
error_reason Read = Some (codes "read fault")
error_reason Write = Some (codes "write fault")
error_reason Description = Some (codes "bad description")
error_reason Refused = Some (codes "report refused")

-- the program's name, this text, and a line feed; without a text, the usage text
abbrev pub reason_row : Program → Option (List ℕ) → List ℕ
reason_row program None = codes "usage: " ++ (program_name program ++ (codes " " ++ (usage_of program ++ codes "\n")))
reason_row program (Some reason) = program_name program ++ (codes ": " ++ (reason ++ codes "\n"))

-- the error message of a program
abbrev pub error_line : Program → ProgramError → List ℕ
error_line program fault = reason_row program (error_reason fault)
