-- The request in the arguments of `job`, and its exit code.
use Rattle.std.specs.Prelude.{◌≡◌, ◌⊎◌, ℕ, Bool, List, Option, Some, None, codes}
use Rattle.std.specs.Option.{option_map, option_map_or}
use Rattle.miette_lsp.specs.rules.LogWords.{LogRequest, logging_of}
use Rattle.miette_program.specs.rules.OptionWords.{JobRequest, parsed_arguments}
use Rattle.miette_report.specs.rules.AppliedFixes.{IsFixStatus, fixing_of}
use Rattle.miette_report.specs.rules.JobCalls.{IsJobStatus}
use Rattle.miette_report.specs.rules.Logs.{IsLogStatus}

-- the report, one log of it, or its source after fixes: all of them, or those that may be applied without a look
pub data Request : Type 0 where
  report : JobRequest → Request
  log : LogRequest → Request
  fix : Bool → Request

-- The arguments for fixes and for logs allow no others. All other arguments are those of the report.
abbrev pub requested_by : List (List ℕ) → Option Request
requested_by words =
    option_map_or (λ all. Some (fix all)) (fixing_of words)
    (option_map_or (λ asked. Some (log asked)) (logging_of (codes "job") words) (option_map report (parsed_arguments words)))

-- The exit code, by the request and the input. For wrong arguments it is 2, or 1 if allocation fails before they are
-- checked.
abbrev pub IsStatusFor : List (List ℕ) → Option Request → Option (List ℕ) → ℕ → Type 0
IsStatusFor words None told status = (status ≡ 2) ⊎ (status ≡ 1)
IsStatusFor words (Some (report asked)) told status = IsJobStatus ⊥ words told status
IsStatusFor words (Some (log asked)) told status = IsLogStatus told status
IsStatusFor words (Some (fix all)) told status = IsFixStatus all told status

abbrev pub IsProgramStatus : List (List ℕ) → Option (List ℕ) → ℕ → Type 0
IsProgramStatus words told status = IsStatusFor words (requested_by words) told status
