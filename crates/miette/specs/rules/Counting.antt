-- Counts of reports by severity, and their text.
use Rattle.std.specs.Prelude.{ℕ, ◌+◌, ◌-◌, ◌^◌, min, List, [], ◌∷◌, ◌++◌, Option, None, Some, if◌then◌else◌, nat_eq}
use Rattle.std.specs.Prelude.{codes, decimal}
use Rattle.miette_protocol.specs.declared.protocol.Severity.{Severity}
use Rattle.miette_protocol.specs.declared.protocol.Severity.TheVariants.{Advice, Warning, Error}
use Rattle.miette.specs.declared.reporter.counts.Counts.{Counts}

abbrev pub no_counts : Counts
no_counts = record { errors = 0; warnings = 0; advices = 0 }

-- one more, at most the largest `usize`
abbrev pub count_one_more : ℕ → ℕ
count_one_more n = min (n + 1) (2 ^ 64 - 1)

-- a report without a severity is an error
abbrev pub with_one : Counts → Option Severity → Counts
with_one c None = record c { errors = count_one_more c.errors }
with_one c (Some Error) = record c { errors = count_one_more c.errors }
with_one c (Some Warning) = record c { warnings = count_one_more c.warnings }
with_one c (Some Advice) = record c { advices = count_one_more c.advices }

-- the counts after reports of these severities
abbrev pub with_all : Counts → List (Option Severity) → Counts
with_all c [] = c
with_all c (s ∷ rest) = with_all (with_one c s) rest

-- plural ending of the word after `n`
abbrev pub plural : ℕ → List ℕ
plural n = if nat_eq n 1 then [] else codes "s"

-- `n` and a word
abbrev pub many : ℕ → List ℕ → List ℕ
many n thing = decimal n ++ (thing ++ plural n)

-- `2 errors, 1 warning`; advice is printed if there is any
abbrev pub counts_text : Counts → List ℕ
counts_text c = many c.errors (codes " error") ++ (codes ", " ++ (many c.warnings (codes " warning")
    ++ (if nat_eq c.advices 0 then [] else codes ", " ++ many c.advices (codes " advice"))))
