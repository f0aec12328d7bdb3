-- Calls of `job` and `bench`: arguments, output, and reasons to end.
use Rattle.std.specs.Prelude.{◌≡◌, ◌⊎◌, ℕ, ◌<◌, Bool, List, ◌∷◌, ◌++◌, Option, Some, None, IfSome, Result, Err, OnOk}
use Rattle.std.specs.Prelude.{codes, decimal, length}
use Rattle.miette_report.specs.rules.Job.{IsDescription, IsNoDescription, IsRefused, Writes}
use Rattle.miette_program.specs.rules.JobText.{IsTelling}
use Rattle.miette_program.specs.rules.OptionWords.{parsed_arguments, ForAsked}
use Rattle.miette_devices.specs.rules.Words.{IsReadAs}
use Rattle.miette_devices.specs.declared.fault.ProgramError.{ProgramError}
use Rattle.miette_devices.specs.declared.fault.ProgramError.TheVariants.{Usage, Memory, Description, Refused}
use Rattle.miette_program.specs.declared.language.LanguageHighlighter.{LanguageHighlighter}

-- ---- by the words

-- the arguments ask for a narrated or brief report
abbrev pub CallTells : List (List ℕ) → Type 0
CallTells words = ForAsked words IsTelling

-- The input is a description, and the property holds for the text that the arguments ask for.
abbrev pub CallWrites : (LanguageHighlighter → Bool) → List (List ℕ) → List ℕ → (List ℕ → Type 0) → Type 0
CallWrites is_blank words bytes holds =
    ForAsked words (λ choice options terminal. Writes is_blank choice options terminal bytes holds)

-- a number, and the arguments after it
pub record AreBenchWords (words : List (List ℕ)) (times : ℕ) (options : List (List ℕ)) : Type 0 where
  pub times_word : List ℕ
  pub are : words ≡ times_word ∷ options
  pub times_is : IsReadAs times_word (Some times)

-- the first argument is no number, or the others are not those of `job`
abbrev pub IsNoBenchCall : List (List ℕ) → Type 0
IsNoBenchCall words = (times : ℕ) (options : List (List ℕ)) → AreBenchWords words times options
    → parsed_arguments options ≡ None

-- The property holds for the output of `bench`: the length of the text in decimal and a line feed, or 0 if nothing is
-- rendered.
abbrev pub Measures : ℕ → ((List ℕ → Type 0) → Type 0) → (List ℕ → Type 0) → Type 0
Measures times writes holds = (n : ℕ) × (times ≡ 0 → n ≡ 0) × (0 < times → writes (λ text. n ≡ length text))
    × holds (decimal n ++ codes "\n")

-- the same, by the arguments
abbrev pub CallMeasures : (LanguageHighlighter → Bool) → List (List ℕ) → List ℕ → (List ℕ → Type 0) → Type 0
CallMeasures is_blank words bytes holds = (times : ℕ) × (options : List (List ℕ)) × AreBenchWords words times options
    × Measures times (CallWrites is_blank options bytes) holds

-- ---- why they end

-- How `job` and `bench` end, by their arguments and input. They succeed only for a description. Only a narrated or
-- brief report is refused, because of a label out of bounds. `Usage` occurs only for wrong arguments. Wrong arguments
-- lead to `Usage`, or to `Memory` if allocation fails before they are checked.
pub record IsJobEnd {T : Type 0} (wrong : Type 0) (options : List (List ℕ)) (told : Option (List ℕ))
    (r : Result T ProgramError) : Type 0 where
  pub described : OnOk r (IfSome told IsDescription)
  pub description : r ≡ Err Description → IfSome told IsNoDescription
  pub refused : r ≡ Err Refused → IfSome told IsRefused
  pub telling : r ≡ Err Refused → CallTells options
  pub usage : r ≡ Err Usage → wrong
  pub ends : wrong → (r ≡ Err Usage) ⊎ (r ≡ Err Memory)

-- the same for their exit codes
pub record IsJobStatus (wrong : Type 0) (options : List (List ℕ)) (told : Option (List ℕ)) (status : ℕ) : Type 0
  where
    pub below : status < 5
    pub done : status ≡ 0 → IfSome told IsDescription
    pub description : status ≡ 3 → IfSome told IsNoDescription
    pub refused : status ≡ 4 → IfSome told IsRefused
    pub telling : status ≡ 4 → CallTells options
    pub usage : status ≡ 2 → wrong
    pub ends : wrong → (status ≡ 2) ⊎ (status ≡ 1)
