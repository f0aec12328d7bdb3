-- What the code keeps of the arguments.
use Rattle.std.specs.Prelude.{◌≡◌, Option, Some, None, Result, Ok, Err}
use Rattle.miette_program.specs.declared.arguments.Arguments.{Arguments}
use Rattle.miette_devices.specs.declared.fault.ProgramError.{ProgramError}
use Rattle.miette_devices.specs.declared.fault.ProgramError.TheVariants.{Usage, Memory, Read, Write, Description}
use Rattle.miette_devices.specs.declared.fault.ProgramError.TheVariants.{Refused}
use Rattle.miette_program.specs.declared.option_words.Argument.{Argument}
use Rattle.miette_program.specs.declared.option_words.Argument.TheVariants.{Form, Value}
use Rattle.miette_style.specs.rules.Themes.{theme_of}
use Rattle.miette_program.specs.declared.option_words.NamedValue.{NamedValue}
use Rattle.miette_program.specs.declared.option_words.NamedValue.TheVariants.{Theme, Rgb, Separator, Highlighter, Color}
use Rattle.miette_program.specs.rules.LanguageRules.{highlighting_of}
use Rattle.miette_program.specs.rules.OptionWords.{JobRequest, request_of, with_form, with_value}

abbrev pub parsed_of : Arguments → JobRequest
parsed_of it = request_of it.choice it.options it.terminal

-- with the first argument and its value
abbrev pub with_argument : Argument → JobRequest → Option JobRequest
with_argument (Form form) r = with_form form r
with_argument (Value word value) r = with_value word.now value.now r

-- with an argument whose value is a name
abbrev pub with_named : NamedValue → JobRequest → JobRequest
with_named (Theme theme) r = record r { options = record r.options { theme = Some (theme_of theme) } }
with_named (Rgb colors) r = record r { options = record r.options { rgb = colors } }
with_named (Separator separator) r =
    record r { options = record r.options { wrapping = record r.options.wrapping { word_separator = separator } } }
with_named (Highlighter it) r = record r { highlighting = Some (highlighting_of it) }
with_named (Color color) r = record r { facts = record r.facts { color = color } }

-- the value from the table, a usage error if it has none, or a memory error
abbrev pub IsGiven : {A B : Type 0} → (A → B) → Option B → Result A ProgramError → Type 0
IsGiven value given (Ok it) = given ≡ Some (value it)
IsGiven value given (Err Usage) = given ≡ None
IsGiven value given (Err Memory) = Unit
IsGiven value given (Err Read) = ⊥
IsGiven value given (Err Write) = ⊥
IsGiven value given (Err Description) = ⊥
IsGiven value given (Err Refused) = ⊥

abbrev pub AreGiven : Option JobRequest → Result Arguments ProgramError → Type 0
AreGiven = IsGiven parsed_of
