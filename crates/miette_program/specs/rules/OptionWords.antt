-- The arguments of `job` and `bench`: a table from arguments to the handler, its options and the terminal.
use Rattle.std.specs.Prelude.{◌≡◌, ◌==◌, ℕ, Bool, true, false, ◌&&◌, List, [], ◌∷◌, length, Option, Some, None}
use Rattle.std.specs.Prelude.{if◌then◌else◌, nat_lt, ◌^◌, codes, bytes_eq, string_bytes}
use Rattle.std.specs.Option.{option_map, option_map_or, option_and_then}
use Rattle.std.specs.Str.{all_ascii_digits}
use Rattle.std.specs.Str.Parse.{digits_value}
use Rattle.miette_style.specs.rules.Themes.{Theme, ansi_styles, ascii_characters, no_styles, unicode_characters}
use Rattle.miette_style.specs.declared.theme.Terminal.{Terminal}
use Rattle.miette_text.specs.declared.options.WordSeparator.{WordSeparator}
use Rattle.miette_text.specs.declared.options.WordSeparator.TheVariants.{AsciiSpace, UnicodeBreakProperties}
use Rattle.miette_text.specs.declared.options.WordSplitter.{WordSplitter}
use Rattle.miette_text.specs.declared.options.WordSplitter.TheVariants.{HyphenSplitter, NoHyphenation}
use Rattle.miette.specs.rules.Options.{Options, no_options}
use Rattle.miette_brief.specs.declared.form.BriefForm.TheVariants.{Gcc, Github}
use Rattle.miette.specs.declared.options.builder.RgbColors.{RgbColors}
use Rattle.miette.specs.declared.options.builder.RgbColors.TheVariants.{Always, Preferred, Never}
use Rattle.miette_program.specs.declared.language.Language.{Language}
use Rattle.miette_program.specs.declared.language.Language.TheVariants as language
use Rattle.miette_program.specs.declared.language.LanguageHighlighter.{LanguageHighlighter}
use Rattle.miette_program.specs.declared.arguments.Choice.{Choice}
use Rattle.miette_program.specs.declared.arguments.Choice.TheVariants.{Build, Json, Debug}
use Rattle.miette_devices.specs.declared.output_form.OutputForm.{OutputForm}
use Rattle.miette_devices.specs.declared.output_form.OutputForm.TheVariants as output
use Rattle.miette_devices.specs.rules.OutputForms.{form_named}
use Rattle.miette_program.specs.rules.LanguageRules.{Highlighting, highlighting_of, language_highlighting}

-- ---- what may be asked for

-- the terminal, with its texts as bytes
pub record TerminalFacts : Type 0 where
  pub width : Option ℕ
  pub color : Option Bool
  pub unicode : Bool
  pub hyperlinks : Bool
  pub stdout_terminal : Bool
  pub stderr_terminal : Bool
  pub no_graphics : Option (List ℕ)
  pub no_color : Option (List ℕ)

abbrev pub terminal_facts_of : Terminal → TerminalFacts
terminal_facts_of t = record {
  width = t.width;
  color = t.color;
  unicode = t.unicode;
  hyperlinks = t.hyperlinks;
  stdout_terminal = t.stdout_terminal;
  stderr_terminal = t.stderr_terminal;
  no_graphics = option_map string_bytes t.no_graphics;
  no_color = option_map string_bytes t.no_color;
}

-- the handler, its options, their highlighter, and the terminal
pub record JobRequest : Type 0 where
  pub choice : Choice
  pub options : Options LanguageHighlighter
  pub highlighting : Option Highlighting
  pub facts : TerminalFacts

-- without any argument
abbrev pub no_arguments : JobRequest
no_arguments = record {
  choice = Build;
  options = no_options;
  highlighting = None;
  facts = record {
    width = None;
    color = None;
    unicode = false;
    hyperlinks = false;
    stdout_terminal = false;
    stderr_terminal = false;
    no_graphics = None;
    no_color = None;
  };
}

abbrev pub request_of : Choice → Options LanguageHighlighter → Terminal → JobRequest
request_of choice options terminal = record {
  choice = choice;
  options = record options { highlighter = None };
  highlighting = option_map highlighting_of options.highlighter;
  facts = terminal_facts_of terminal;
}

-- with these options, this language's highlighter or this terminal instead of the previous ones
abbrev pub asks : JobRequest → Options LanguageHighlighter → Option JobRequest
asks r options = Some (record r { options = options })

abbrev pub highlights : JobRequest → Language → Option JobRequest
highlights r it = Some (record r { highlighting = Some (language_highlighting it) })

abbrev pub knows : JobRequest → TerminalFacts → Option JobRequest
knows r facts = Some (record r { facts = facts })

-- ---- the table: what is asked for with one word more, and nothing where there is no such word

-- an argument without a value: a form of the report, except a log
abbrev pub with_form : OutputForm → JobRequest → Option JobRequest
with_form output.Graphical r = asks r (record r.options { graphical = Some true })
with_form output.Narrated r = asks r (record r.options { narrated = Some true })
with_form output.Brief r = asks r (record r.options { brief = true; brief_form = Gcc })
with_form output.Github r = asks r (record r.options { brief = true; brief_form = Github })
with_form output.Json r = Some (record r { choice = Json })
with_form output.Debug r = Some (record r { choice = Debug })
with_form output.Sarif r = None
with_form output.Lsp r = None

-- an argument with a positive number
abbrev pub with_count : List ℕ → ℕ → JobRequest → Option JobRequest
with_count word n r =
    let o = r.options in
    if n == 0 then None
    else (if bytes_eq word (codes "--tab") then asks r (record o { layout = record o.layout { tab_width = n } })
    else (if bytes_eq word (codes "--label-lines")
    then asks r (record o { layout = record o.layout { label_lines = Some n } })
    else (if bytes_eq word (codes "--line-columns")
    then asks r (record o { layout = record o.layout { line_columns = Some n } }) else None)))

-- an argument with a number
abbrev pub with_number : List ℕ → ℕ → JobRequest → Option JobRequest
with_number word n r =
    let o = r.options in
    if bytes_eq word (codes "--width") then asks r (record o { width = Some n })
    else (if bytes_eq word (codes "--context") then asks r (record o { layout = record o.layout { context_lines = n } })
    else (if bytes_eq word (codes "--term-width") then knows r (record r.facts { width = Some n })
    else with_count word n r))

-- where words are split: at hyphens, or nowhere
abbrev pub splitter : Bool → WordSplitter
splitter true = HyphenSplitter
splitter false = NoHyphenation

-- an argument about the terminal with `yes` or `no`
abbrev pub with_terminal : List ℕ → Bool → JobRequest → Option JobRequest
with_terminal word on r =
    if bytes_eq word (codes "--term-unicode") then knows r (record r.facts { unicode = on })
    else (if bytes_eq word (codes "--term-links") then knows r (record r.facts { hyperlinks = on }) else None)

-- an argument with `yes` or `no`
abbrev pub with_answer : List ℕ → Bool → JobRequest → Option JobRequest
with_answer word on r =
    let o = r.options in
    if bytes_eq word (codes "--unicode") then asks r (record o { unicode = Some on })
    else (if bytes_eq word (codes "--color") then asks r (record o { color = Some on })
    else (if bytes_eq word (codes "--links") then asks r (record o { links = Some on })
    else (if bytes_eq word (codes "--chain") then asks r (record o { cause_chain = on })
    else (if bytes_eq word (codes "--nested") then asks r (record o { related_as_nested = on })
    else (if bytes_eq word (codes "--wrap") then asks r (record o { wrapping = record o.wrapping { wrap_lines = on } })
    else (if bytes_eq word (codes "--break")
    then asks r (record o { wrapping = record o.wrapping { break_words = on } })
    else (if bytes_eq word (codes "--hyphens")
    then asks r (record o { wrapping = record o.wrapping { word_splitter = splitter on } })
    else (if bytes_eq word (codes "--end-labels")
    then asks r (record o { layout = record o.layout { end_labels = on } })
    else (if bytes_eq word (codes "--fit-lines") then asks r (record o { fit_lines = on })
    else with_terminal word on r)))))))))

abbrev pub theme_named : List ℕ → Option Theme
theme_named name =
    if bytes_eq name (codes "ascii") then Some (record { characters = ascii_characters; styles = ansi_styles })
    else (if bytes_eq name (codes "unicode")
    then Some (record { characters = unicode_characters; styles = ansi_styles })
    else (if bytes_eq name (codes "unicode_nocolor")
    then Some (record { characters = unicode_characters; styles = no_styles })
    else (if bytes_eq name (codes "none") then Some (record { characters = ascii_characters; styles = no_styles })
    else None)))

abbrev pub rgb_named : List ℕ → Option RgbColors
rgb_named name =
    if bytes_eq name (codes "always") then Some Always
    else (if bytes_eq name (codes "preferred") then Some Preferred
    else (if bytes_eq name (codes "never") then Some Never else None))

-- the colours of a terminal
abbrev pub color_named : List ℕ → Option (Option Bool)
color_named name =
    if bytes_eq name (codes "none") then Some None
    else (if bytes_eq name (codes "ansi") then Some (Some false)
    else (if bytes_eq name (codes "rgb") then Some (Some true) else None))

-- how texts are split into words
abbrev pub separator_named : List ℕ → Option WordSeparator
separator_named name =
    if bytes_eq name (codes "ascii") then Some AsciiSpace
    else (if bytes_eq name (codes "unicode") then Some UnicodeBreakProperties else None)

abbrev pub language_named : List ℕ → Option Language
language_named name =
    if bytes_eq name (codes "toml") then Some language.Toml
    else (if bytes_eq name (codes "json") then Some language.Json
    else (if bytes_eq name (codes "rust") then Some language.Rust else None))

-- an argument with a name
abbrev pub with_name : List ℕ → List ℕ → JobRequest → Option JobRequest
with_name word name r =
    let o = r.options in
    if bytes_eq word (codes "--theme")
    then option_and_then (λ theme. asks r (record o { theme = Some theme })) (theme_named name)
    else (if bytes_eq word (codes "--rgb")
    then option_and_then (λ colors. asks r (record o { rgb = colors })) (rgb_named name)
    else (if bytes_eq word (codes "--separator")
    then option_and_then (λ separator. asks r (record o
    { wrapping = record o.wrapping { word_separator = separator } })) (separator_named name)
    else (if bytes_eq word (codes "--highlight") then option_and_then (highlights r) (language_named name)
    else (if bytes_eq word (codes "--term-color")
    then option_and_then (λ color. knows r (record r.facts { color = color })) (color_named name)
    else None))))

-- a number is one or more digits and nothing else, and is below 2 ^ 64
abbrev pub read_number : List ℕ → Option ℕ
read_number word =
    if (nat_lt 0 (length word) && all_ascii_digits word) && nat_lt (digits_value 10 word) (2 ^ 64)
    then Some (digits_value 10 word) else None

-- an argument with a number, `yes`, `no` or a name
abbrev pub with_read : List ℕ → List ℕ → JobRequest → Option JobRequest
with_read word value r =
    option_map_or (λ n. with_number word n r) (read_number value)
    (if bytes_eq value (codes "yes") then with_answer word true r
    else (if bytes_eq value (codes "no") then with_answer word false r else with_name word value r))

-- an argument and its value; for two arguments the value is any text
abbrev pub with_value : List ℕ → List ℕ → JobRequest → Option JobRequest
with_value word value r =
    if bytes_eq word (codes "--footer") then asks r (record r.options { footer = Some value })
    else (if bytes_eq word (codes "--no-graphics") then knows r (record r.facts { no_graphics = Some value })
    else with_read word value r)

-- ---- all arguments

-- one argument after another; `None` if one of them is wrong
abbrev mutual
  pub with_words : List (List ℕ) → JobRequest → Option JobRequest
  with_words [] r = Some r
  with_words (word ∷ words) r =
      option_map_or (λ form. option_and_then (with_words words) (with_form form r)) (form_named word)
      (with_words_after word words r)

  pub with_words_after : List ℕ → List (List ℕ) → JobRequest → Option JobRequest
  with_words_after word [] r = None
  with_words_after word (value ∷ words) r = option_and_then (with_words words) (with_value word value r)

abbrev pub parsed_arguments : List (List ℕ) → Option JobRequest
parsed_arguments words = with_words words no_arguments

-- the handler that they choose: JSON or debug by the last `--json` or `--debug` that isn't a value, otherwise the built
-- one
abbrev pub handler_choice : List (List ℕ) → Option Choice
handler_choice words = option_map (λ r. r.choice) (parsed_arguments words)

-- these settings are those of the arguments, by the table
abbrev pub AreParsed : List (List ℕ) → Choice → Options LanguageHighlighter → Terminal → Type 0
AreParsed words choice options terminal = parsed_arguments words ≡ Some (request_of choice options terminal)

-- this holds for the handler, the options and the terminal of the arguments
abbrev pub ForAsked : List (List ℕ) → (Choice → Options LanguageHighlighter → Terminal → Type 0) → Type 0
ForAsked words holds = (choice : Choice) × (options : Options LanguageHighlighter) × (terminal : Terminal)
    × AreParsed words choice options terminal × holds choice options terminal
