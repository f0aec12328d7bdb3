-- The model of arguments and of requests.
use Rattle.std.specs.Prelude.{◌≡◌, ℕ, List, ◌++◌, Bool, Option, Some, map, string_bytes, String, ⊤}
use Rattle.std.specs.Prelude.{true, false}
use Rattle.std.specs.Option.{option_copied}
use Rattle.std.specs.declared.alloc.Global.{Global}
use denote.Ref.{Bor}
use Rattle.miette.specs.declared.terminal.Stream.TheVariants.{Stdout}
use Rattle.miette.specs.declared.terminal.Variables.{Variables}
use Rattle.miette.specs.rules.Detection.{IsDetected}
use Rattle.miette_program.specs.declared.arguments.Arguments.{Arguments}
use Rattle.miette_program.specs.declared.language.LanguageHighlighter.{LanguageHighlighter}
use Rattle.miette_program.specs.rules.JobText.{IsJobText}
use Rattle.miette_program.specs.rules.OptionWords.{AreParsed}
use Rattle.miette_protocol.specs.rules.Reading.{Source}
use Rattle.miette_style.specs.declared.theme.Terminal.{Terminal}
use Rattle.miette_show.specs.rules.LogCalls.{needs_places}
use Rattle.miette_show.specs.rules.Logging.{Logs}
use Rattle.miette_show.specs.rules.ShowWords.{FrontWords, ShowRequest, draw, fix, log}
use Rattle.miette_show.specs.rules.ShownRow.{Shows}
use Rattle.miette_show.specs.rules.TerminalWords.{terminal_words}
use Rattle.miette_show.specs.declared.request.ShowRequest as code
use Rattle.miette_show.specs.declared.request.ShowRequest.TheVariants.{Draw, Log, Fix}
use Rattle.miette_show.specs.declared.words.FrontWords as front
use Rattle.miette_show_rows.specs.declared.verdict.Verdict.{Verdict}

abbrev pub words_of : Bor (List (String Global)) → List (List ℕ)
words_of words = map string_bytes words.now

abbrev pub front_of : front.FrontWords → FrontWords
front_of it = record {
  root = option_copied it.root;
  from = it.from;
  fix = it.fix;
  broken = it.broken;
  options = words_of it.options;
}

-- ---- the request

-- These are the settings of options of `job` on a terminal that is detected from such variables.
abbrev pub AreSettings : (Variables → Type 0) → List (List ℕ) → Arguments → Type 0
AreSettings told options it = (v : Variables) × (t : Terminal) × told v × IsDetected v Stdout t
    × AreParsed (terminal_words t ++ options) it.choice it.options it.terminal

-- The program's request is this one.
abbrev pub IsRequest : (Variables → Type 0) → Option ShowRequest → code.ShowRequest → Type 0
IsRequest told asked (Draw from it) =
    (options : List (List ℕ)) × (asked ≡ Some (draw from options)) × AreSettings told options it
IsRequest told asked (Log from it) = asked ≡ Some (log from it)
IsRequest told asked (Fix broken) = asked ≡ Some (fix broken)

-- Whether messages are drawn.
abbrev pub is_drawn : code.ShowRequest → Bool
is_drawn (Draw from it) = true
is_drawn (Log from it) = false
is_drawn (Fix broken) = false

-- ---- the run

-- The request is run on all messages of these bytes, and this is the verdict.
abbrev pub IsRun : (LanguageHighlighter → Bool) → ((List ℕ → Option Source) → List (List ℕ) → Type 0)
    → (Bool → List ℕ → Verdict → Type 0) → code.ShowRequest → List ℕ → Verdict → Type 0
IsRun is_blank found fixes (Draw from it) bytes verdict =
    Shows from (IsJobText is_blank it.choice it.options it.terminal) found bytes (λ text notes. ⊤) verdict
IsRun is_blank found fixes (Log from asked) bytes verdict =
    Logs from (needs_places asked.form) found bytes (λ ts notes. ⊤) verdict
IsRun is_blank found fixes (Fix broken) bytes verdict = fixes broken bytes verdict
