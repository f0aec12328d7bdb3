-- Settings in plain styles, answers without a highlighter, and plain rows.
use Rattle.std.specs.Prelude.{◌≡◌, List, []}
use Rattle.std.specs.List.{AllByRecursion}
use Rattle.miette_labels.specs.rules.Answers.{Answers}
use Rattle.miette_style.specs.rules.Rows.{Row}
use Rattle.miette_style.specs.declared.style.Style.{Style}
use Rattle.miette_style.specs.rules.Styles.{plain}
use Rattle.miette_style.specs.rules.Themes.{Styles, no_styles}
use Rattle.miette_snippet_rules.specs.rules.SnippetSettings.{SnippetSettings}

abbrev pub AreAllPlain : List Style → Type 0
AreAllPlain = AllByRecursion (λ style. style ≡ plain)

-- styles without colours, with any number of highlight styles
pub record ArePlain (s : Styles) : Type 0 where
  pub error : s.error ≡ plain
  pub warning : s.warning ≡ plain
  pub advice : s.advice ≡ plain
  pub help : s.help ≡ plain
  pub link : s.link ≡ plain
  pub linum : s.linum ≡ plain
  pub highlights : AreAllPlain s.highlights

-- the same settings in other styles
abbrev pub restyled_snippets : SnippetSettings → Styles → SnippetSettings
restyled_snippets s styles = record s { theme = record s.theme { styles = styles } }

-- the same settings with only plain styles, as in the shipped themes without colours
abbrev pub plain_snippet_settings : SnippetSettings → SnippetSettings
plain_snippet_settings s = restyled_snippets s no_styles

-- the same reads without a highlighter
abbrev pub unhighlighted_answer : Answers → Answers
unhighlighted_answer a = record a { pieces = [] }

-- every run of a row is plain
abbrev pub IsPlainRow : Row → Type 0
IsPlainRow row = AllByRecursion (λ run. run.style ≡ plain) row
