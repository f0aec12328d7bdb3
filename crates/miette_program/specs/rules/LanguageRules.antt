-- The rules of the languages that have a highlighter, and the state of a highlighter.
use Rattle.std.specs.Prelude.{List, Option, None}
use Rattle.miette_highlight.specs.rules.FollowingCalls.{FollowTokens}
use Rattle.miette_highlight.specs.rules.HighlighterCalls.{Call}
use Rattle.miette_highlight.specs.declared.tokens.OpenPart.{OpenPart}
use Rattle.miette_highlight.specs.rules.Languages.{RuleText, json_rules, rule_texts, rust_rules, toml_rules}
use Rattle.miette_program.specs.declared.language.Language.{Language}
use Rattle.miette_program.specs.declared.language.Language.TheVariants.{Toml, Json, Rust}
use Rattle.miette_program.specs.declared.language.LanguageHighlighter.{LanguageHighlighter}

abbrev pub language_rules : Language → List RuleText
language_rules Toml = toml_rules
language_rules Json = json_rules
language_rules Rust = rust_rules

-- its language, its rules, and the part that the previous line left open
pub record Highlighting : Type 0 where
  pub language : Language
  pub rules : List RuleText
  pub left_open : Option OpenPart

abbrev pub highlighting_of : LanguageHighlighter → Highlighting
highlighting_of it = record {
  language = it.language;
  rules = rule_texts it.patterns.rules.items;
  left_open = it.patterns.left_open;
}

-- the highlighter of a language at the start of a text
abbrev pub language_highlighting : Language → Highlighting
language_highlighting it = record { language = it; rules = language_rules it; left_open = None }

-- the calls that such a highlighter allows: each line is split into tokens by the rules
abbrev pub TokensFollow : LanguageHighlighter → List Call → Type 0
TokensFollow it = FollowTokens it.patterns.rules.items it.patterns.left_open
