-- The rules of each language, in order of precedence.
use Rattle.std.specs.Prelude.{ℕ, Bool, true, false, Option, Some, None, List, [], ◌∷◌, map, codes, string_bytes}
use Rattle.miette_highlight.specs.declared.rule.Pattern.{Pattern}
use Rattle.miette_highlight.specs.declared.rule.Pattern.TheVariants.{Words, From, Between, Character, Prefixed, Raw}
use Rattle.miette_highlight.specs.declared.rule.Rule.{Rule}
use Rattle.miette_style.specs.declared.style.Color.TheVariants.{Green, Yellow, Cyan, Magenta}
use Rattle.miette_style.specs.declared.style.Style.{Style}
use Rattle.miette_style.specs.rules.Styles.{coloured_style, plain}

-- A rule, with texts as bytes: words; a word whose first byte is in a range; a part between delimiters, with escape
-- byte and whether it continues on the next line; a character between delimiters, with escape byte; a word after a
-- byte; a raw string with a prefix.
pub data RuleText : Type 0 where
  of_words : List (List ℕ) → Style → RuleText
  beginning : ℕ → ℕ → Style → RuleText
  between : List ℕ → List ℕ → Option ℕ → Bool → Style → RuleText
  character : List ℕ → List ℕ → Option ℕ → Style → RuleText
  prefixed : ℕ → Style → RuleText
  raw : List ℕ → Style → RuleText

abbrev pub pattern_text : Pattern → Style → RuleText
pattern_text (Words words) style = of_words (map (λ w. string_bytes w) words.items) style
pattern_text (From first last) style = beginning first last style
pattern_text (Between d) style =
    between (string_bytes d.opens) (string_bytes d.closes) d.escape d.over_lines style
pattern_text (Character d) style = character (string_bytes d.opens) (string_bytes d.closes) d.escape style
pattern_text (Prefixed byte) style = prefixed byte style
pattern_text (Raw prefix) style = raw (string_bytes prefix) style

abbrev pub rule_text : Rule → RuleText
rule_text rule = pattern_text rule.pattern rule.style

abbrev pub rule_texts : List Rule → List RuleText
rule_texts rules = map rule_text rules

-- ---- strings, comments, words and values

-- a string between delimiters, green
abbrev pub string_rule : List ℕ → List ℕ → Option ℕ → Bool → RuleText
string_rule opens closes escape over_lines = between opens closes escape over_lines (coloured_style Green)

-- a comment between delimiters, dimmed; a comment that ends with its line is closed by a line feed, which no line has
abbrev pub comment_rule : List ℕ → List ℕ → Bool → RuleText
comment_rule opens closes over_lines = between opens closes None over_lines (record plain { dimmed = true })

-- yellow words, and cyan words that begin with a digit
abbrev pub values : List (List ℕ) → List RuleText
values words = of_words words (coloured_style Yellow) ∷ beginning 48 57 (coloured_style Cyan) ∷ []

-- ---- the languages

abbrev pub json_rules : List RuleText
json_rules = string_rule (codes "\"") (codes "\"") (Some 92) false
    ∷ values (codes "true" ∷ codes "false" ∷ codes "null" ∷ [])

abbrev pub toml_rules : List RuleText
toml_rules =
    comment_rule (codes "#") (10 ∷ []) false
    ∷ string_rule (codes "\"\"\"") (codes "\"\"\"") (Some 92) true
    ∷ string_rule (codes "'''") (codes "'''") None true
    ∷ string_rule (codes "\"") (codes "\"") (Some 92) false
    ∷ string_rule (codes "'") (codes "'") None false
    ∷ values (codes "true" ∷ codes "false" ∷ codes "inf" ∷ codes "nan" ∷ [])

abbrev pub rust_words : List (List ℕ)
rust_words =
    codes "as" ∷ codes "async" ∷ codes "await" ∷ codes "break" ∷ codes "const" ∷ codes "continue" ∷ codes "crate"
    ∷ codes "dyn" ∷ codes "else" ∷ codes "enum" ∷ codes "extern" ∷ codes "fn" ∷ codes "for" ∷ codes "if"
    ∷ codes "impl" ∷ codes "in" ∷ codes "let" ∷ codes "loop" ∷ codes "match" ∷ codes "mod" ∷ codes "move"
    ∷ codes "mut" ∷ codes "pub" ∷ codes "ref" ∷ codes "return" ∷ codes "self" ∷ codes "Self" ∷ codes "static"
    ∷ codes "struct" ∷ codes "super" ∷ codes "trait" ∷ codes "type" ∷ codes "unsafe" ∷ codes "use" ∷ codes "where"
    ∷ codes "while" ∷ codes "yield" ∷ []

-- raw strings, which may continue on the next line; as many hashes follow as precede
abbrev pub raw_text : List ℕ → RuleText
raw_text prefix = raw prefix (coloured_style Green)

-- a character in quotes is green; an apostrophe before a word that isn't a character begins a lifetime, coloured like a
-- keyword
abbrev pub rust_rules : List RuleText
rust_rules =
    comment_rule (codes "//") (10 ∷ []) false
    ∷ comment_rule (codes "/*") (codes "*/") true
    ∷ character (codes "'") (codes "'") (Some 92) (coloured_style Green)
    ∷ character (codes "b'") (codes "'") (Some 92) (coloured_style Green)
    ∷ string_rule (codes "\"") (codes "\"") (Some 92) true
    ∷ string_rule (codes "b\"") (codes "\"") (Some 92) true
    ∷ string_rule (codes "c\"") (codes "\"") (Some 92) true
    ∷ raw_text (codes "r") ∷ raw_text (codes "br") ∷ raw_text (codes "cr")
    ∷ prefixed 39 (coloured_style Magenta) ∷ of_words rust_words (coloured_style Magenta)
    ∷ values (codes "true" ∷ codes "false" ∷ [])
