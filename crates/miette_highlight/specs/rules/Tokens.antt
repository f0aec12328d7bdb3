-- The pieces that rules split a line into: each is a match of the first rule that matches.
use Rattle.std.specs.Prelude.{◌≡◌, ℕ, ◌+◌, ◌<◌, ◌≤◌, max, Option, Some, None}
use Rattle.std.specs.Prelude.{List, [], ◌∷◌, length, drop}
use Rattle.std.specs.Prelude.{slice_get, unwrap_or}
use Rattle.std.specs.Option.{option_map}
use Rattle.std.specs.Str.{IsCharBoundary}
use Rattle.miette_highlight.specs.rules.Pieces.{StyledPiece}
use Rattle.miette_style.specs.rules.Styles.{plain}
use Rattle.miette_style.specs.declared.style.Style.{Style}
use Rattle.miette_highlight.specs.rules.Patterns.{MatchEnd, inside, match_of, raw_inside, word_end}
use Rattle.miette_highlight.specs.declared.rule.Pattern.{Pattern}
use Rattle.miette_highlight.specs.declared.rule.Pattern.TheVariants.{Words, From, Between, Character, Prefixed, Raw}
use Rattle.miette_highlight.specs.declared.rule.Rule.{Rule}
use Rattle.miette_highlight.specs.declared.tokens.OpenPart.{OpenPart}
use Rattle.miette_highlight.specs.declared.tokens.Token.{Token}

-- the token of a match of the rule with this index
abbrev pub token_of : ℕ → Style → MatchEnd → Token
token_of rule style found = record {
  bytes = found.0;
  style = style;
  left_open = option_map (λ hashes. record { rule = rule; hashes = hashes }) found.1;
}

-- the token of a match, or else of the other rules
abbrev pub found_or : ℕ → Style → Option MatchEnd → Option Token → Option Token
found_or rule style None others = others
found_or rule style (Some found) others = Some (token_of rule style found)

-- the token of the first rule that matches; the rules are numbered from an index on
abbrev pub first_match : ℕ → List Rule → List ℕ → Option Token
first_match at [] text = None
first_match at (rule ∷ rules) text =
    found_or at rule.style (match_of rule.pattern text) (first_match (at + 1) rules text)

-- the rest of an open part; only parts between delimiters and raw strings stay open
abbrev pub continued_match : OpenPart → Style → Pattern → List ℕ → Option Token
continued_match part style (Words words) text = None
continued_match part style (From first last) text = None
continued_match part style (Between delimiters) text = Some (token_of part.rule style (inside delimiters 0 text))
continued_match part style (Character delimiters) text = None
continued_match part style (Prefixed byte) text = None
continued_match part style (Raw prefix) text = Some (token_of part.rule style (raw_inside part.hashes 0 text))

abbrev pub continued_rule : OpenPart → Option Rule → List ℕ → Option Token
continued_rule part None text = None
continued_rule part (Some rule) text = continued_match part rule.style rule.pattern text

abbrev pub continued_token : List Rule → Option OpenPart → List ℕ → Option Token
continued_token rules None text = None
continued_token rules (Some part) text = continued_rule part (slice_get rules part.rule) text

-- the word at the start of a text, plain
abbrev pub plain_token : List ℕ → Token
plain_token text = record { bytes = word_end 0 text; style = plain; left_open = None }

-- the token at the start of a text: the rest of the open part, the first match, or a plain word
unfoldable pub token_at : List Rule → Option OpenPart → List ℕ → Token
token_at rules left_open text =
    unwrap_or (continued_token rules left_open text) (unwrap_or (first_match 0 rules text) (plain_token text))

-- `k` is where the first character ends at or after `n`
pub record EndsFrom (text : List ℕ) (n k : ℕ) : Type 0 where
  pub bound : n ≤ length text → n ≤ k
  pub boundary : IsCharBoundary text k
  pub nearest : (i : ℕ) → n ≤ i → i < k → ¬ (IsCharBoundary text i)

-- a piece is the token, rounded up to whole characters, at least one
pub record IsToken (token : Token) (text : List ℕ) (piece : StyledPiece) : Type 0 where
  pub some : 0 < length text
  pub ends : EndsFrom text (max token.bytes 1) piece.0
  pub style : piece.1 ≡ token.style

-- the pieces of a text are its tokens; the first continues the open part, the last leaves `after` open
abbrev pub AreTokens : List Rule → Option OpenPart → List ℕ → List StyledPiece → Option OpenPart → Type 0
AreTokens rules left_open text [] after = (text ≡ []) × (after ≡ left_open)
AreTokens rules left_open text (p ∷ ps) after =
    IsToken (token_at rules left_open text) text p
    × AreTokens rules (token_at rules left_open text).left_open (drop p.0 text) ps after
