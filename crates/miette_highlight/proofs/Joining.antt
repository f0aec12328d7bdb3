-- A piece in front of the pieces of what comes after it.
use Rattle.std.proofs.Common.{arith, ◌≡◌, ℕ, ◌+◌, ◌∙◌, List, [], ◌∷◌, ◌++◌, length, drop, sym, ap, subst, append_assoc}
use Rattle.std.proofs.Common.{zero-add}
use Rattle.std.proofs.Math.Seq.{drop-append_seam}
use Rattle.std.specs.Prelude.{encode_utf8, Option}
use Rattle.std.specs.Char.{len_utf8}
use Rattle.std.specs.Str.{IsUtf8, IsCharBoundary, chars}
use Rattle.std.proofs.lemmas.Str.{length-encode, IsCharBoundary-past_char, chars_past_char}
use Rattle.miette_highlight.specs.rules.Pieces.{StyledPiece, CutsLine}
use Rattle.miette_style.specs.declared.style.Style.{Style}
use Rattle.miette_highlight.specs.declared.rule.Rule.{Rule}
use Rattle.miette_highlight.specs.declared.tokens.OpenPart.{OpenPart}
use Rattle.miette_highlight.specs.rules.Characters.{AreCharacters}
use Rattle.miette_highlight.specs.rules.Tokens.{AreTokens, token_at}

-- what holds with a piece in front of more holds after the push of that piece
pub goes_on : (P : List StyledPiece → Type 0) (pieces pushed : List StyledPiece) (p : StyledPiece)
    (more : List StyledPiece) → pushed ≡ pieces
    ++ (p ∷ [])
    → P (pieces ++ (p ∷ more)) → P (pushed ++ more)
goes_on P pieces pushed p more e h = subst P (sym (ap (λ list. list ++ more) e ∙ append_assoc pieces (p ∷ []) more)) h

-- a character's piece in front of a cut of what comes after it
pub cuts_char : (rest after : List ℕ) (c n : ℕ) (style : Style) (more : List StyledPiece) → IsUtf8 rest → rest
    ≡ encode_utf8 c
    ++ after
    → n ≡ length (encode_utf8 c) → CutsLine after more → CutsLine rest ((n, style) ∷ more)
cuts_char rest after c n style more utf8 e w cuts =
    let dropped : drop n rest ≡ after =
    ap (λ k. drop k rest) w ∙ ap (λ bs. drop (length (encode_utf8 c)) bs) e ∙ drop-append_seam (encode_utf8 c) after in
    let P : List ℕ → Type 0 = λ bs. CutsLine bs more in
    let Q : ℕ → Type 0 = λ i. IsCharBoundary rest i in
    let there : n ≡ 0 + len_utf8 c = w ∙ length-encode c ∙ sym (zero-add (len_utf8 c)) in
    (subst Q (sym there) (IsCharBoundary-past_char rest after 0 c (omega arith) utf8 e), subst P (sym dropped) cuts)

-- and so with the styles
pub styles_char : (Goes : ℕ → Style → Type 0) (rest after : List ℕ) (c n : ℕ) (style : Style) (more : List StyledPiece)
    → IsUtf8 rest
    → rest ≡ encode_utf8 c ++ after → n ≡ length (encode_utf8 c) → Goes c style → AreCharacters Goes (chars after) more
    → AreCharacters Goes (chars rest) ((n, style) ∷ more)
styles_char Goes rest after c n style more utf8 e w goes h =
    subst (λ cs. AreCharacters Goes cs ((n, style) ∷ more)) (sym (chars_past_char rest after c utf8 e))
    (w ∙ length-encode c, goes, h)

-- the tokens of a text cut it
pub tokens-cut : (rules : List Rule) (left_open : Option OpenPart) (text : List ℕ) (pieces : List StyledPiece)
    (after : Option OpenPart)
    → AreTokens rules left_open text pieces after → CutsLine text pieces
tokens-cut rules left_open text [] after h = h.0
tokens-cut rules left_open text (p ∷ ps) after h =
    (h.0.ends.boundary, tokens-cut rules (token_at rules left_open text).left_open (drop p.0 text) ps after h.1)
