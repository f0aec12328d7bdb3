-- The characters of bytes, one after the other.
use Rattle.std.proofs.Common.{ℕ, ◌≡◌, List, [], ◌∷◌, ◌++◌, map, refl, sym, ap, ◌∙◌, append_assoc, append-nil}
use Rattle.std.specs.Prelude.{IsUtf8, encode_utf8, encode_utf8_all}
use Rattle.bstr.specs.Utf8.{Decoded, or_replacement, pieces}
use Rattle.bstr.proofs.lemmas.EncodeLemmas.{lossy_chars-utf8}
use Rattle.miette_columns.specs.rules.Cells.{Character, characters}
use Rattle.miette_columns.proofs.Stepping.{IsFirst, made, characters_step, characters_end}
use Rattle.miette_narrated.specs.rules.Lines.{characters_text}

codes : (ps : List Decoded) → map (λ (c : Character). c.code)
    (map (λ (p : Decoded). made (or_replacement p.char) p.size) ps) ≡ map (λ (p : Decoded). or_replacement p.char) ps
codes [] = refl
codes (p ∷ ps) = ap (λ cs. or_replacement p.char ∷ cs) (codes ps)

-- a text in UTF-8 is its characters
pub decoded_utf8 : (bytes : List ℕ) → IsUtf8 bytes → characters_text (characters bytes) ≡ bytes
decoded_utf8 bytes h = ap encode_utf8_all (codes (pieces bytes)) ∙ lossy_chars-utf8 bytes h

pub decoded_more : (old new rest left : List ℕ) (code size : ℕ) (goal : List ℕ) → IsFirst rest left code size → new
    ≡ old ++ encode_utf8 code →
    old ++ characters_text (characters rest) ≡ goal → new ++ characters_text (characters left) ≡ goal
decoded_more old new rest left code size goal first e h =
    ap (λ n. n ++ characters_text (characters left)) e ∙ append_assoc old (encode_utf8 code)
    (characters_text (characters left))
    ∙ ap (λ cs. old ++ characters_text cs) (sym (characters_step rest left code size first)) ∙ h

pub decoded_all : (out rest goal : List ℕ) → rest ≡ [] → out ++ characters_text (characters rest) ≡ goal → out ≡ goal
decoded_all out rest goal e h = sym (append-nil out) ∙ ap (λ cs. out ++ characters_text cs)
    (sym (characters_end rest e))
    ∙ h
