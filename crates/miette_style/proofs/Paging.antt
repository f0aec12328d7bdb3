-- How a page grows.
use Rattle.std.proofs.Common.{ℕ, zero, suc, ◌-◌, ◌<◌, ◌≡◌, ◌==◌, Bool, true, false, List, [], ◌∷◌, ◌++◌, length}
use Rattle.std.proofs.Common.{replicate, decimal, chars, encode_utf8_all, refl, sym, ap, ◌∙◌, append_assoc, arith}
use Rattle.std.specs.Str.{IsAscii, IsUtf8}
use Rattle.std.proofs.lemmas.Str.{chars-IsAscii, chars-nil, encodes-chars}
use Rattle.std.proofs.lemmas.List.{map-append}
use Rattle.miette_style.specs.declared.style.Style.{Style}
use Rattle.miette_style.specs.views.Printouts.{Printout, put, started_text, ◌⊕◌}
use Rattle.miette_style.specs.views.Tokens.{RowToken, text_tokens}

-- some tokens, and then others
pub put_append : (p : Printout) (a b : List RowToken) → (p ⊕ a) ⊕ b ≡ p ⊕ a ++ b
put_append p [] b = refl
put_append p (token ∷ a) b = put_append (put p token) a b

-- more characters
pub told_append : (xs ys : List ℕ) → text_tokens (xs ++ ys) ≡ text_tokens xs ++ text_tokens ys
told_append xs ys = map-append _ xs ys

-- the characters of a run that has one
pub text_put : (p : Printout) (c : ℕ) (cs : List ℕ) → p ⊕ text_tokens (c ∷ cs)
    ≡ record { text = started_text p ++ c ∷ cs; style = p.style; begun = true }
text_put p c [] = refl
text_put p c (d ∷ cs) =
    text_put (record { text = started_text p ++ c ∷ []; style = p.style; begun = true }) d cs
    ∙ ap (λ t. record { text = t; style = p.style; begun = true }) (append_assoc (started_text p) (c ∷ []) (d ∷ cs))

-- the same of characters of which there is one
pub some_put : (p : Printout) (codes : List ℕ) → 0 < length codes
    → record { text = started_text p ++ codes; style = p.style; begun = true } ≡ p ⊕ text_tokens codes
some_put p [] h = absurd (omega arith)
some_put p (c ∷ cs) h = sym (text_put p c cs)

pub put_nil : (p : Printout) → p ⊕ [] ≡ p
put_nil p = refl

-- a printout of these parts
abbrev pub printed_as : List ℕ → Style → Bool → Printout
printed_as text style begun = record { text = text; style = style; begun = begun }

-- a page whose output holds some characters more, once its run has a start
pub page_put : (p started : Printout) (more codes : List ℕ) → 0 < length codes
    → started ≡ record p { text = started_text p; begun = true } → more ≡ started.text ++ codes
    → record started { text = more } ≡ p ⊕ text_tokens codes
page_put p started more codes some s e =
    ap (λ t. record { text = t; style = started.style; begun = started.begun }) e
    ∙ ap (λ (q : Printout). record { text = q.text ++ codes; style = q.style; begun = q.begun }) s
    ∙ some_put p codes some

pub nonzero : (n : ℕ) → (n == 0) ≡ false → 0 < n
nonzero zero h = absurd (cc)
nonzero (suc n) h = omega arith

-- spaces, and digits after them
pub right_put : (number columns gap : ℕ) (digits : List ℕ) (p q r : Printout) → digits ≡ decimal number → gap ≡ columns
    - length digits → IsAscii digits → q ≡ p ⊕ text_tokens (replicate gap 32) → r ≡ q ⊕ text_tokens (chars digits) →
    r ≡ p ⊕ text_tokens (replicate (columns - length (decimal number)) 32 ++ decimal number)
right_put number columns gap digits p q r e z a hq hr =
    hr ∙ ap (λ x. x ⊕ text_tokens (chars digits)) hq
    ∙ put_append p (text_tokens (replicate gap 32)) (text_tokens (chars digits))
    ∙ ap (λ ds. p ⊕ text_tokens (replicate gap 32) ++ text_tokens ds) (chars-IsAscii digits a)
    ∙ ap (λ ts. p ⊕ ts) (sym (told_append (replicate gap 32) digits))
    ∙ ap (λ k. p ⊕ text_tokens (replicate k 32 ++ digits)) z
    ∙ ap (λ ds. p ⊕ text_tokens (replicate (columns - length ds) 32 ++ ds)) e

-- a text without bytes
pub none_bytes : (p : Printout) (bytes : List ℕ) → length bytes ≡ 0 → p ≡ p ⊕ text_tokens (chars bytes)
none_bytes p [] e = ap (λ codes. p ⊕ text_tokens codes) (sym chars-nil)
none_bytes p (b ∷ bs) e = absurd (omega (arith, e))

some-codes : (cs bs : List ℕ) → encode_utf8_all cs ≡ bs → 0 < length bs → 0 < length cs
some-codes [] bs e l = absurd (omega (arith, ap length e))
some-codes (c ∷ cs) bs e l = omega arith

-- a text of some bytes has some characters
pub some-chars : (bs : List ℕ) → IsUtf8 bs → 0 < length bs → 0 < length (chars bs)
some-chars bs u l = some-codes (chars bs) bs (encodes-chars bs u) l
