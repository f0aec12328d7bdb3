-- What rows tell.
use Rattle.miette_style.specs.views.Printouts.{Printout, ◌⊕◌}
use Rattle.std.proofs.Common.{ℕ, zero, suc, Bool, true, ◌<◌, ◌≡◌, arith, List, [], ◌∷◌, ◌++◌, map, replicate, refl, sym}
use Rattle.std.proofs.Common.{ap, ◌∙◌, append_assoc, append-nil}
use Rattle.miette_style.specs.declared.style.Style.{Style}
use Rattle.miette_style.specs.rules.Rows.{Row, glyph_of, styled_run}
use Rattle.miette_style.specs.rules.Styles.{plain}
use Rattle.miette_snippet_rules.specs.rules.LabelRows.{blank}
use Rattle.std.specs.Prelude.{chars}
use Rattle.std.specs.List.{All}
use Rattle.std.specs.List.{list_all}
use Rattle.std.proofs.lemmas.Bool.{and_parts}
use Rattle.std.proofs.lemmas.Str.{chars-IsAscii}
use Rattle.std.proofs.lemmas.Str.Ascii.{IsAscii-from_all}
use Rattle.miette_style.specs.views.Tokens.{RowToken, begins, row_end, row_tokens, run_tokens, rows_tokens}
use Rattle.miette_style.specs.views.Tokens.{styled_tokens}
use Rattle.miette_style.specs.views.Tokens.{text_tokens}
use Rattle.miette_style.proofs.Paging.{told_append, put_append}
use Rattle.miette_snippet_rules.specs.rules.SnippetSettings.{SnippetSettings}

pub codes_drawn : (w : ℕ → ℕ) (text : List ℕ) → map (λ p. p.code) (map (glyph_of w) text) ≡ text
codes_drawn w [] = refl
codes_drawn w (c ∷ text) = ap (λ r. c ∷ r) (codes_drawn w text)

codes_blank : (w : ℕ → ℕ) (many : ℕ) → map (λ p. p.code) (replicate many (glyph_of w 32)) ≡ replicate many 32
codes_blank w zero = refl
codes_blank w (suc many) = ap (λ r. 32 ∷ r) (codes_blank w many)

pub styled_told : (w : ℕ → ℕ) (style : Style) (text : List ℕ) → run_tokens (styled_run w style text)
    ≡ styled_tokens style text
styled_told w style text = ap (styled_tokens style) (codes_drawn w text)

pub blank_told : (s : SnippetSettings) (many : ℕ) → run_tokens (blank s many) ≡ styled_tokens plain (replicate many 32)
blank_told s many = ap (styled_tokens plain) (codes_blank s.width many)

-- a row of one run
pub styled_row : (w : ℕ → ℕ) (style : Style) (text : List ℕ) → row_tokens (styled_run w style text ∷ [])
    ≡ styled_tokens style text
styled_row w style text = append-nil (run_tokens (styled_run w style text)) ∙ styled_told w style text

pub blank_row : (s : SnippetSettings) (many : ℕ) → row_tokens (blank s many ∷ [])
    ≡ styled_tokens plain (replicate many 32)
blank_row s many = append-nil (run_tokens (blank s many)) ∙ blank_told s many

pub told-append : (a b : Row) → row_tokens (a ++ b) ≡ row_tokens a ++ row_tokens b
told-append [] b = refl
told-append (run ∷ a) b = ap (λ ts. run_tokens run ++ ts) (told-append a b)
    ∙ sym (append_assoc (run_tokens run) (row_tokens a) (row_tokens b))

pub told_rows-append : (a b : List Row) → rows_tokens (a ++ b) ≡ rows_tokens a ++ rows_tokens b
told_rows-append [] b = refl
told_rows-append (row ∷ a) b = ap (λ ts. row_tokens row ++ row_end ∷ ts) (told_rows-append a b)
    ∙ sym (append_assoc (row_tokens row) (row_end ∷ rows_tokens a) (rows_tokens b))

-- one thing after another
pub then : (p : Printout) (a b : List RowToken) {q r : Printout} → q ≡ p ⊕ a → r ≡ q ⊕ b → r ≡ p ⊕ (a ++ b)
then p a b {q} {r} e f = f ∙ ap (λ x. x ⊕ b) e ∙ put_append p a b

-- what was put there, in other words
pub told_as : (p : Printout) (a b : List RowToken) {q : Printout} → q ≡ p ⊕ a → a ≡ b → q ≡ p ⊕ b
told_as p a b {q} e f = e ∙ ap (λ x. p ⊕ x) f

-- more characters of a run
pub run_more : (style : Style) (xs ys : List ℕ) → styled_tokens style xs ++ text_tokens ys
    ≡ styled_tokens style (xs ++ ys)
run_more style xs ys = ap (λ ts. begins style ∷ ts) (sym (told_append xs ys))

pub run_one : (style : Style) (xs : List ℕ) (c : ℕ) → styled_tokens style xs ++ text_tokens (c ∷ [])
    ≡ styled_tokens style (xs ++ c ∷ [])
run_one style xs c = run_more style xs (c ∷ [])

-- bytes below 128 are their own characters
all_of : (test : ℕ → Bool) → ((b : ℕ) → test b ≡ true → b < 128) → (bs : List ℕ) → list_all test bs ≡ true
    → All (λ b. b < 128) bs
all_of test f [] h k d lt = absurd (omega (arith, lt))
all_of test f (b ∷ bs) h zero d lt = f b (and_parts (test b) (list_all test bs) h).0
all_of test f (b ∷ bs) h (suc k) d lt = all_of test f bs (and_parts (test b) (list_all test bs) h).1 k d
    (omega (arith, lt))

pub ascii_chars : (test : ℕ → Bool) → ((b : ℕ) → test b ≡ true → b < 128) → (bs : List ℕ) → list_all test bs ≡ true
    → chars bs ≡ bs
ascii_chars test f bs h = chars-IsAscii bs (IsAscii-from_all bs (all_of test f bs h))
