-- What a frame's rows tell.
use Rattle.miette_style.specs.views.Printouts.{Printout, ◌⊕◌}
use Rattle.std.proofs.Common.{ℕ, ◌+◌, ◌<◌, ◌≡◌, true, ltb, List, [], ◌∷◌, ◌++◌, replicate, decimal, sym, ap, ◌∙◌, arith}
use Rattle.std.specs.List.{list_all}
use Rattle.std.specs.Prelude.{chars}
use Rattle.std.proofs.lemmas.Bool.Decides.{nat_tests}
use Rattle.miette_style.specs.declared.style.Style.{Style}
use Rattle.miette_style.specs.rules.Rows.{Row, styled_run}
use Rattle.miette_style.specs.rules.Styles.{plain}
use Rattle.miette_snippet_rules.specs.rules.LabelRows.{blank}
use Rattle.miette_snippet_rules.specs.rules.Frames.{Place, place_text}
use Rattle.miette_snippet_frames.specs.steps.FrameParts.{corner_row}
use Rattle.miette_style.specs.views.Tokens.{begins, row_tokens, styled_tokens, text_tokens}
use Rattle.miette_style.proofs.Paging.{told_append}
use Rattle.miette_snippet_rules.proofs.RowTokens.{ascii_chars, then, told_as, run_one, run_more, blank_row, styled_told}
use Rattle.miette_snippet_rules.proofs.RowTokens.{styled_row}
use Rattle.miette_snippet_frames.proofs.TextRows.{parts_then}
use Rattle.miette_snippet_rules.specs.rules.SnippetSettings.{SnippetSettings}

-- bytes below 128 are their own characters
below : (b : ℕ) → ltb b 128 ≡ true → b < 128
below b h = grind (arith, nat_tests)

pub ascii_put : (style : Style) (bs : List ℕ) (p q r : Printout) → list_all (λ b. ltb b 128) bs ≡ true → q ≡ p
    ⊕ begins style ∷ [] → r ≡ q ⊕ text_tokens (chars bs) → r ≡ p ⊕ styled_tokens style bs
ascii_put style bs p q r h hq hr =
    told_as p (begins style ∷ text_tokens (chars bs)) (styled_tokens style bs)
    (then p (begins style ∷ []) (text_tokens (chars bs)) hq hr)
    (ap (styled_tokens style) (ascii_chars (λ b. ltb b 128) below bs h))

-- a run before other runs, and a last run
pub run_then : (w : ℕ → ℕ) (style : Style) (text : List ℕ) (rest : Row) (p q r : Printout) → q ≡ p
    ⊕ styled_tokens style text → r ≡ q ⊕ row_tokens rest → r ≡ p ⊕ row_tokens (styled_run w style text ∷ rest)
run_then w style text rest p q r hq hr =
    then p (styled_tokens style text) (row_tokens rest) hq hr
    ∙ ap (λ x. p ⊕ (x ++ row_tokens rest)) (sym (styled_told w style text))

pub run_last : (w : ℕ → ℕ) (style : Style) (text : List ℕ) (p q : Printout) → q ≡ p ⊕ styled_tokens style text → q ≡ p
    ⊕ row_tokens (styled_run w style text ∷ [])
run_last w style text p q h = h ∙ ap (λ x. p ⊕ x) (sym (styled_row w style text))

pub corner_put : (s : SnippetSettings) (columns w corner many : ℕ) (p q r : Printout) → columns ≡ w + 2 → q ≡ p
    ⊕ styled_tokens plain (replicate columns 32) → r ≡ q ⊕ styled_tokens plain
    (corner ∷ replicate many s.theme.characters.hbar) → r ≡ p ⊕ row_tokens (corner_row s w corner many)
corner_put s columns w corner many p q r e hq hr =
    parts_then (blank s (w + 2) ∷ []) (styled_run s.width plain (corner ∷ replicate many s.theme.characters.hbar) ∷ [])
    p q r
    (hq ∙ ap (λ k. p ⊕ styled_tokens plain (replicate k 32)) e ∙ ap (λ x. p ⊕ x) (sym (blank_row s (w + 2))))
    (run_last s.width plain (corner ∷ replicate many s.theme.characters.hbar) q r hr)

-- two numbers with a colon between them
pub place_put : (place : Place) (line column : ℕ) (p q r n : Printout) → line ≡ place.line + 1 → column ≡ place.column
    + 1 → q ≡ p ⊕ text_tokens (decimal line) → r ≡ q ⊕ text_tokens (58 ∷ []) → n ≡ r ⊕ text_tokens (decimal column) → n
    ≡ p ⊕ text_tokens (place_text place)
place_put place line column p q r n el ec hq hr hn =
    let colon : r ≡ p ⊕ text_tokens (decimal line ++ 58 ∷ []) =
    told_as p (text_tokens (decimal line) ++ text_tokens (58 ∷ [])) (text_tokens (decimal line ++ 58 ∷ []))
    (then p (text_tokens (decimal line)) (text_tokens (58 ∷ [])) hq hr)
    (sym (told_append (decimal line) (58 ∷ []))) in
    told_as p (text_tokens (decimal line ++ 58 ∷ []) ++ text_tokens (decimal column)) (text_tokens (place_text place))
    (then p (text_tokens (decimal line ++ 58 ∷ [])) (text_tokens (decimal column)) colon hn)
    (sym (told_append (decimal line ++ 58 ∷ []) (decimal column))
    ∙ ap (λ k. text_tokens ((decimal k ++ 58 ∷ []) ++ decimal column)) el
    ∙ ap (λ k. text_tokens ((decimal (place.line + 1) ++ 58 ∷ []) ++ decimal k)) ec)

pub link_put : (style : Style) (name place : List ℕ) (p q r n : Printout) → q ≡ p ⊕ styled_tokens style name → r ≡ q
    ⊕ text_tokens (58 ∷ []) → n ≡ r ⊕ text_tokens place → n ≡ p ⊕ styled_tokens style (name ++ 58 ∷ [] ++ place)
link_put style name place p q r n hq hr hn =
    let colon : r ≡ p ⊕ styled_tokens style (name ++ 58 ∷ []) =
    told_as p (styled_tokens style name ++ text_tokens (58 ∷ [])) (styled_tokens style (name ++ 58 ∷ []))
    (then p (styled_tokens style name) (text_tokens (58 ∷ [])) hq hr) (run_one style name 58) in
    told_as p (styled_tokens style (name ++ 58 ∷ []) ++ text_tokens place)
    (styled_tokens style (name ++ 58 ∷ [] ++ place)) (then p (styled_tokens style (name ++ 58 ∷ []))
    (text_tokens place) colon hn) (run_more style (name ++ 58 ∷ []) place)

pub bare_put : (w : ℕ → ℕ) (place : List ℕ) (p q r n : Printout) → q ≡ p ⊕ styled_tokens plain (91 ∷ []) → r ≡ q
    ⊕ text_tokens place → n ≡ r ⊕ text_tokens (93 ∷ []) → n ≡ p
    ⊕ row_tokens (styled_run w plain (91 ∷ [] ++ place ++ 93 ∷ []) ∷ [])
bare_put w place p q r n hq hr hn =
    let opened : r ≡ p ⊕ styled_tokens plain (91 ∷ [] ++ place) =
    told_as p (styled_tokens plain (91 ∷ []) ++ text_tokens place) (styled_tokens plain (91 ∷ [] ++ place))
    (then p (styled_tokens plain (91 ∷ [])) (text_tokens place) hq hr) (run_more plain (91 ∷ []) place) in
    run_last w plain (91 ∷ [] ++ place ++ 93 ∷ []) p n
    (told_as p (styled_tokens plain (91 ∷ [] ++ place) ++ text_tokens (93 ∷ []))
    (styled_tokens plain (91 ∷ [] ++ place ++ 93 ∷ []))
    (then p (styled_tokens plain (91 ∷ [] ++ place)) (text_tokens (93 ∷ [])) opened hn)
    (run_one plain (91 ∷ [] ++ place) 93))
