-- What mark rows tell.
use Rattle.miette_style.proofs.Paging.{put_append}
use Rattle.miette_style.specs.views.Printouts.{Printout, ◌⊕◌}
use Rattle.std.proofs.Common.{ℕ, zero, suc, ◌+◌, ◌-◌, ◌<◌, ◌≤◌, ◌≡◌, false, cond, eqb, List, [], ◌∷◌, ◌++◌, map, length}
use Rattle.std.proofs.Common.{drop, get_or, replicate, refl, sym, ap, ◌∙◌, append_assoc, arith, Option, Some}
use Rattle.std.specs.Prelude.{chars}
use Rattle.std.proofs.lemmas.List.{at_drop_more, map-append}
use Rattle.std.proofs.lemmas.Bool.{eq-eqb, ne_eqb}
use Rattle.std.specs.List.{range_with_len}
use Rattle.miette_style.specs.declared.style.Style.{Style}
use Rattle.miette_snippet_rules.specs.declared.underlines.Underline.{Underline as MadeUnderline}
use Rattle.miette_style.specs.rules.Rows.{glyph_of}
use Rattle.miette_style.specs.rules.Styles.{plain}
use Rattle.miette_labels.specs.rules.Labels.{parts_of, is_empty}
use Rattle.miette_snippet_rules.specs.rules.Underlines.{Underline}
use Rattle.miette_snippet_rules.specs.rules.LabelRows.{underline_code, underline_run, underline_runs, pointer_code}
use Rattle.miette_snippet_rules.specs.views.MadeUnderlines.{underline_of}
use Rattle.miette_style.specs.views.Tokens.{RowToken, begins, row_tokens, run_tokens, styled_tokens, text_tokens}
use Rattle.miette_lines.proofs.Ranges.{range_with_len-append}
use Rattle.miette_snippet_frames.proofs.TextLines.{cut_some}
use Rattle.miette_snippet_rules.proofs.RowTokens.{then, told_as, run_one, run_more, blank_told}
use Rattle.miette_style.specs.rules.Themes.{Characters}
use Rattle.miette_snippet_rules.specs.rules.SnippetSettings.{SnippetSettings}

mapped_codes : (w f : ℕ → ℕ) (ks : List ℕ) → map (λ p. p.code) (map (λ k. glyph_of w (f k)) ks) ≡ map f ks
mapped_codes w f [] = refl
mapped_codes w f (k ∷ ks) = ap (λ r. f k ∷ r) (mapped_codes w f ks)

constant : (f : ℕ → ℕ) (u from n : ℕ) → ((k : ℕ) → from ≤ k → k < from + n → f k ≡ u) → map f (range_with_len from n)
    ≡ replicate n u
constant f u from zero h = refl
constant f u from (suc n) h = rw (h from (omega arith) (omega arith))
    (ap (λ r. u ∷ r) (constant f u (from + 1) n (λ k a b. h k (omega arith) (omega arith))))

abbrev pub middle : Characters → Underline → ℕ
middle t m = cond (is_empty m.label) t.uarrow (pointer_code t m.label.parts)

-- a mark's characters, where its anchor is `x` columns after its start and before its end
codes_by : (t : Characters) (m : Underline) (x y : ℕ) → m.pointer ≡ m.from + x
    → map (underline_code t m) (range_with_len m.from (x + suc y)) ≡ (replicate x t.underline ++ middle t m ∷ [])
    ++ replicate y t.underline
codes_by t m x y e =
    let before : map (underline_code t m) (range_with_len m.from x) ≡ replicate x t.underline =
    constant (underline_code t m) t.underline m.from x (λ k a b. elsewhere t m k (ne_eqb k m.pointer (omega arith))) in
    let after : map (underline_code t m) (range_with_len (m.from + x + 1) y) ≡ replicate y t.underline =
    constant (underline_code t m) t.underline (m.from + x + 1) y
    (λ k a b. elsewhere t m k (ne_eqb k m.pointer (omega arith))) in
    ap (map (underline_code t m)) (range_with_len-append m.from x (suc y))
    ∙ map-append (underline_code t m) (range_with_len m.from x) ((m.from + x) ∷ range_with_len (m.from + x + 1) y)
    ∙ ap (λ r. r ++ underline_code t m (m.from + x) ∷ map (underline_code t m) (range_with_len (m.from + x + 1) y))
    before
    ∙ ap (λ r. replicate x t.underline ++ underline_code t m (m.from + x) ∷ r) after
    ∙ ap (λ c. replicate x t.underline ++ c ∷ replicate y t.underline) (here t m (m.from + x) (sym e))
    ∙ sym (append_assoc (replicate x t.underline) (middle t m ∷ []) (replicate y t.underline))
  where
    elsewhere : (t : Characters) (m : Underline) (k : ℕ) → eqb k m.pointer ≡ false → underline_code t m k ≡ t.underline
    elsewhere t m k f = ap (λ b. cond b (middle t m) t.underline) f

    here : (t : Characters) (m : Underline) (k : ℕ) → k ≡ m.pointer → underline_code t m k ≡ middle t m
    here t m k h = ap (λ b. cond b (middle t m) t.underline) (eq-eqb k m.pointer h)

pub mark_put : (v : SnippetSettings) (m : Underline) (at x y c : ℕ) (p q r s n : Printout) → at ≡ m.pointer → m.from
    ≤ at → at < m.until → x ≡ at - m.from → y ≡ m.until - at - 1 → c ≡ middle v.theme.characters m →
    q ≡ p ⊕ begins m.label.style ∷ [] → r ≡ q ⊕ text_tokens (replicate x v.theme.characters.underline) → s ≡ r
    ⊕ text_tokens (c ∷ []) → n
    ≡ s ⊕ text_tokens (replicate y v.theme.characters.underline) → n ≡ p ⊕ run_tokens (underline_run v m)
mark_put v m at x y c p q r s n a le lt ex ey ec hq hr hs hn =
    let style : Style = m.label.style in
    let xs : List ℕ = replicate x v.theme.characters.underline in
    let ys : List ℕ = replicate y v.theme.characters.underline in
    let many : m.until - m.from ≡ x + suc y = omega arith in
    let begun : r ≡ p ⊕ styled_tokens style xs = then p (begins style ∷ []) (text_tokens xs) hq hr in
    let middled : s ≡ p ⊕ styled_tokens style (xs ++ c ∷ []) =
    told_as p (styled_tokens style xs ++ text_tokens (c ∷ [])) (styled_tokens style (xs ++ c ∷ []))
    (then p (styled_tokens style xs) (text_tokens (c ∷ [])) begun hs) (run_one style xs c) in
    told_as p (styled_tokens style (xs ++ c ∷ []) ++ text_tokens ys) (run_tokens (underline_run v m))
    (then p (styled_tokens style (xs ++ c ∷ [])) (text_tokens ys) middled hn)
    (run_more style (xs ++ c ∷ []) ys
    ∙ ap (λ k. styled_tokens style ((xs ++ k ∷ []) ++ ys)) ec
    ∙ ap (styled_tokens style) (sym (codes_by v.theme.characters m x y (omega arith)))
    ∙ ap (λ k. styled_tokens style (map (underline_code v.theme.characters m) (range_with_len m.from k))) (sym many)
    ∙ ap (styled_tokens style) (sym (mapped_codes v.width (underline_code v.theme.characters m)
    (range_with_len m.from (m.until - m.from)))))

-- one more mark
pub mark_more : (v : SnippetSettings) (marks : List MadeUnderline) (i reached gap : ℕ)
    (d : MadeUnderline) (row spaced new whole : Printout) → i < length marks → gap ≡ (get_or marks i d).from - reached →
    spaced ≡ row ⊕ styled_tokens plain (replicate gap 32) → new ≡ spaced
    ⊕ run_tokens (underline_run v (underline_of (get_or marks i d))) →
    row ⊕ row_tokens (underline_runs v reached (map underline_of (drop i marks))) ≡ whole → new
    ⊕ row_tokens (underline_runs v (get_or marks i d).until (map underline_of (drop (i + 1) marks))) ≡ whole
mark_more v marks i reached gap d row spaced new whole lt z s n h =
    let m : Underline = underline_of (get_or marks i d) in
    let rest : List RowToken = row_tokens (underline_runs v m.until (map underline_of (drop (i + 1) marks))) in
    ap (λ r. r ⊕ rest) (n ∙ ap (λ r. r ⊕ run_tokens (underline_run v m))
    (s ∙ ap (λ k. row ⊕ styled_tokens plain (replicate k 32)) z))
    ∙ put_append (row ⊕ styled_tokens plain (replicate (m.from - reached) 32)) (run_tokens (underline_run v m)) rest
    ∙ put_append row (styled_tokens plain (replicate (m.from - reached) 32)) (run_tokens (underline_run v m) ++ rest)
    ∙ ap (λ r. row ⊕ (r ++ (run_tokens (underline_run v m) ++ rest))) (sym (blank_told v (m.from - reached)))
    ∙ ap (λ xs. row ⊕ row_tokens (underline_runs v reached xs)) (sym (at_drop_more (map underline_of) marks i d lt)) ∙ h

-- the character of a label with a text
pub middle_of_some : (t : Characters) (text : Option (List ℕ)) (bytes : List ℕ) → text ≡ Some bytes → t.underbar
    ≡ pointer_code t (parts_of text)
middle_of_some t text bytes e = sym (ap (λ x. pointer_code t (parts_of x)) e
    ∙ ap (pointer_code t) (cut_some (chars bytes)).1.1)

pub middle_of_full : (t : Characters) (start after : ℕ) (text : Option (List ℕ)) (bytes : List ℕ) → (start ≡ after → ⊥)
    → text ≡ Some bytes → t.underbar ≡ cond (eqb start after) t.uarrow (pointer_code t (parts_of text))
middle_of_full t start after text bytes h e = middle_of_some t text bytes e
    ∙ ap (λ b. cond b t.uarrow (pointer_code t (parts_of text))) (sym (ne_eqb start after h))
