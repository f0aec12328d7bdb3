-- Texts of printable ASCII and tabs.
use Rattle.miette_style.specs.views.Printouts.{Printout, ◌⊕◌}
use Rattle.std.proofs.Common.{ℕ, zero, suc, ◌+◌, ◌-◌, ◌%◌, ◌<◌, ◌≤◌, ◌≡◌, true, false, Bool, ◌||◌, eqb, List, [], ◌∷◌}
use Rattle.std.proofs.Common.{◌++◌, map, length, take, drop, replicate, refl, sym, ap, ◌∙◌, append-nil, arith}
use Rattle.std.specs.List.{list_all}
use Rattle.std.specs.Str.{IsAscii}
use Rattle.std.proofs.lemmas.Bool.{and_parts, false_from_ne_true, eqb-true}
use Rattle.std.proofs.lemmas.Bool.Decides.{nat_tests}
use Rattle.std.proofs.lemmas.List.{nil_from_length, map-append, take_rest, length-drop}
use Rattle.bstr.specs.Utf8.{or_replacement}
use Rattle.memchr.specs.Find.{Nowhere, Passes, is_byte}
use Rattle.miette_style.specs.declared.style.Style.{Style}
use Rattle.miette_style.specs.rules.Styles.{plain}
use Rattle.miette_style.specs.rules.Rows.{Glyph}
use Rattle.miette_style.specs.views.Tokens.{begins, row_tokens, text_tokens}
use Rattle.miette_style.proofs.Paging.{told_append, put_append}
use Rattle.miette_columns.specs.rules.Cells.{Cell, cells_from, characters, width_at}
use Rattle.miette_columns.specs.rules.Widths.{width_of}
use Rattle.miette_columns.specs.views.Printable.{is_printable}
use Rattle.miette_columns.proofs.Stepping.{cells_step, cells_end}
use Rattle.miette_lines.proofs.Cases.{by_cases}
use Rattle.miette_columns.proofs.Plaining.{ascii_decoded, one_column, plain_byte}
use Rattle.miette_snippet_rules.specs.rules.PrintedCells.{printed_glyphs, printed_cells, line_runs}
use Rattle.miette_snippet_rules.specs.rules.Highlighting.{highlight_of}
use Rattle.miette_snippet_rules.proofs.RowTokens.{then}
use Rattle.miette_snippet_rules.specs.steps.CellTokens.{cells_tokens}
use Rattle.miette_snippet_rules.specs.steps.Tabs.{is_tabbed, tabbed_codes}
use Rattle.miette_snippet_rules.proofs.CellPrints.{codes_of_tab}
use Rattle.miette_snippet_rules.proofs.TextWithoutTabs.{printed_code}

abbrev codes : List Cell → List ℕ
codes cells = map (λ (p : Glyph). p.code) (printed_cells cells)

abbrev cells : ℕ → ℕ → ℕ → List ℕ → List Cell
cells tab offset column bs = cells_from width_of tab false offset column (characters bs)

abbrev cell : ℕ → ℕ → ℕ → ℕ → Cell
cell b offset column until = record { code = b; start = offset; after = offset + 1; from = column; until = until }

-- one byte
step : (tab offset column w b : ℕ) (bs : List ℕ) → b < 128 → eqb b 27 ≡ false → w ≡ width_at width_of tab false column b
    →
    codes (cells tab offset column (b ∷ bs)) ≡ map (λ (p : Glyph). p.code)
    (printed_glyphs (cell b offset column (column + w))) ++ codes (cells tab (offset + 1) (column + w) bs)
step tab offset column w b bs low escape width =
    let is = ascii_decoded b bs low in
    ap codes (cells_step width_of tab false false offset column (b ∷ bs) bs b 1 w (column + w) (omega arith) refl
    (sym (ap (λ d. or_replacement d.char) is)) (sym (ap (λ d. d.size) is)) width refl (rw escape refl))
    ∙ map-append (λ (p : Glyph). p.code) (printed_glyphs (cell b offset column (column + w)))
    (printed_cells (cells tab (offset + 1) (column + w) bs))

printed_tab : (b offset column w : ℕ) → eqb b 9 ≡ true
    → map (λ (p : Glyph). p.code) (printed_glyphs (cell b offset column (column + w))) ≡ replicate w 32
printed_tab b offset column w h =
    let same : column + w - column ≡ w = omega arith in
    rw h (sym (codes_of_tab (column + w - column)) ∙ ap (λ n. replicate n 32) same)

printable_or : (x y : Bool) → (x || y) ≡ true → y ≡ false → x ≡ true
printable_or true y h n = refl
printable_or false y h n = sym n ∙ h

tab_width : (tab column b : ℕ) → eqb b 27 ≡ false → eqb b 9 ≡ true → tab - column % tab
    ≡ width_at width_of tab false column b
tab_width tab column b e h = rw (e, h) refl

plain_width : (tab column b : ℕ) → eqb b 27 ≡ false → eqb b 9 ≡ false → width_of b ≡ 1 → 1
    ≡ width_at width_of tab false column b
plain_width tab column b e h w = rw (e, h) (sym w)

no_escape : (b : ℕ) → b ≡ 9 → eqb b 27 ≡ false
no_escape b h = grind (arith, nat_tests)

tabbed_cells : (tab offset column : ℕ) (bs : List ℕ) → list_all is_tabbed bs ≡ true → codes (cells tab offset column bs)
    ≡ tabbed_codes tab column bs
tabbed_cells tab offset column [] h = ap codes (cells_end width_of tab false offset column [] refl)
tabbed_cells tab offset column (b ∷ bs) h =
    let parts = and_parts (is_tabbed b) (list_all is_tabbed bs) h in
    by_cases {C = codes (cells tab offset column (b ∷ bs)) ≡ tabbed_codes tab column (b ∷ bs)} (eqb b 9)
    (λ y.
    let w : ℕ = tab - column % tab in
    let is : b ≡ 9 = eqb-true b 9 y in
    let e = no_escape b is in
    let one = step tab offset column w b bs (omega (arith, is)) e (tab_width tab column b e y) in
    let front = ap (λ r. r ++ codes (cells tab (offset + 1) (column + w) bs)) (printed_tab b offset column w y) in
    let more = ap (λ r. replicate w 32 ++ r) (tabbed_cells tab (offset + 1) (column + w) bs parts.1) in
    one ∙ front ∙ more ∙ tabbed_tab tab column b bs y)
    (λ n.
    let p = printable_or (is_printable b) (eqb b 9) parts.0 n in
    let plain = plain_byte b p in
    let one = step tab offset column 1 b bs (omega (arith, plain.high)) plain.escape
    (plain_width tab column b plain.escape n (one_column b p)) in
    let front = ap (λ r. r ++ codes (cells tab (offset + 1) (column + 1) bs))
    (printed_code (cell b offset column (column + 1)) n) in
    let more = ap (λ r. b ∷ r) (tabbed_cells tab (offset + 1) (column + 1) bs parts.1) in
    one ∙ front ∙ more ∙ tabbed_plain tab column b bs n)
  where
    tabbed_tab : (tab column b : ℕ) (bs : List ℕ) → eqb b 9 ≡ true → replicate (tab - column % tab) 32
        ++ tabbed_codes tab (column + (tab - column % tab)) bs ≡ tabbed_codes tab column (b ∷ bs)
    tabbed_tab tab column b bs y = rw y refl

    tabbed_plain : (tab column b : ℕ) (bs : List ℕ) → eqb b 9 ≡ false → b ∷ tabbed_codes tab (column + 1) bs
        ≡ tabbed_codes tab column (b ∷ bs)
    tabbed_plain tab column b bs n = rw n refl

pub tabbed_ascii : (bs : List ℕ) → list_all is_tabbed bs ≡ true → IsAscii bs
tabbed_ascii [] h zero = omega arith
tabbed_ascii [] h (suc i) = omega arith
tabbed_ascii (b ∷ bs) h zero =
    let t = (and_parts (is_tabbed b) (list_all is_tabbed bs) h).0 in
    by_cases {C = b < 128} (eqb b 9)
    (λ y. let is : b ≡ 9 = eqb-true b 9 y in omega (arith, is))
    (λ n. let p = plain_byte b (printable_or (is_printable b) (eqb b 9) t n) in omega (arith, p.high))
tabbed_ascii (b ∷ bs) h (suc i) = tabbed_ascii bs (and_parts (is_tabbed b) (list_all is_tabbed bs) h).1 i

-- a stretch up to a tab, and the tab
part : (tab n column : ℕ) (bs : List ℕ) → n ≤ length bs → Nowhere (Passes (is_byte 9) bs) 0 n
    → tabbed_codes tab column bs ≡ take n bs ++ tabbed_codes tab (column + n) (drop n bs)
part tab zero column bs le h = ap (λ k. tabbed_codes tab k bs) (omega arith)
part tab (suc n) column [] le h = absurd (omega (arith, le))
part tab (suc n) column (b ∷ bs) le h =
    let at : column + 1 + n ≡ column + suc n = omega arith in
    rw (false_from_ne_true (eqb b 9) (h 0 (omega arith) (omega arith)))
    (ap (λ r. b ∷ r) (part tab n (column + 1) bs (omega (arith, le))
    (λ k lo lt. h (suc k) (omega arith) (omega (arith, lt)))
    ∙ ap (λ k. take n bs ++ tabbed_codes tab k (drop n bs)) at))

stretch_all : (tab column : ℕ) (bs : List ℕ) → Nowhere (Passes (is_byte 9) bs) 0 (length bs)
    → tabbed_codes tab column bs ≡ bs
stretch_all tab column [] h = refl
stretch_all tab column (b ∷ bs) h =
    rw (false_from_ne_true (eqb b 9) (h 0 (omega arith) (omega arith)))
    (ap (λ r. b ∷ r) (stretch_all tab (column + 1) bs (λ k lo lt. h (suc k) (omega arith) (omega (arith, lt)))))

tab_at : (tab n column : ℕ) (bs : List ℕ) → n < length bs → Passes (is_byte 9) bs n →
    tabbed_codes tab column (drop n bs) ≡ replicate (tab - column % tab) 32
    ++ tabbed_codes tab (column + (tab - column % tab)) (drop (n + 1) bs)
tab_at tab n column [] lt h = absurd (omega (arith, lt))
tab_at tab zero column (b ∷ bs) lt h = rw h refl
tab_at tab (suc n) column (b ∷ bs) lt h =
    let more : suc (n + 1) ≡ suc n + 1 = omega arith in
    tab_at tab n column bs (omega (arith, lt)) h
    ∙ ap (λ k. replicate (tab - column % tab) 32 ++ tabbed_codes tab (column + (tab - column % tab)) (drop k (b ∷ bs)))
    more

pub shorter : (n : ℕ) (bs : List ℕ) → length (take (length bs - n) (drop n bs)) ≤ length bs
shorter n bs = omega (arith, ap length (take_rest bs n), length-drop n bs)

pub stretch_put : (tab size column until spaces later : ℕ) (rest left : List ℕ) (p q r whole : Printout) → size
    < length rest → Nowhere (Passes (is_byte 9) rest) 0 size → Passes (is_byte 9) rest size →
    q ≡ p ⊕ text_tokens (take size rest) → until ≡ column + size → spaces ≡ tab - until % tab → r ≡ q
    ⊕ text_tokens (replicate spaces 32) → later ≡ until + spaces → left ≡ drop (size + 1) rest →
    p ⊕ text_tokens (tabbed_codes tab column rest) ≡ whole → r ⊕ text_tokens (tabbed_codes tab later left) ≡ whole
stretch_put tab size column until spaces later rest left p q r whole lt none is hq hu hs hr hl hd h =
    let n : ℕ = tab - until % tab in
    let after : List ℕ = drop size rest in
    let last : List ℕ = tabbed_codes tab (until + n) (drop (size + 1) rest) in
    ap (λ x. r ⊕ text_tokens (tabbed_codes tab later x)) hd
    ∙ ap (λ x. r ⊕ text_tokens (tabbed_codes tab x (drop (size + 1) rest))) (hl ∙ ap (λ k. until + k) hs)
    ∙ ap (λ x. x ⊕ text_tokens last) (hr ∙ ap (λ k. q ⊕ text_tokens (replicate k 32)) hs)
    ∙ put_append q (text_tokens (replicate n 32)) (text_tokens last)
    ∙ ap (λ x. q ⊕ x) (sym (told_append (replicate n 32) last))
    ∙ ap (λ x. q ⊕ text_tokens x) (sym (tab_at tab size until rest lt is))
    ∙ ap (λ x. x ⊕ text_tokens (tabbed_codes tab until after)) hq
    ∙ put_append p (text_tokens (take size rest)) (text_tokens (tabbed_codes tab until after))
    ∙ ap (λ x. p ⊕ x) (sym (told_append (take size rest) (tabbed_codes tab until after)))
    ∙ ap (λ x. p ⊕ text_tokens (take size rest ++ tabbed_codes tab x after)) hu
    ∙ ap (λ x. p ⊕ text_tokens x) (sym (part tab size column rest (omega (arith, lt)) none))
    ∙ h

pub rest_put : (tab column : ℕ) (rest : List ℕ) (p q whole : Printout)
    → Nowhere (Passes (is_byte 9) rest) 0 (length rest) → q ≡ p ⊕ text_tokens rest → p
    ⊕ text_tokens (tabbed_codes tab column rest) ≡ whole → q ≡ whole
rest_put tab column rest p q whole none hq h = hq ∙ ap (λ x. p ⊕ text_tokens x) (sym (stretch_all tab column rest none))
    ∙ h

pub tabbed_put : (tab offset : ℕ) (bs : List ℕ) (pieces : List (ℕ × Style)) (p q r : Printout) → length pieces ≡ 0
    → list_all is_tabbed bs ≡ true →
    q ≡ p ⊕ begins plain ∷ [] → r ≡ q ⊕ text_tokens (tabbed_codes tab 0 bs) → r ≡ p
    ⊕ row_tokens (line_runs (map highlight_of pieces) (cells_from width_of tab false offset 0 (characters bs)))
tabbed_put tab offset bs pieces p q r none h hq hr =
    then p (begins plain ∷ []) (text_tokens (tabbed_codes tab 0 bs)) hq hr
    ∙ ap (λ x. p ⊕ begins plain ∷ text_tokens x) (sym (tabbed_cells tab offset 0 bs h))
    ∙ ap (λ x. p ⊕ x) (sym (append-nil (begins plain ∷ cells_tokens
    (cells_from width_of tab false offset 0 (characters bs)))))
    ∙ ap (λ ps. p ⊕ row_tokens (line_runs (map highlight_of ps)
    (cells_from width_of tab false offset 0 (characters bs)))) (sym (nil_from_length pieces none))
