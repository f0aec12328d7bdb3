-- What lines of printable ASCII print that are cut.
use Rattle.miette_style.specs.views.Printouts.{Printout, ◌⊕◌}
use Rattle.std.proofs.Common.{ℕ, zero, suc, ◌+◌, ◌-◌, ◌<◌, ◌≤◌, ◌≡◌, min, true, false, cond}
use Rattle.std.proofs.Common.{List, [], ◌∷◌, ◌++◌, map, length, take, drop, get_or, refl, sym, ap, ap₂}
use Rattle.std.proofs.Common.{◌∙◌, append-nil, arith}
use Rattle.std.specs.List.{list_all}
use Rattle.std.specs.Str.{IsAscii}
use Rattle.std.proofs.lemmas.Bool.{and_parts}
use Rattle.std.proofs.lemmas.List.{at_drop_more, at_drop_all, map-append, nil_from_length}
use Rattle.miette_style.specs.rules.Styles.{plain}
use Rattle.miette_style.specs.rules.Rows.{Glyph, Run}
use Rattle.miette_style.specs.views.Tokens.{begins, row_tokens, styled_tokens, text_tokens}
use Rattle.miette_style.proofs.Paging.{put_append, put_nil}
use Rattle.miette_columns.specs.rules.Cells.{Cell, cells_from, characters}
use Rattle.miette_columns.specs.rules.Widths.{width_of}
use Rattle.miette_columns.specs.views.Printable.{is_printable, plain_cells}
use Rattle.miette_lines.proofs.Cases.{by_cases}
use Rattle.miette_columns.proofs.Plaining.{plain_byte, printable_taken}
use Rattle.miette_snippet_rules.specs.rules.PrintedCells.{line_runs, printed_glyphs, printed_cells}
use Rattle.miette_snippet_rules.proofs.RowTokens.{then, told-append}
use Rattle.miette_snippet_rules.specs.declared.line_part.LinePart.{LinePart as MadePart}
use Rattle.miette_snippet_rules.specs.views.Cuts.{cut_cells}
use Rattle.miette_snippet_rules.specs.steps.PlainCut.{plain_part, plain_told}
use Rattle.miette_snippet_rules.proofs.PlainCells.{printable_cells, cell_of_byte, dropped}
use Rattle.miette_snippet_rules.specs.rules.Highlighting.{highlight_of}
use Rattle.miette_style.specs.declared.style.Style.{Style}
use Rattle.miette_snippet_rules.proofs.TextWithoutTabs.{printed_code}

-- ---- what they print

take_plain : (n o c : ℕ) (bs : List ℕ) → take n (plain_cells o c bs) ≡ plain_cells o c (take n bs)
take_plain zero o c bs = refl
take_plain (suc n) o c [] = refl
take_plain (suc n) o c (b ∷ bs) = ap (λ cells. cell_of_byte b o c ∷ cells) (take_plain n (o + 1) (c + 1) bs)

drop_plain : (n o c : ℕ) (bs : List ℕ) → drop n (plain_cells o c bs) ≡ plain_cells (o + n) (c + n) (drop n bs)
drop_plain zero o c bs =
    let at : o ≡ o + 0 = omega arith in
    let column : c ≡ c + 0 = omega arith in
    ap₂ (λ p q. plain_cells p q bs) at column
drop_plain (suc n) o c [] = refl
drop_plain (suc n) o c (b ∷ bs) =
    let at : o + 1 + n ≡ o + suc n = omega arith in
    let column : c + 1 + n ≡ c + suc n = omega arith in
    drop_plain n (o + 1) (c + 1) bs ∙ ap₂ (λ p q. plain_cells p q (drop n bs)) at column

-- the codes that are printed are the bytes
pub plain_codes : (o c : ℕ) (bs : List ℕ) → list_all is_printable bs ≡ true
    → map (λ (p : Glyph). p.code) (printed_cells (plain_cells o c bs)) ≡ bs
plain_codes o c [] h = refl
plain_codes o c (b ∷ bs) h =
    let parts = and_parts (is_printable b) (list_all is_printable bs) h in
    let cell : Cell = cell_of_byte b o c in
    map-append (λ (p : Glyph). p.code) (printed_glyphs cell) (printed_cells (plain_cells (o + 1) (c + 1) bs))
    ∙ ap (λ r. r ++ map (λ (p : Glyph). p.code) (printed_cells (plain_cells (o + 1) (c + 1) bs)))
    (printed_code cell (plain_byte b parts.0).tab)
    ∙ ap (λ r. b ∷ r) (plain_codes (o + 1) (c + 1) bs parts.1)

-- all that is shown of a text of printable ASCII
pub plain_shown : (run : Run) (o c before : ℕ) (cut : List MadePart) (bs : List ℕ) → list_all is_printable bs ≡ true
    → plain_told run cut bs ≡ row_tokens (cut_cells run [] before cut (plain_cells o c bs))
plain_shown run o c before [] bs h = refl
plain_shown run o c before (s ∷ later) bs h =
    let rest : List Run = cut_cells run [] (before + s.bytes) later (drop s.cells (plain_cells o c bs)) in
    let own : List Run = cond s.shown (line_runs [] (take s.cells (plain_cells o c bs))) (run ∷ []) in
    let below : plain_told run later (drop s.cells bs) ≡ row_tokens rest =
    plain_shown run (o + s.cells) (c + s.cells) (before + s.bytes) later (drop s.cells bs) (dropped s.cells bs h)
    ∙ ap (λ cells. row_tokens (cut_cells run [] (before + s.bytes) later cells)) (sym (drop_plain s.cells o c bs)) in
    let here : plain_part run s bs ≡ row_tokens own =
    by_cases {C = plain_part run s bs ≡ row_tokens own} s.shown
    (λ y. rw y (ap (styled_tokens plain) (sym (plain_codes o c (take s.cells bs) (printable_taken s.cells bs h))
    ∙ ap (λ cells. map (λ (p : Glyph). p.code) (printed_cells cells)) (sym (take_plain s.cells o c bs)))
    ∙ sym (append-nil (styled_tokens plain (map (λ (p : Glyph). p.code)
    (printed_cells (take s.cells (plain_cells o c bs)))))))
    )
    (λ n. rw n refl) in
    ap₂ (λ a b. a ++ b) here below ∙ sym (told-append own rest)

-- ---- printing

pub printable_ascii : (bs : List ℕ) → list_all is_printable bs ≡ true → IsAscii bs
printable_ascii [] h zero = omega arith
printable_ascii [] h (suc i) = omega arith
printable_ascii (b ∷ bs) h zero = let p = plain_byte b (and_parts (is_printable b) (list_all is_printable bs) h).0 in
    omega (arith, p.high)
printable_ascii (b ∷ bs) h (suc i) = printable_ascii bs (and_parts (is_printable b) (list_all is_printable bs) h).1 i

pub stretch_plain : (run : Run) (s : MadePart) (own bytes : List ℕ) (p q r : Printout) → s.shown ≡ true → own
    ≡ take s.cells bytes → q ≡ p ⊕ begins plain ∷ [] → r ≡ q ⊕ text_tokens own → r ≡ p ⊕ plain_part run s bytes
stretch_plain run s own bytes p q r shown o hq hr =
    then p (begins plain ∷ []) (text_tokens own) hq hr ∙ ap (λ xs. p ⊕ styled_tokens plain xs) o
    ∙ ap (λ b. p ⊕ cond b (styled_tokens plain (take s.cells bytes)) (row_tokens (run ∷ []))) (sym shown)

pub stretch_dotted : (run : Run) (s : MadePart) (bytes : List ℕ) (p q : Printout) → s.shown ≡ false → q ≡ p
    ⊕ row_tokens (run ∷ []) → q ≡ p ⊕ plain_part run s bytes
stretch_dotted run s bytes p q left hq =
    hq ∙ ap (λ b. p ⊕ cond b (styled_tokens plain (take s.cells bytes)) (row_tokens (run ∷ []))) (sym left)

pub take_least : (n : ℕ) (bs : List ℕ) → take (min n (length bs)) bs ≡ take n bs
take_least zero bs = let none : min 0 (length bs) ≡ 0 = omega arith in ap (λ k. take k bs) none
take_least (suc n) [] = let none : min (suc n) 0 ≡ 0 = omega arith in ap (λ (k : ℕ). take k []) none
take_least (suc n) (b ∷ bs) = let less : min (suc n) (suc (length bs)) ≡ suc (min n (length bs)) = omega arith in
    ap (λ k. take k (b ∷ bs)) less ∙ ap (λ xs. b ∷ xs) (take_least n bs)

pub drop_least : (n : ℕ) (bs : List ℕ) → drop (min n (length bs)) bs ≡ drop n bs
drop_least zero bs = let none : min 0 (length bs) ≡ 0 = omega arith in ap (λ k. drop k bs) none
drop_least (suc n) [] = let none : min (suc n) 0 ≡ 0 = omega arith in ap (λ (k : ℕ). drop k []) none
drop_least (suc n) (b ∷ bs) = let less : min (suc n) (suc (length bs)) ≡ suc (min n (length bs)) = omega arith in
    ap (λ k. drop k (b ∷ bs)) less ∙ drop_least n bs

pub plain_more : (run : Run) (cut : List MadePart) (i : ℕ) (d : MadePart) (rest later : List ℕ)
    (p q whole : Printout) → i < length cut → later ≡ drop (get_or cut i d).cells rest → q ≡ p
    ⊕ plain_part run (get_or cut i d) rest →
    p ⊕ plain_told run (drop i cut) rest ≡ whole → q ⊕ plain_told run (drop (i + 1) cut) later ≡ whole
plain_more run cut i d rest later p q whole lt l hq inv =
    let s : MadePart = get_or cut i d in
    ap (λ xs. q ⊕ plain_told run (drop (i + 1) cut) xs) l
    ∙ ap (λ x. x ⊕ plain_told run (drop (i + 1) cut) (drop s.cells rest)) hq
    ∙ put_append p (plain_part run s rest) (plain_told run (drop (i + 1) cut) (drop s.cells rest))
    ∙ ap (λ xs. p ⊕ plain_told run xs rest) (sym (at_drop_more (λ (xs : List MadePart). xs) cut i d lt)) ∙ inv

pub plain_end : (run : Run) (cut : List MadePart) (i : ℕ) (rest : List ℕ) (p whole : Printout) → length cut ≤ i → p
    ⊕ plain_told run (drop i cut) rest ≡ whole → p ≡ whole
plain_end run cut i rest p whole le inv = sym (put_nil p) ∙ ap (λ xs. p ⊕ plain_told run xs rest)
    (sym (at_drop_all (λ (xs : List MadePart). xs) cut i le)) ∙ inv

-- ---- in a line

pub plain_cut_put : (run : Run) (tab start : ℕ) (pieces : List (ℕ × Style)) (cut : List MadePart) (bs : List ℕ)
    (p q : Printout) → length pieces ≡ 0 → list_all is_printable bs ≡ true → q ≡ p ⊕ plain_told run cut bs →
    q ≡ p ⊕ row_tokens (cut_cells run (map highlight_of pieces) 0 cut
    (cells_from width_of tab false start 0 (characters bs)))
plain_cut_put run tab start pieces cut bs p q none h hq =
    hq ∙ ap (λ ts. p ⊕ ts) (plain_shown run start 0 0 cut bs h)
    ∙ ap (λ cells. p ⊕ row_tokens (cut_cells run [] 0 cut cells)) (sym (printable_cells tab start 0 bs h))
    ∙ ap (λ ps. p ⊕ row_tokens (cut_cells run (map highlight_of ps) 0 cut
    (cells_from width_of tab false start 0 (characters bs)))) (sym (nil_from_length pieces none))
