-- Texts without tabs.
use Rattle.miette_style.specs.views.Printouts.{Printout, ◌⊕◌}
use Rattle.std.proofs.Common.{ℕ, suc, ◌+◌, ◌≡◌, true, false, Bool, not, eqb, List, [], ◌∷◌, ◌++◌, map, length, refl}
use Rattle.std.proofs.Common.{sym, ap, subst, ◌∙◌, append-nil, arith, Option, Some, None}
use Rattle.std.specs.Prelude.{IsUtf8, chars, encode_utf8, encode_utf8_all}
use Rattle.std.specs.Option.{is_some, IfSome}
use Rattle.std.specs.List.{list_all}
use Rattle.std.proofs.lemmas.Bool.{and_parts, not-true, eqb-true, false_from_ne_true}
use Rattle.std.proofs.lemmas.List.{nil_from_length, map-append}
use Rattle.std.proofs.lemmas.List.Folds.{list_all-append}
use Rattle.std.proofs.lemmas.Str.{chars_from_encodes, encodes-chars, encode_ascii}
use Rattle.bstr.specs.Utf8.{Decoded, or_replacement, pieces, lossy_chars}
use Rattle.bstr.proofs.lemmas.EncodeLemmas.{lossy_chars-encode}
use Rattle.memchr.specs.Find.{Nowhere, Passes, IsFirstByte, is_byte}
use Rattle.miette_style.specs.declared.style.Style.{Style}
use Rattle.miette_style.specs.rules.Styles.{plain}
use Rattle.miette_style.specs.rules.Rows.{Glyph}
use Rattle.miette_style.specs.views.Tokens.{begins, row_tokens, text_tokens}
use Rattle.miette_columns.specs.rules.Cells.{Character, Cell, cells_from, characters, width_at, hides_next}
use Rattle.miette_columns.specs.rules.Widths.{width_of}
use Rattle.miette_columns.proofs.Stepping.{made}
use Rattle.miette_lines.proofs.Cases.{by_cases}
use Rattle.miette_snippet_rules.specs.rules.PrintedCells.{printed_glyphs, printed_cells, line_runs}
use Rattle.miette_snippet_rules.specs.rules.Highlighting.{highlight_of}
use Rattle.miette_snippet_rules.proofs.RowTokens.{then}
use Rattle.miette_snippet_rules.specs.steps.CellTokens.{cells_tokens}
use Rattle.miette_snippet_rules.specs.steps.Tabs.{is_untabbed}

abbrev codes : List Character → List ℕ
codes cs = map (λ (c : Character). c.code) cs

codes_of_pieces : (ps : List Decoded) → codes (map (λ (p : Decoded). made (or_replacement p.char) p.size) ps)
    ≡ map (λ (p : Decoded). or_replacement p.char) ps
codes_of_pieces [] = refl
codes_of_pieces (p ∷ ps) = ap (λ cs. or_replacement p.char ∷ cs) (codes_of_pieces ps)

-- the characters of UTF-8 are those that it spells
spelled : (bs : List ℕ) → IsUtf8 bs → codes (characters bs) ≡ chars bs
spelled bs u =
    let cs : List ℕ = u.0 in
    let is : encode_utf8_all cs ≡ bs = u.1.1 in
    let read : lossy_chars bs ≡ cs = subst (λ t. lossy_chars t ≡ cs) is (lossy_chars-encode cs u.1.0) in
    codes_of_pieces (pieces bs) ∙ read ∙ chars_from_encodes cs bs u is

no_tab : (c : ℕ) → is_untabbed c ≡ true → eqb c 9 ≡ false
no_tab c h = not-true (eqb c 9) h

-- a tab is a byte of its own
character_untabbed : (c : ℕ) → list_all is_untabbed (encode_utf8 c) ≡ true → is_untabbed c ≡ true
character_untabbed c h =
    by_cases {C = is_untabbed c ≡ true} (eqb c 9)
    (λ y.
    let e : c ≡ 9 = eqb-true c 9 y in
    let none : list_all is_untabbed (9 ∷ []) ≡ true = sym
    (ap (list_all is_untabbed) (ap encode_utf8 e ∙ encode_ascii 9 (omega arith))) ∙ h in
    absurd (cc))
    (λ n. ap not n)

characters_untabbed : (cs : List ℕ) → list_all is_untabbed (encode_utf8_all cs) ≡ true → list_all is_untabbed cs ≡ true
characters_untabbed [] h = refl
characters_untabbed (c ∷ cs) h =
    let parts = and_parts (list_all is_untabbed (encode_utf8 c)) (list_all is_untabbed (encode_utf8_all cs))
    (sym (list_all-append is_untabbed (encode_utf8 c) (encode_utf8_all cs)) ∙ h) in
    rw (character_untabbed c parts.0) (characters_untabbed cs parts.1)

-- characters print as they are
pub printed_code : (cell : Cell) → eqb cell.code 9 ≡ false → map (λ (p : Glyph). p.code) (printed_glyphs cell)
    ≡ cell.code ∷ []
printed_code cell h = rw h refl

untabbed_codes : (tab offset column : ℕ) (hidden : Bool) (cs : List Character) → list_all is_untabbed (codes cs) ≡ true
    →
    map (λ (p : Glyph). p.code) (printed_cells (cells_from width_of tab hidden offset column cs)) ≡ codes cs
untabbed_codes tab offset column hidden [] h = refl
untabbed_codes tab offset column hidden (c ∷ cs) h =
    let parts = and_parts (is_untabbed c.code) (list_all is_untabbed (codes cs)) h in
    let until : ℕ = column + width_at width_of tab hidden column c.code in
    let cell : Cell = record { code = c.code; start = offset; after = offset + c.bytes; from = column; until = until }
    in
    let cells : List Cell = cells_from width_of tab (hides_next hidden c.code) (offset + c.bytes) until cs in
    map-append (λ (p : Glyph). p.code) (printed_glyphs cell) (printed_cells cells)
    ∙ ap (λ r. r ++ map (λ (p : Glyph). p.code) (printed_cells cells)) (printed_code cell (no_tab c.code parts.0))
    ∙ ap (λ r. c.code ∷ r) (untabbed_codes tab (offset + c.bytes) until (hides_next hidden c.code) cs parts.1)

untabbed_told : (tab offset : ℕ) (bs : List ℕ) → IsUtf8 bs → list_all is_untabbed bs ≡ true → text_tokens (chars bs)
    ≡ cells_tokens (cells_from width_of tab false offset 0 (characters bs))
untabbed_told tab offset bs u h =
    let spelled_untabbed : list_all is_untabbed (chars bs) ≡ true =
    characters_untabbed (chars bs) (ap (list_all is_untabbed) (encodes-chars bs u) ∙ h) in
    ap text_tokens (sym (untabbed_codes tab offset 0 false (characters bs)
    (ap (list_all is_untabbed) (spelled bs u) ∙ spelled_untabbed) ∙ spelled bs u))

-- a text without tabs
pub untabbed_put : (tab offset : ℕ) (bs text : List ℕ) (pieces : List (ℕ × Style)) (p q r : Printout) → length pieces
    ≡ 0 → text ≡ bs → IsUtf8 bs → list_all is_untabbed bs ≡ true →
    q ≡ p ⊕ begins plain ∷ [] → r ≡ q ⊕ text_tokens (chars text) → r ≡ p
    ⊕ row_tokens (line_runs (map highlight_of pieces) (cells_from width_of tab false offset 0 (characters bs)))
untabbed_put tab offset bs text pieces p q r none same u h hq hr =
    then p (begins plain ∷ []) (text_tokens (chars text)) hq hr
    ∙ ap (λ x. p ⊕ begins plain ∷ text_tokens (chars x)) same
    ∙ ap (λ x. p ⊕ begins plain ∷ x) (untabbed_told tab offset bs u h)
    ∙ ap (λ x. p ⊕ x) (sym (append-nil (begins plain ∷ cells_tokens
    (cells_from width_of tab false offset 0 (characters bs)))))
    ∙ ap (λ ps. p ⊕ row_tokens (line_runs (map highlight_of ps)
    (cells_from width_of tab false offset 0 (characters bs)))) (sym (nil_from_length pieces none))

-- the search for a tab that finds none
nowhere_untabbed : (bs : List ℕ) → Nowhere (Passes (is_byte 9) bs) 0 (length bs) → list_all is_untabbed bs ≡ true
nowhere_untabbed [] h = refl
nowhere_untabbed (b ∷ bs) h =
    rw (false_from_ne_true (eqb b 9) (h 0 (omega arith) (omega arith)))
    (nowhere_untabbed bs (λ k lo lt. h (suc k) (omega arith) (omega (arith, lt))))

pub none_found : (bs : List ℕ) (r : Option ℕ) → IsFirstByte (is_byte 9) bs r → is_some r ≡ false
    → list_all is_untabbed bs ≡ true
none_found bs None h e = nowhere_untabbed bs h
none_found bs (Some k) h e = absurd (cc)

-- what holds anyway holds of a value
pub if_any : {A : Type 0} (r : Option A) (P : Type 0) → P → IfSome r (λ x. P)
if_any None P h = tt
if_any (Some x) P h = h
