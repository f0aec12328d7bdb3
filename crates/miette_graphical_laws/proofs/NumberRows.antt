-- What the row of a line's number prints, and its bytes.
use Rattle.std.proofs.Common.{◌≡◌, ℕ, zero, suc, ◌+◌, ◌-◌, ◌<◌, ◌^◌, true, false, List, [], ◌∷◌, ◌++◌, map, length}
use Rattle.std.proofs.Common.{replicate, decimal, drop, refl, ap, ap₂, ◌∙◌, append-nil, arith, encode_utf8_all}
use Rattle.std.specs.List.{list_all}
use Rattle.std.proofs.lemmas.Bool.{and_parts}
use Rattle.std.proofs.lemmas.Fmt.{IsAscii-decimal}
use Rattle.std.proofs.lemmas.List.{map-append}
use Rattle.std.proofs.lemmas.Str.{encode_ascii, encodes-IsAscii, encodes-append}
use Rattle.miette_columns.specs.rules.Cells.{Cell, cells_from, characters}
use Rattle.miette_columns.specs.views.Printable.{is_printable}
use Rattle.miette_columns.proofs.Plaining.{plain_byte, printable_character}
use Rattle.miette_columns.proofs.Stepping.{cells_end}
use Rattle.miette_labels.specs.rules.Labels.{multi_line, one_line}
use Rattle.miette_style.specs.rules.Rows.{glyph_of}
use Rattle.miette_runs.specs.rules.Runs.{print}
use Rattle.miette_snippet_rules.specs.rules.CutLines.{dots, shown_runs}
use Rattle.miette_snippet_rules.specs.rules.LabelRows.{blank}
use Rattle.miette_snippet_rules.specs.rules.Frames.{number_start}
use Rattle.miette_snippet_rules.specs.rules.Gutters.{number_gutter}
use Rattle.miette_snippet_rules.specs.rules.PrintedCells.{line_runs, printed_cells}
use Rattle.miette_snippet_rules.specs.rules.SnippetSettings.{SnippetSettings}
use Rattle.miette_snippet_rules.specs.rules.SnippetLayout.{SnippetContext, line_cut, line_rows}
use Rattle.miette_lines.specs.rules.Lines.{Line}
use Rattle.miette_style.specs.rules.Styles.{plain}
use Rattle.miette_graphical_laws.specs.laws.NumberRows.{IsPlainLine, PrintsItself, PrintsNumber, line_bytes, numbered}
use Rattle.miette_graphical_laws.specs.laws.NumberRows.{padded}
use Rattle.miette_graphical_laws.specs.laws.NumberRows.{printed_line}
use Rattle.miette_graphical_rules.specs.rules.Indents.{spaces}
use Rattle.miette_graphical_rules.specs.rules.Snippets.{runs_of_row}
use Rattle.miette_graphical_rules.proofs.PlainSnippets.{plain_row}
use Rattle.miette_graphical_rules.proofs.RowTexts.{codes_of}

-- ---- what is printed

glyph-codes : (width : ℕ → ℕ) (text : List ℕ) → codes_of (map (glyph_of width) text) ≡ text
glyph-codes width [] = refl
glyph-codes width (c ∷ text) = ap (λ xs. c ∷ xs) (glyph-codes width text)

blank-codes : (width : ℕ → ℕ) (n : ℕ) → codes_of (replicate n (glyph_of width 32)) ≡ spaces n
blank-codes width zero = refl
blank-codes width (suc n) = ap (λ xs. 32 ∷ xs) (blank-codes width n)

plain-number : (s : SnippetSettings) (w number gutter : ℕ) (cells : List Cell) → s.theme.styles.linum ≡ plain
    → print (runs_of_row (number_start s w number ++ (blank s gutter ∷ []) ++ line_runs [] cells))
    ≡ numbered (padded w number) (s.theme.characters.vbar ∷ []) (spaces gutter ++ printed_line cells)
plain-number s w number gutter cells h =
    let digits = map (glyph_of s.width) (padded w number) in
    let bar = map (glyph_of s.width) (32 ∷ s.theme.characters.vbar ∷ 32 ∷ []) in
    let gap = replicate gutter (glyph_of s.width 32) in
    let text = printed_cells cells in
    plain_row (number_start s w number ++ (blank s gutter ∷ []) ++ line_runs [] cells)
    (refl, (h, (refl, (refl, (refl, tt)))))
    ∙ ap (λ xs. 32 ∷ xs) (map-append (λ g. g.code) digits (bar ++ (gap ++ (text ++ [])))
    ∙ ap₂ (λ xs ys. xs ++ ys) (glyph-codes s.width (padded w number))
    (ap (λ xs. 32 ∷ s.theme.characters.vbar ∷ 32 ∷ xs) (map-append (λ g. g.code) gap (text ++ [])
    ∙ ap₂ (λ xs ys. xs ++ ys) (blank-codes s.width gutter) (ap codes_of (append-nil text)))))

-- ---- as bytes

one-byte : (c : ℕ) (rest : List ℕ) → c < 128 → encode_utf8_all (c ∷ rest) ≡ c ∷ encode_utf8_all rest
one-byte c rest h = ap (λ bs. bs ++ encode_utf8_all rest) (encode_ascii c h)

space-bytes : (n : ℕ) → encode_utf8_all (spaces n) ≡ spaces n
space-bytes zero = refl
space-bytes (suc n) = one-byte 32 (spaces n) (omega arith) ∙ ap (λ bs. 32 ∷ bs) (space-bytes n)

padded-bytes : (w number : ℕ) → number < 2 ^ 64 → encode_utf8_all (padded w number) ≡ padded w number
padded-bytes w number h =
    encodes-append (spaces (w - length (decimal number))) (decimal number)
    ∙ ap₂ (λ xs ys. xs ++ ys) (space-bytes (w - length (decimal number)))
    (encodes-IsAscii (decimal number) (IsAscii-decimal number h))

numbered-bytes : (w number gutter bar : ℕ) (text : List ℕ) → number < 2 ^ 64
    → encode_utf8_all (numbered (padded w number) (bar ∷ []) (spaces gutter ++ text))
    ≡ numbered (padded w number) (encode_utf8_all (bar ∷ [])) (spaces gutter ++ encode_utf8_all text)
numbered-bytes w number gutter bar text h =
    let after = spaces gutter ++ text in
    let space : 32 < 128 = omega arith in
    one-byte 32 (padded w number ++ (32 ∷ bar ∷ 32 ∷ after)) space
    ∙ ap (λ bs. 32 ∷ bs) (encodes-append (padded w number) (32 ∷ bar ∷ 32 ∷ after)
    ∙ ap₂ (λ xs ys. xs ++ ys) (padded-bytes w number h) (one-byte 32 (bar ∷ 32 ∷ after) space
    ∙ ap (λ bs. 32 ∷ bs) (encodes-append (bar ∷ []) (32 ∷ after)
    ∙ ap (λ bs. encode_utf8_all (bar ∷ []) ++ bs) (one-byte 32 after space
    ∙ ap (λ bs. 32 ∷ bs) (encodes-append (spaces gutter) text
    ∙ ap (λ bs. bs ++ encode_utf8_all text) (space-bytes gutter))))))

pub prints-number : (c : SnippetContext) (line : Line) (number : ℕ) → IsPlainLine c line → PrintsNumber c line number
prints-number c line number h =
    let s = c.settings in
    let cells = c.cells line in
    let shown = ap₂ (λ multi cut. print (runs_of_row (number_start s c.number_width number
    ++ number_gutter s line c.gutter multi ++ shown_runs (dots s.theme) cut [] cells))) h.alone h.whole
    ∙ plain-number s c.number_width number c.gutter cells h.numbers in
    record {
      row = number_start s c.number_width number ++ number_gutter s line c.gutter (multi_line line c.labels)
          ++ shown_runs (dots s.theme) (line_cut s line cells (one_line line c.labels) (multi_line line c.labels)) []
          cells;
      below = drop 1 (line_rows c line number []);
      first = refl;
      prints = shown;
      bytes = λ small. ap encode_utf8_all shown
          ∙ numbered-bytes c.number_width number c.gutter s.theme.characters.vbar (printed_line cells) small;
    }

-- ---- printable characters

printable-line : (width : ℕ → ℕ) (tab offset column : ℕ) (bytes : List ℕ) → list_all is_printable bytes ≡ true
    → printed_line (cells_from width tab false offset column (characters bytes)) ≡ bytes
printable-line width tab offset column [] h = ap printed_line (cells_end width tab false offset column [] refl)
printable-line width tab offset column (b ∷ bytes) h =
    let p = and_parts (is_printable b) (list_all is_printable bytes) h in
    let is = plain_byte b p.0 in
    ap (λ cs. printed_line (cells_from width tab false offset column cs)) (printable_character b bytes p.0)
    ∙ rw (is.tab, is.escape) (ap (λ xs. b ∷ xs) (printable-line width tab (offset + 1) (column + width b) bytes p.1))

printable-bytes : (bytes : List ℕ) → list_all is_printable bytes ≡ true → encode_utf8_all bytes ≡ bytes
printable-bytes [] h = refl
printable-bytes (b ∷ bytes) h =
    let p = and_parts (is_printable b) (list_all is_printable bytes) h in
    let low : b < 127 = (plain_byte b p.0).high in
    one-byte b bytes (omega (arith, low)) ∙ ap (λ bs. b ∷ bs) (printable-bytes bytes p.1)

pub prints-itself : (s : SnippetSettings) (bytes : List ℕ) (line : Line) → PrintsItself s bytes line
prints-itself s bytes line h =
    ap encode_utf8_all (printable-line s.width s.layout.tab_width line.start 0 (line_bytes bytes line) h)
    ∙ printable-bytes (line_bytes bytes line) h
