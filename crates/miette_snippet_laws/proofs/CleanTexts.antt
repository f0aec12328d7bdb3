-- Texts that hold no escape, put together and cut.
use Rattle.std.proofs.Common.{◌≡◌, ℕ, zero, suc, ◌+◌, ◌-◌, ◌/◌, ◌%◌, ◌<◌, Bool, true, false, not, ◌&&◌, ◌==◌}
use Rattle.std.proofs.Common.{if◌then◌else◌, List, [], ◌∷◌, ◌++◌, map, take, drop, length, replicate, decimal, Option}
use Rattle.std.proofs.Common.{Some, None, refl, sym, ap, ap₂, ◌∙◌, arith, eqb-true, append_assoc, append-nil}
use Rattle.std.specs.Prelude.{encode_utf8, slice_range}
use Rattle.std.specs.List.{AllByRecursion}
use Rattle.std.specs.Fmt.{digit_glyph, digits, digits_onto}
use Rattle.std.proofs.lemmas.Bool.{and_parts, not-true}
use Rattle.std.proofs.lemmas.Bool.Decides.{nat_tests}
use Rattle.std.proofs.lemmas.List.{map-append}
use Rattle.std.proofs.lemmas.Str.{encode_ascii}
use Rattle.bstr.specs.Utf8.{decoded, or_replacement, pieces, pieces_from}
use Rattle.bstr.proofs.lemmas.SoundLemmas.{SpellsChar-decoded}
use Rattle.miette_style.specs.rules.Escapes.{is_escape}
use Rattle.miette_style.specs.rules.Escapes.{no_escape}
use Rattle.miette_lines.specs.rules.Lists.{onto}
use Rattle.miette_labels.specs.rules.Answers.{Highlight}
use Rattle.miette_columns.proofs.Stepping.{character}
use Rattle.miette_snippet_rules.specs.rules.PrintedCells.{printed_glyphs, printed_cells, cells_within, cells_beyond}
use Rattle.miette_snippet_rules.specs.rules.PrintedCells.{line_runs, text_bytes}
use Rattle.miette_columns.specs.rules.Cells.{Character, Cell, cells_from, characters, hides_next, width_at}
use Rattle.miette_snippet_laws.specs.laws.Clean.{IsCleanCode, IsClean, IsCleanRow}
use Rattle.miette_labels.specs.rules.Labels.{cut_at_lf}
use Rattle.miette_style.specs.rules.Rows.{Glyph, glyphs_of, glyph_of}
use Rattle.miette_snippet_rules.proofs.RowTokens.{codes_drawn}

-- ---- joining and cutting

pub clean_cons : (c : ℕ) (text : List ℕ) → IsCleanCode c → IsClean text → IsClean (c ∷ text)
clean_cons c text e h = ap₂ (λ a b. not a && b) e h

pub clean_first : (c : ℕ) (text : List ℕ) → IsClean (c ∷ text) → IsCleanCode c
clean_first c text h = not-true (is_escape c) (and_parts (not (is_escape c)) (no_escape text) h).0

pub clean_rest : (c : ℕ) (text : List ℕ) → IsClean (c ∷ text) → IsClean text
clean_rest c text h = (and_parts (not (is_escape c)) (no_escape text) h).1

pub clean_append : (x y : List ℕ) → IsClean x → IsClean y → IsClean (x ++ y)
clean_append [] y h k = k
clean_append (c ∷ x) y h k = clean_cons c (x ++ y) (clean_first c x h) (clean_append x y (clean_rest c x h) k)

pub clean_take : (n : ℕ) (text : List ℕ) → IsClean text → IsClean (take n text)
clean_take zero text h = refl
clean_take (suc n) [] h = refl
clean_take (suc n) (c ∷ text) h = clean_cons c (take n text) (clean_first c text h)
    (clean_take n text (clean_rest c text h))

pub clean_drop : (n : ℕ) (text : List ℕ) → IsClean text → IsClean (drop n text)
clean_drop zero text h = h
clean_drop (suc n) [] h = refl
clean_drop (suc n) (c ∷ text) h = clean_drop n text (clean_rest c text h)

pub clean_range : (text : List ℕ) (a b : ℕ) → IsClean text → IsClean (slice_range text a b)
clean_range text a b h = clean_take (b - a) (drop a text) (clean_drop a text h)

pub clean_replicate : (many c : ℕ) → IsCleanCode c → IsClean (replicate many c)
clean_replicate zero c h = refl
clean_replicate (suc many) c h = clean_cons c (replicate many c) h (clean_replicate many c h)

pub clean_code_if : (b : Bool) (x y : ℕ) → IsCleanCode x → IsCleanCode y → IsCleanCode (if b then x else y)
clean_code_if true x y h k = h
clean_code_if false x y h k = k

pub clean_if : (b : Bool) (x y : List ℕ) → IsClean x → IsClean y → IsClean (if b then x else y)
clean_if true x y h k = h
clean_if false x y h k = k

-- ---- numbers

clean_digit : (d : ℕ) → d < 10 → IsCleanCode (digit_glyph false d)
clean_digit d h = grind (arith, nat_tests)

clean_digits : (k n : ℕ) (text : List ℕ) → IsClean text → IsClean (digits_onto k 10 false n text)
clean_digits zero n text h = h
clean_digits (suc k) n text h =
    let first : IsClean (digit_glyph false (n % 10) ∷ text) =
    clean_cons (digit_glyph false (n % 10)) text (clean_digit (n % 10) (omega arith)) h in
    clean_if (n / 10 == 0) (digit_glyph false (n % 10) ∷ text)
    (digits_onto k 10 false (n / 10) (digit_glyph false (n % 10) ∷ text)) first
    (clean_digits k (n / 10) (digit_glyph false (n % 10) ∷ text) first)

pub clean_decimal : (n : ℕ) → IsClean (decimal n)
unfolding digits
clean_decimal n = clean_digits 64 n [] refl

-- ---- the parts of a label's text

clean_onto : (c : ℕ) (parts : List (List ℕ)) → IsCleanCode c → AllByRecursion IsClean parts
    → AllByRecursion IsClean (onto c parts)
clean_onto c [] h k = (clean_cons c [] h refl, tt)
clean_onto c (part ∷ parts) h k = (clean_cons c part h k.0, k.1)

parts_if : (b : Bool) (x y : List (List ℕ)) → AllByRecursion IsClean x → AllByRecursion IsClean y
    → AllByRecursion IsClean (if b then x else y)
parts_if true x y h k = h
parts_if false x y h k = k

pub clean_parts : (text : List ℕ) → IsClean text → AllByRecursion IsClean (cut_at_lf text)
clean_parts [] h = (refl, tt)
clean_parts (c ∷ text) h =
    let rest = clean_parts text (clean_rest c text h) in
    parts_if (c == 10) ([] ∷ cut_at_lf text) (onto c (cut_at_lf text)) (refl, rest)
    (clean_onto c (cut_at_lf text) (clean_first c text h) rest)

-- ---- the characters of a source

-- a text that begins with the bytes of an escape holds one
spelled : (c : ℕ) (bytes rest : List ℕ) → IsClean bytes → bytes ≡ encode_utf8 c ++ rest → IsCleanCode c
spelled c bytes rest h e = elim (is_escape c) as (λ b. is_escape c ≡ b → b ≡ false) [
  | true ↦ λ v.
      let first : bytes ≡ 27 ∷ rest = e ∙ ap (λ x. encode_utf8 x ++ rest) (eqb-true c 27 v)
      ∙ ap (λ xs. xs ++ rest) (encode_ascii 27 (omega arith)) in
      sym h ∙ ap no_escape first
  | false ↦ λ v. refl
] refl

clean_decoded : (bytes : List ℕ) → IsClean bytes → IsCleanCode (or_replacement (decoded bytes).char)
clean_decoded bytes h = by (decoded bytes).char refl where
  by : (o : Option ℕ) → (decoded bytes).char ≡ o → IsCleanCode (or_replacement o)
  by None e = refl
  by (Some c) e = let s = SpellsChar-decoded bytes c e in spelled c bytes (drop (decoded bytes).size bytes) h s.bytes

clean_pieces : (fuel : ℕ) (bytes : List ℕ) → IsClean bytes
    → IsClean (map (λ (c : Character). c.code) (map character (pieces_from fuel bytes)))
unfolding pieces_from
clean_pieces zero bytes h = refl
clean_pieces (suc fuel) [] h = refl
clean_pieces (suc fuel) (b ∷ bytes) h =
    clean_cons (or_replacement (decoded (b ∷ bytes)).char)
    (map (λ (c : Character). c.code) (map character (pieces_from fuel (drop (decoded (b ∷ bytes)).size (b ∷ bytes)))))
    (clean_decoded (b ∷ bytes) h) (clean_pieces fuel (drop (decoded (b ∷ bytes)).size (b ∷ bytes))
    (clean_drop (decoded (b ∷ bytes)).size (b ∷ bytes) h))

pub clean_characters : (bytes : List ℕ) → IsClean bytes → IsClean (map (λ (c : Character). c.code) (characters bytes))
clean_characters bytes h = clean_pieces (length bytes) bytes h

-- ---- cells

abbrev pub AreCleanCells : List Cell → Type 0
AreCleanCells cells = IsClean (map (λ (c : Cell). c.code) cells)

pub clean_cells : (width : ℕ → ℕ) (tab : ℕ) (hidden : Bool) (offset column : ℕ) (cs : List Character)
    → IsClean (map (λ (c : Character). c.code) cs) →
    AreCleanCells (cells_from width tab hidden offset column cs)
clean_cells width tab hidden offset column [] h = refl
clean_cells width tab hidden offset column (c ∷ cs) h =
    let rest = clean_cells width tab (hides_next hidden c.code) (offset + c.bytes)
    (column + width_at width tab hidden column c.code) cs (clean_rest c.code (map (λ (c : Character). c.code) cs) h)
    in
    ap₂ (λ a b. not a && b) (clean_first c.code (map (λ (c : Character). c.code) cs) h) rest

abbrev pub AreCleanPieces : List Glyph → Type 0
AreCleanPieces pieces = IsClean (map (λ (p : Glyph). p.code) pieces)

pub clean_copies : (many columns code : ℕ) → IsCleanCode code
    → AreCleanPieces (replicate many (record { code = code; columns = columns }))
clean_copies zero columns code h = refl
clean_copies (suc many) columns code h = ap₂ (λ a b. not a && b) h (clean_copies many columns code h)

pub clean_pieces-append : (x y : List Glyph) → AreCleanPieces x → AreCleanPieces y → AreCleanPieces (x ++ y)
clean_pieces-append x y h k = ap no_escape (map-append (λ (p : Glyph). p.code) x y)
    ∙ clean_append (map (λ (p : Glyph). p.code) x) (map (λ (p : Glyph). p.code) y) h k

pieces_if : (b : Bool) (x y : List Glyph) → AreCleanPieces x → AreCleanPieces y → AreCleanPieces (if b then x else y)
pieces_if true x y h k = h
pieces_if false x y h k = k

clean_printed : (cell : Cell) → IsCleanCode cell.code → AreCleanPieces (printed_glyphs cell)
clean_printed cell h =
    pieces_if (cell.code == 9) (replicate (cell.until - cell.from) (record { code = 32; columns = 1 }))
    (record { code = cell.code; columns = cell.until - cell.from } ∷ [])
    (clean_copies (cell.until - cell.from) 1 32 refl) (clean_cons cell.code [] h refl)

pub clean_printed_cells : (cells : List Cell) → AreCleanCells cells → AreCleanPieces (printed_cells cells)
clean_printed_cells [] h = refl
clean_printed_cells (cell ∷ cells) h =
    let codes = map (λ (c : Cell). c.code) cells in
    clean_pieces-append (printed_glyphs cell) (printed_cells cells) (clean_printed cell (clean_first cell.code codes h))
    (clean_printed_cells cells (clean_rest cell.code codes h))

cells_if : (b : Bool) (x y : List Cell) → AreCleanCells x → AreCleanCells y → AreCleanCells (if b then x else y)
cells_if true x y h k = h
cells_if false x y h k = k

clean_within : (bytes : ℕ) (cells : List Cell) → AreCleanCells cells → AreCleanCells (cells_within bytes cells)
clean_within bytes [] h = refl
clean_within bytes (cell ∷ cells) h =
    let codes = map (λ (c : Cell). c.code) cells in
    let rest = cells_within (bytes - text_bytes cell.code) cells in
    cells_if (bytes == 0) [] (cell ∷ rest) refl
    (clean_cons cell.code (map (λ (c : Cell). c.code) rest) (clean_first cell.code codes h)
    (clean_within (bytes - text_bytes cell.code) cells (clean_rest cell.code codes h)))

clean_beyond : (bytes : ℕ) (cells : List Cell) → AreCleanCells cells → AreCleanCells (cells_beyond bytes cells)
clean_beyond bytes [] h = refl
clean_beyond bytes (cell ∷ cells) h =
    let codes = map (λ (c : Cell). c.code) cells in
    cells_if (bytes == 0) (cell ∷ cells) (cells_beyond (bytes - text_bytes cell.code) cells) h
    (clean_beyond (bytes - text_bytes cell.code) cells (clean_rest cell.code codes h))

-- a line in a highlighter's pieces
pub clean_line : (hs : List Highlight) (cells : List Cell) → AreCleanCells cells → IsCleanRow (line_runs hs cells)
clean_line [] cells h = (clean_printed_cells cells h, tt)
clean_line (p ∷ hs) cells h = (
  clean_printed_cells (cells_within p.bytes cells) (clean_within p.bytes cells h),
  clean_line hs (cells_beyond p.bytes cells) (clean_beyond p.bytes cells h),
)

-- cut or whole, a line prints the same
printed_cut : (bytes : ℕ) (cells : List Cell) → printed_cells (cells_within bytes cells)
    ++ printed_cells (cells_beyond bytes cells) ≡ printed_cells cells
printed_cut bytes [] = refl
printed_cut bytes (cell ∷ cells) = elim (bytes == 0) as (λ b.
    printed_cells (if b then [] else cell ∷ cells_within (bytes - text_bytes cell.code) cells)
    ++ printed_cells (if b then cell ∷ cells else cells_beyond (bytes - text_bytes cell.code) cells)
    ≡ printed_glyphs cell ++ printed_cells cells) [
      | true ↦ refl
      | false ↦
          append_assoc (printed_glyphs cell) (printed_cells (cells_within (bytes - text_bytes cell.code) cells))
          (printed_cells (cells_beyond (bytes - text_bytes cell.code) cells))
          ∙ ap (λ r. printed_glyphs cell ++ r) (printed_cut (bytes - text_bytes cell.code) cells)
    ]

pub line_same : (hs : List Highlight) (cells : List Cell) → glyphs_of (line_runs hs cells) ≡ printed_cells cells
line_same [] cells = append-nil (printed_cells cells)
line_same (p ∷ hs) cells = ap (λ r. printed_cells (cells_within p.bytes cells) ++ r)
    (line_same hs (cells_beyond p.bytes cells)) ∙ printed_cut p.bytes cells

-- ---- drawn characters

pub clean_drawn : (width : ℕ → ℕ) (text : List ℕ) → IsClean text → AreCleanPieces (map (glyph_of width) text)
clean_drawn width text h = ap no_escape (codes_drawn width text) ∙ h

pub clean_each : (width : ℕ → ℕ) (f : ℕ → ℕ) → ((k : ℕ) → IsCleanCode (f k)) → (ks : List ℕ)
    → AreCleanPieces (map (λ k. glyph_of width (f k)) ks)
clean_each width f h [] = refl
clean_each width f h (k ∷ ks) = ap₂ (λ a b. not a && b) (h k) (clean_each width f h ks)
