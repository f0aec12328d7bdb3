-- Changed lines of printable ASCII, by their bytes.
use Rattle.std.proofs.Common.{ℕ, zero, suc, ◌+◌, ◌-◌, ◌<◌, ◌≤◌, ◌≡◌, Bool, true, false, ltb, eqb, List, [], ◌∷◌, ◌++◌}
use Rattle.std.proofs.Common.{map, length, take, drop, get_or, cond, refl, sym, ap, ap₂, ◌∙◌, append-nil, arith}
use Rattle.std.proofs.Common.{Option, None}
use Rattle.std.specs.List.{list_all, list_any}
use Rattle.std.specs.Prelude.{◌||◌}
use Rattle.std.proofs.lemmas.Bool.{and_parts, lt-ltb}
use Rattle.std.proofs.lemmas.Bool.Decides.{nat_tests}
use Rattle.std.proofs.lemmas.List.{at_drop_more, at_drop_all, drop-drop, drop_all, length-drop}
use Rattle.miette_style.specs.declared.style.Style.{Style}
use Rattle.miette_style.specs.rules.Styles.{plain}
use Rattle.miette_labels.specs.rules.Answers.{Highlight}
use Rattle.miette_protocol.specs.rules.Reading.{Span}
use Rattle.miette_style.specs.rules.Rows.{Glyph, Run}
use Rattle.miette_style.specs.views.Printouts.{Printout, ◌⊕◌}
use Rattle.miette_style.specs.views.Tokens.{row_tokens, styled_tokens}
use Rattle.miette_style.proofs.Paging.{put_append}
use Rattle.miette_columns.specs.rules.Cells.{Cell, cells_from, characters}
use Rattle.miette_columns.specs.rules.Widths.{width_of}
use Rattle.miette_columns.specs.views.Printable.{is_printable, plain_cells}
use Rattle.miette_columns.proofs.Plaining.{plain_byte, printable_taken}
use Rattle.miette_snippet_rules.specs.rules.Highlighting.{highlight_of}
use Rattle.miette_snippet_rules.specs.rules.PrintedCells.{cells_beyond, cells_within, line_runs, printed_cells}
use Rattle.miette_snippet_rules.specs.rules.PrintedCells.{text_bytes}
use Rattle.miette_snippet_rules.specs.declared.line_bytes.LineText.{LineText}
use Rattle.miette_snippet_rules.specs.views.LineScans.{ComeFrom}
use Rattle.miette_snippet_rules.specs.views.Cuts.{made_runs}
use Rattle.miette_snippet_rules.specs.declared.line_part.LinePart.{LinePart}
use Rattle.miette_snippet_rules.proofs.CellPrints.{within_none, beyond_none}
use Rattle.miette_snippet_rules.proofs.PlainCells.{dropped}
use Rattle.miette_snippet_rules.proofs.PlainCells.{printable_cells}
use Rattle.miette_snippet_rules.proofs.CutPlain.{plain_codes}
use Rattle.miette_fix_rows.specs.rules.DiffTexts.{holds_byte, prepend_piece, diff_pieces, DiffPiece}
use Rattle.miette_fix_drawing.specs.declared.edit_pieces.DiffPiece.{DiffPiece as MadeDiffPiece}
use Rattle.miette_fix_drawing.specs.steps.Pieces.{prepend_pieces}
use Rattle.miette_fix_drawing.specs.steps.Printable.{byte_at, cells_past, pieces_told}
use Rattle.miette_fix_drawing.proofs.PaintedCells.{AlikeFrom, painted_alike}
use Rattle.miette_fix_drawing.proofs.Painting.{agree, onto_same}

abbrev cell_of_byte : ℕ → ℕ → ℕ → Cell
cell_of_byte b o c = record { code = b; start = o; after = o + 1; from = c; until = c + 1 }

one_byte : (b : ℕ) → is_printable b ≡ true → text_bytes b ≡ 1
one_byte b h = let p = plain_byte b h in let low : ltb b 128 ≡ true = lt-ltb b 128 (omega (arith, p.high)) in
    rw low refl

-- ---- their pieces

-- a span has the bytes in it
pub held_in : (x : ℕ) (s : Span) → s.offset ≤ x → x < s.offset + s.len → holds_byte (byte_at x) s ≡ true
held_in x s lo lt = grind (arith, nat_tests)

held_there : (b o c : ℕ) (spans : List Span) → list_any (holds_byte (cell_of_byte b o c)) spans
    ≡ list_any (holds_byte (byte_at o)) spans
held_there b o c [] = refl
held_there b o c (s ∷ ss) = ap (λ r. holds_byte (byte_at o) s || r) (held_there b o c ss)

agree_own : (v : Bool) → agree v v ≡ true
agree_own true = refl
agree_own false = refl

first_painted : (spans : List Span) (v : Bool) (b o c : ℕ) (rest : List DiffPiece) → is_printable b ≡ true
    → list_any (holds_byte (byte_at o)) spans ≡ v
    → prepend_piece (list_any (holds_byte (cell_of_byte b o c)) spans) (text_bytes b) rest ≡ prepend_piece v 1 rest
first_painted spans v b o c rest h there =
    ap₂ (λ w k. prepend_piece w k rest) (held_there b o c spans ∙ there) (one_byte b h)

-- as many bytes as are as the first
painted_run : (spans : List Span) (v : Bool) (n o c : ℕ) (bs : List ℕ) → list_all is_printable bs ≡ true → 0 < n
    → n ≤ length bs → ((x : ℕ) → o ≤ x → x < o + n → list_any (holds_byte (byte_at x)) spans ≡ v)
    → diff_pieces spans (plain_cells o c bs)
    ≡ prepend_piece v n (diff_pieces spans (plain_cells (o + n) (c + n) (drop n bs)))
painted_run spans v zero o c bs h some le alike = absurd (omega (arith, some))
painted_run spans v (suc n) o c [] h some le alike = absurd (omega (arith, le))
painted_run spans v (suc zero) o c (b ∷ bs) h some le alike =
    first_painted spans v b o c (diff_pieces spans (plain_cells (o + 1) (c + 1) bs))
    (and_parts (is_printable b) (list_all is_printable bs) h).0 (alike o (omega arith) (omega arith))
painted_run spans v (suc (suc n)) o c (b ∷ bs) h some le alike =
    let parts = and_parts (is_printable b) (list_all is_printable bs) h in
    let rest : ℕ → ℕ → List DiffPiece = λ p q. diff_pieces spans (plain_cells p q (drop (suc n) bs)) in
    let at : o + 1 + suc n ≡ o + suc (suc n) = omega arith in
    let column : c + 1 + suc n ≡ c + suc (suc n) = omega arith in
    let many : 1 + suc n ≡ suc (suc n) = omega arith in
    first_painted spans v b o c (diff_pieces spans (plain_cells (o + 1) (c + 1) bs)) parts.0
    (alike o (omega arith) (omega arith))
    ∙ ap (prepend_piece v 1) (painted_run spans v (suc n) (o + 1) (c + 1) bs parts.1 (omega arith) (omega (arith, le))
    (λ x lo lt. alike x (omega (arith, lo)) (omega (arith, lt))))
    ∙ onto_same v v 1 (suc n) (rest (o + 1 + suc n) (c + 1 + suc n)) (agree_own v)
    ∙ ap (λ k. prepend_piece v k (rest (o + 1 + suc n) (c + 1 + suc n))) many
    ∙ ap₂ (λ p q. prepend_piece v (suc (suc n)) (rest p q)) at column

-- what bytes from an offset on are found to be
pub record AreAlike (spans : List Span) (at end : ℕ) (found : MadeDiffPiece) : Type 0 where
  pub some : 0 < found.bytes
  pub within : at + found.bytes ≤ end
  pub alike : (x : ℕ) → at ≤ x → x < at + found.bytes → list_any (holds_byte (byte_at x)) spans ≡ found.changed

found_run : (text : LineText) (spans : List Span) (at : ℕ) (found : MadeDiffPiece)
    → list_all is_printable text.bytes.now ≡ true → text.start ≤ at
    → AreAlike spans at (text.start + length text.bytes.now) found
    → diff_pieces spans (cells_past text at) ≡ prepend_pieces found (diff_pieces spans
    (cells_past text (at + found.bytes)))
found_run text spans at found h from is =
    let i : ℕ = at - text.start in
    let many : length (drop i text.bytes.now) ≡ length text.bytes.now - i = length-drop i text.bytes.now in
    let next : i + found.bytes ≡ at + found.bytes - text.start = omega (arith, from) in
    let left : drop found.bytes (drop i text.bytes.now) ≡ drop (at + found.bytes - text.start) text.bytes.now =
    drop-drop found.bytes i text.bytes.now ∙ ap (λ k. drop k text.bytes.now) next in
    painted_run spans found.changed found.bytes at i (drop i text.bytes.now) (dropped i text.bytes.now h) is.some
    (omega (arith, is.within, many, from)) is.alike
    ∙ ap₂ (λ k xs. prepend_piece found.changed found.bytes (diff_pieces spans (plain_cells (at + found.bytes) k xs)))
    next
    left

plain_come : (o c : ℕ) (bs : List ℕ) → ComeFrom o (plain_cells o c bs)
plain_come o c [] = tt
plain_come o c (b ∷ bs) = (omega arith, omega arith, plain_come (o + 1) (c + 1) bs)

-- the bytes from an offset on, where spans that end before it are dropped
pub run_next : (text : LineText) (left spans : List Span) (at : ℕ) (next : MadeDiffPiece)
    → list_all is_printable text.bytes.now ≡ true → text.start ≤ at → AlikeFrom at left spans
    → AreAlike left at (text.start + length text.bytes.now) next
    → prepend_pieces next (diff_pieces left (cells_past text (at + next.bytes)))
    ≡ diff_pieces spans (cells_past text at)
run_next text left spans at next h from alike is =
    sym (found_run text left at next h from is)
    ∙ painted_alike at at left spans (cells_past text at) alike (omega arith)
    (plain_come at (at - text.start) (drop (at - text.start) text.bytes.now))

-- all of them
pub run_first : (text : LineText) (spans : List Span) (first : MadeDiffPiece)
    → list_all is_printable text.bytes.now ≡ true
    → AreAlike spans text.start (text.start + length text.bytes.now) first
    → prepend_pieces first (diff_pieces spans (cells_past text (text.start + first.bytes)))
    ≡ diff_pieces spans (plain_cells text.start 0 text.bytes.now)
run_first text spans first h is =
    let none : text.start - text.start ≡ 0 = omega arith in
    sym (found_run text spans text.start first h (omega arith) is)
    ∙ ap (λ k. diff_pieces spans (plain_cells text.start k (drop k text.bytes.now))) none

-- none is left
pub none_past : (text : LineText) (at : ℕ) → text.start + length text.bytes.now ≤ at → cells_past text at ≡ []
none_past text at le =
    ap (plain_cells at (at - text.start))
    (drop_all (at - text.start) text.bytes.now (omega (arith, le)))

-- ---- what they print

one_less : (n : ℕ) → suc n - 1 ≡ n
one_less n = omega arith

is_some_more : (n : ℕ) → eqb (suc n) 0 ≡ false
is_some_more n = grind (arith, nat_tests)

within_plain : (n o c : ℕ) (bs : List ℕ) → list_all is_printable bs ≡ true
    → cells_within n (plain_cells o c bs) ≡ plain_cells o c (take n bs)
within_plain zero o c bs h = within_none (plain_cells o c bs)
within_plain (suc n) o c [] h = refl
within_plain (suc n) o c (b ∷ bs) h =
    let parts = and_parts (is_printable b) (list_all is_printable bs) h in
    let less : suc n - text_bytes b ≡ n = ap (λ k. suc n - k) (one_byte b parts.0) ∙ one_less n in
    ap (λ w. cond w [] (cell_of_byte b o c ∷ cells_within (suc n - text_bytes b) (plain_cells (o + 1) (c + 1) bs)))
    (is_some_more n)
    ∙ ap (λ k. cell_of_byte b o c ∷ cells_within k (plain_cells (o + 1) (c + 1) bs)) less
    ∙ ap (λ cells. cell_of_byte b o c ∷ cells) (within_plain n (o + 1) (c + 1) bs parts.1)

beyond_plain : (n o c : ℕ) (bs : List ℕ) → list_all is_printable bs ≡ true
    → cells_beyond n (plain_cells o c bs) ≡ plain_cells (o + n) (c + n) (drop n bs)
beyond_plain zero o c bs h =
    let at : o ≡ o + 0 = omega arith in
    let column : c ≡ c + 0 = omega arith in
    beyond_none (plain_cells o c bs) ∙ ap₂ (λ p q. plain_cells p q bs) at column
beyond_plain (suc n) o c [] h = refl
beyond_plain (suc n) o c (b ∷ bs) h =
    let parts = and_parts (is_printable b) (list_all is_printable bs) h in
    let less : suc n - text_bytes b ≡ n = ap (λ k. suc n - k) (one_byte b parts.0) ∙ one_less n in
    let at : o + 1 + n ≡ o + suc n = omega arith in
    let column : c + 1 + n ≡ c + suc n = omega arith in
    ap (λ w. cond w (plain_cells o c (b ∷ bs))
    (cells_beyond (suc n - text_bytes b) (plain_cells (o + 1) (c + 1) bs))) (is_some_more n)
    ∙ ap (λ k. cells_beyond k (plain_cells (o + 1) (c + 1) bs)) less
    ∙ beyond_plain n (o + 1) (c + 1) bs parts.1 ∙ ap₂ (λ p q. plain_cells p q (drop n bs)) at column

pieces_shown : (hs : List Highlight) (o c : ℕ) (bs : List ℕ) → list_all is_printable bs ≡ true
    → pieces_told hs bs ≡ row_tokens (line_runs hs (plain_cells o c bs))
pieces_shown [] o c bs h =
    ap (styled_tokens plain) (sym (plain_codes o c bs h))
    ∙ sym (append-nil (styled_tokens plain (map (λ (p : Glyph). p.code) (printed_cells (plain_cells o c bs)))))
pieces_shown (piece ∷ hs) o c bs h =
    let own = ap (λ cells. map (λ (p : Glyph). p.code) (printed_cells cells)) (within_plain piece.bytes o c bs h)
    ∙ plain_codes o c (take piece.bytes bs) (printable_taken piece.bytes bs h) in
    ap₂ (λ codes ts. styled_tokens piece.style codes ++ ts) (sym own)
    (pieces_shown hs (o + piece.bytes) (c + piece.bytes) (drop piece.bytes bs) (dropped piece.bytes bs h)
    ∙ ap (λ cells. row_tokens (line_runs hs cells)) (sym (beyond_plain piece.bytes o c bs h)))

-- one more piece
pub piece_next : (pieces : List (ℕ × Style)) (i bytes : ℕ) (style : Style) (d : ℕ × Style) (rest own later : List ℕ)
    (p q whole : Printout) → i < length pieces → bytes ≡ (get_or pieces i d).0 → style ≡ (get_or pieces i d).1
    → own ≡ take bytes rest → later ≡ drop bytes rest → q ≡ p ⊕ styled_tokens style own
    → p ⊕ pieces_told (map highlight_of (drop i pieces)) rest ≡ whole
    → q ⊕ pieces_told (map highlight_of (drop (i + 1) pieces)) later ≡ whole
piece_next pieces i bytes style d rest own later p q whole lt eb es own_is l hq inv =
    let hs : List Highlight = map highlight_of (drop (i + 1) pieces) in
    ap₂ (λ x xs. x ⊕ pieces_told hs xs) (hq ∙ ap (λ xs. p ⊕ styled_tokens style xs) own_is) l
    ∙ put_append p (styled_tokens style (take bytes rest)) (pieces_told hs (drop bytes rest))
    ∙ ap₂ (λ n s. p ⊕ (styled_tokens s (take n rest) ++ pieces_told hs (drop n rest))) eb es
    ∙ ap (λ xs. p ⊕ pieces_told xs rest) (sym (at_drop_more (map highlight_of) pieces i d lt)) ∙ inv

-- what pieces leave is plain
pub pieces_left : (pieces : List (ℕ × Style)) (i : ℕ) (rest : List ℕ) (p r whole : Printout) → length pieces ≤ i
    → r ≡ p ⊕ styled_tokens plain rest → p ⊕ pieces_told (map highlight_of (drop i pieces)) rest ≡ whole → r ≡ whole
pieces_left pieces i rest p r whole le hr inv =
    hr ∙ ap (λ xs. p ⊕ pieces_told xs rest) (sym (at_drop_all (map highlight_of) pieces i le)) ∙ inv

-- a line that isn't cut
pub printable_put : (run : Run) (tab start : ℕ) (pieces : List (ℕ × Style)) (bs : List ℕ) (cut : Option (List LinePart))
    (p q : Printout) → cut ≡ None → list_all is_printable bs ≡ true
    → q ≡ p ⊕ pieces_told (map highlight_of pieces) bs
    → q ≡ p
    ⊕ row_tokens (made_runs run cut (map highlight_of pieces) (cells_from width_of tab false start 0 (characters bs)))
printable_put run tab start pieces bs cut p q none h hq =
    let hs : List Highlight = map highlight_of pieces in
    hq ∙ ap (λ ts. p ⊕ ts) (pieces_shown hs start 0 bs h)
    ∙ ap (λ cells. p ⊕ row_tokens (line_runs hs cells)) (sym (printable_cells tab start 0 bs h))
    ∙ ap (λ c. p ⊕ row_tokens (made_runs run c hs (cells_from width_of tab false start 0 (characters bs)))) (sym none)
