-- A text, line by line.
use Rattle.std.proofs.Common.{◌≡◌, ℕ, suc, ◌+◌, ◌-◌, ◌<◌, ◌≤◌, min, Bool, true, false, List, [], ◌∷◌, ◌++◌, map, length}
use Rattle.std.proofs.Common.{take, drop, refl, sym, ap, ap₂, ◌∙◌, append_assoc, append-nil, if◌then◌else◌, arith}
use Rattle.std.proofs.Common.{eqb-true}
use Rattle.std.proofs.lemmas.List.{length-map}
use Rattle.std.specs.List.{concat}
use Rattle.miette_runs.specs.rules.Sequences.{Token, Character, Sequence, is_line_feed, spell}
use Rattle.miette_text.specs.rules.Wrapping.{Cuts, TextLine, WrapPlan, Word, cut_words, filled_text, joined_rows}
use Rattle.miette_text.specs.rules.Wrapping.{line_feed}
use Rattle.miette_text.specs.rules.Wrapping.{text_rows, on_first, with_tag, with_code, no_characters, text_lines}
use Rattle.miette_text.specs.rules.Wrapping.{rows}
use Rattle.miette_text.specs.rules.Wrapping.{rows_after, columns, word_cells}
use Rattle.miette_text.specs.declared.options.WordSeparator.{WordSeparator}
use Rattle.miette_runs.specs.rules.Cells.{TaggedChar, printed_columns}
use Rattle.miette_text.specs.steps.Ends.{line_len, row_cells}
use Rattle.miette_runs.specs.views.Interleaving.{beyond, cells_at, left_at, tag_text, tag_token, tags_spelled, upto}
use Rattle.miette_runs.specs.views.Interleaving.{interleaving}
use Rattle.miette_runs.specs.declared.runs.sign.Tag.{Tag}
use Rattle.miette_text.proofs.RowTexts.{after_row, joined_lines, lines_of, shown}
use Rattle.miette_text.proofs.Joining.{lines_from, piece_lines, spell-text_rows}
use Rattle.miette_runs.proofs.Appending.{spell-append}
use Rattle.miette_text.proofs.InterleavedCells.{spelled-flat}
use Rattle.miette_text.proofs.Parting.{onto-some}

-- ---- pieces

on-some : (f : TextLine → TextLine) (ps : List TextLine) → 0 < length ps → 0 < length (on_first f ps)
on-some f [] h = h
on-some f (p ∷ ps) h = omega arith

pub pieces-some : (ts : List Token) → 0 < length (text_lines ts)
pieces-some [] = omega arith
pieces-some (Sequence s ∷ ts) = on-some (with_tag s) (text_lines ts) (pieces-some ts)
pieces-some (Character c ∷ ts) = elim (is_line_feed c) as
    (λ v. 0 < length (if v then no_characters ∷ text_lines ts else on_first (with_code c) (text_lines ts))) [
      | true ↦ omega arith
      | false ↦ on-some (with_code c) (text_lines ts) (pieces-some ts)
    ]

-- ---- lines, joined

lines_of-some : (rest : List (List ℕ)) (rs : List (List TaggedChar)) → 0 < length rs → 0 < length (lines_of rest rs)
lines_of-some rest [] h = h
lines_of-some rest (r ∷ []) h = omega arith
lines_of-some rest (r ∷ s ∷ rs) h = omega arith

all-some : (room further : ℕ) (ws : List Word) → 0 < length (rows room further ws)
all-some room further [] = omega arith
all-some room further (w ∷ ws) = onto-some w (rows_after (columns (word_cells w)) room further ws)

map-some : (rs : List (List Word)) → 0 < length rs → 0 < length (map row_cells rs)
map-some [] h = h
map-some (r ∷ rs) h = omega arith

append-some : (xs ys : List (List ℕ)) → 0 < length xs → 0 < length (xs ++ ys)
append-some [] ys h = absurd (omega arith)
append-some (x ∷ xs) ys h = omega arith

pub rows-some : (room further : ℕ) (ws : List Word) → 0 < length (map row_cells (rows room further ws))
rows-some room further ws = map-some (rows room further ws) (all-some room further ws)

lines-some : (cuts : Cuts) (room further : ℕ) (ps : List TextLine) → 0 < length ps → 0
    < length (lines_from cuts room further ps)
lines-some cuts room further [] l = l
lines-some cuts room further (p ∷ ps) l = append-some (piece_lines cuts room further p)
    (lines_from cuts further further ps)
    (lines_of-some p.rest (map row_cells (rows room further (cut_words cuts p.cells)))
    (rows-some room further (cut_words cuts p.cells)))

after-append : (further : List ℕ) (xs ys : List (List ℕ)) → after_row further (xs ++ ys) ≡ after_row further xs
    ++ after_row further ys
after-append further [] ys = refl
after-append further (x ∷ xs) ys =
    ap (λ us. (10 ∷ further) ++ (x ++ us)) (after-append further xs ys)
    ∙ ap (λ us. (10 ∷ further) ++ us) (sym (append_assoc x (after_row further xs) (after_row further ys)))
    ∙ sym (append_assoc (10 ∷ further) (x ++ after_row further xs) (after_row further ys))

-- lines without the indent of the first
abbrev pub bare_lines : List ℕ → List (List ℕ) → List ℕ
bare_lines further ls = joined_lines [] further ls

pub bare-append : (further : List ℕ) (xs ys : List (List ℕ)) → 0 < length xs → 0 < length ys
    → bare_lines further (xs ++ ys) ≡ bare_lines further xs ++ ((10 ∷ further) ++ bare_lines further ys)
bare-append further [] ys h k = absurd (omega arith)
bare-append further (x ∷ xs) [] h k = absurd (omega arith)
bare-append further (x ∷ xs) (y ∷ ys) h k =
    ap (λ us. x ++ us) (after-append further xs (y ∷ ys))
    ∙ sym (append_assoc x (after_row further xs) (after_row further (y ∷ ys)))

-- the text of all lines
abbrev pub text_of : Cuts → List ℕ → ℕ → ℕ → List Token → List ℕ
text_of cuts further room room' ts = bare_lines further (lines_from cuts room room' (text_lines ts))

joined-first : (first further : List Token) (rs : List (List Token)) → 0 < length rs → joined_rows first further rs
    ≡ first ++ joined_rows [] further rs
joined-first first further [] h = absurd (omega arith)
joined-first first further (r ∷ []) h = refl
joined-first first further (r ∷ s ∷ rs) h = append_assoc first r (line_feed ∷ joined_rows further further (s ∷ rs))

rows-of-text : (cuts : Cuts) (room room' : ℕ) (ts : List Token) → 0 < length (text_rows cuts room room' (text_lines ts))
rows-of-text cuts room room' ts = omega (
  arith,
  lines-some cuts room room' (text_lines ts) (pieces-some ts),
  ap length (spell-text_rows cuts room room' (text_lines ts)),
  length-map (text_rows cuts room room' (text_lines ts)) spell,
)

-- after the first indent
pub filled-text : (p : WrapPlan (List Token)) (text : List Token) (narrow room room' : ℕ) (f f' t : List Token) → f
    ≡ p.first → f' ≡ p.further → t ≡ text → room ≡ p.room - printed_columns f → room' ≡ p.room - printed_columns f'
    → narrow
    ≡ min room room' →
    spell f ++ spell (joined_rows [] f' (text_rows (record {
      separator = p.separator;
      split_hyphens = p.split_hyphens;
      break_words =
          p.break_words;
      narrow = narrow;
    })
    room room' (text_lines t))) ≡ spell (filled_text p text)
filled-text p text narrow room room' f f' t i j k q r e =
    sym (spell-append f (joined_rows [] f' (text_rows (record
    { separator = p.separator; split_hyphens = p.split_hyphens; break_words = p.break_words; narrow = narrow }) room
    room' (text_lines t))))
    ∙ ap spell (sym (joined-first f f' (text_rows (record {
      separator = p.separator;
      split_hyphens = p.split_hyphens;
      break_words =
          p.break_words;
      narrow = narrow;
    })
    room room' (text_lines t)) (rows-of-text (record {
      separator = p.separator;
      split_hyphens = p.split_hyphens;
      break_words = p.break_words;
      narrow =
          narrow;
    }) room room' t)))
    ∙ ap (λ n. spell (joined_rows f f' (text_rows (record {
      separator = p.separator;
      split_hyphens = p.split_hyphens;
      break_words =
          p.break_words;
      narrow = n;
    }) room
    room' (text_lines t)))) e
    ∙ ap₂ (λ m n. spell (joined_rows f f' (text_rows (record
    { separator = p.separator; split_hyphens = p.split_hyphens; break_words = p.break_words; narrow = min m n }) m n
    (text_lines t)))) q r
    ∙ ap₂ (λ us vs. spell (joined_rows us vs (text_rows (record {
      separator = p.separator;
      split_hyphens = p.split_hyphens;
      break_words = p.break_words;
      narrow =
          min (p.room - printed_columns us) (p.room - printed_columns vs);
    }) (p.room - printed_columns us) (p.room - printed_columns vs)
    (text_lines t)))) i j
    ∙ ap (λ us. spell (filled_text p us)) k

-- what is printed after it
pub under-filled : (p : WrapPlan (List Token)) (separator : WordSeparator) (text : List Token) (narrow room room' : ℕ)
    (f f' t : List Token) (old o o1 : List ℕ) → separator ≡ p.separator → f ≡ p.first → f' ≡ p.further → t ≡ text →
    room ≡ p.room - printed_columns f → room' ≡ p.room - printed_columns f' → narrow ≡ min room room' → o ≡ old
    ++ spell f →
    o1 ≡ o ++ spell (joined_rows [] f' (text_rows (record
    { separator = separator; split_hyphens = p.split_hyphens; break_words = p.break_words; narrow = narrow }) room room'
    (text_lines t))) →
    o1 ≡ old ++ spell (filled_text p text)
under-filled p separator text narrow room room' f f' t old o o1 h i j k q r e a b =
    let rows : WordSeparator → List ℕ = λ s. spell (joined_rows [] f' (text_rows (record
    { separator = s; split_hyphens = p.split_hyphens; break_words = p.break_words; narrow = narrow }) room room'
    (text_lines t))) in
    b
    ∙ ap₂ (λ us s. us ++ rows s) a h
    ∙ append_assoc old (spell f) (rows p.separator)
    ∙ ap (λ us. old ++ us) (filled-text p text narrow room room' f f' t i j k q r e)

-- ---- what stands after the rows of a piece

rest-rows : (further : List ℕ) (rest : List (List ℕ)) (r s : List TaggedChar) (ss : List (List TaggedChar))
    → bare_lines further (lines_of rest (r ∷ s ∷ ss)) ≡ shown r
    ++ ((10 ∷ further) ++ bare_lines further (lines_of rest (s ∷ ss)))
rest-rows further rest r s [] = refl
rest-rows further rest r s (t ∷ ts) = refl

rest-after : (further : List ℕ) (rest : List (List ℕ)) (rs : List (List TaggedChar)) → 0 < length rs
    → bare_lines further (lines_of rest rs) ≡ bare_lines further (lines_of [] rs) ++ concat rest
rest-after further rest [] h = absurd (omega arith)
rest-after further rest (r ∷ []) h = append-nil (shown r ++ concat rest)
    ∙ ap (λ us. us ++ concat rest) (sym (append-nil (shown r ++ []) ∙ append-nil (shown r)))
rest-after further rest (r ∷ s ∷ ss) h =
    let more = bare_lines further (lines_of [] (s ∷ ss)) in
    rest-rows further rest r s ss
    ∙ ap (λ us. shown r ++ ((10 ∷ further) ++ us)) (rest-after further rest (s ∷ ss) (omega arith))
    ∙ ap (λ us. shown r ++ us) (sym (append_assoc (10 ∷ further) more (concat rest)))
    ∙ sym (append_assoc (shown r) ((10 ∷ further) ++ more) (concat rest))
    ∙ ap (λ us. us ++ concat rest) (sym (rest-rows further [] r s ss))

-- ---- the pieces of what is woven

abbrev with_tags : List (List ℕ) → TextLine → TextLine
with_tags [] p = p
with_tags (m ∷ ms) p = with_tag m (with_tags ms p)

on-tags : (m : List ℕ) (ms : List (List ℕ)) (ps : List TextLine) → on_first (with_tag m) (on_first (with_tags ms) ps)
    ≡ on_first (with_tags (m ∷ ms)) ps
on-tags m ms [] = refl
on-tags m ms (p ∷ ps) = refl

on-nothing : (ps : List TextLine) → ps ≡ on_first (with_tags []) ps
on-nothing [] = refl
on-nothing (p ∷ ps) = refl

tags-pieces : (ms : List Tag) (ts : List Token) → text_lines (map tag_token ms ++ ts)
    ≡ on_first (with_tags (map tag_text ms)) (text_lines ts)
tags-pieces [] ts = on-nothing (text_lines ts)
tags-pieces (m ∷ ms) ts = ap (on_first (with_tag (tag_text m))) (tags-pieces ms ts)
    ∙ on-tags (tag_text m) (map tag_text ms) (text_lines ts)

tags-code : (c : ℕ) (ms : List (List ℕ)) (p : TextLine) → with_tags ms (with_code c p)
    ≡ record { cells = record { tags = ms; code = c } ∷ p.cells; rest = p.rest }
tags-code c [] p = refl
tags-code c (m ∷ ms) p = ap (with_tag m) (tags-code c ms p)

tags-nothing : (ms : List (List ℕ)) → with_tags ms no_characters ≡ record { cells = []; rest = ms }
tags-nothing [] = refl
tags-nothing (m ∷ ms) = ap (with_tag m) (tags-nothing ms)

-- the piece of a line
abbrev line_piece : ℕ → List ℕ → List Tag → List (List ℕ) → TextLine
line_piece at line ms rest = record { cells = cells_at at line ms; rest = rest }

-- a character in front of a line
woven-more : (at c : ℕ) (ms : List Tag) (p : TextLine) (ps : List TextLine) (ts : List Token) → is_line_feed c ≡ false
    → text_lines ts ≡ p ∷ ps →
    text_lines (map tag_token (upto at ms) ++ Character c ∷ ts)
    ≡ record { cells = record { tags = map tag_text (upto at ms); code = c } ∷ p.cells; rest = p.rest } ∷ ps
woven-more at c ms p ps ts f e =
    tags-pieces (upto at ms) (Character c ∷ ts)
    ∙ ap (on_first (with_tags (map tag_text (upto at ms))))
    (ap₂ (λ (v : Bool) us. if v then no_characters ∷ us else on_first (with_code c) us) f e)
    ∙ ap (λ q. q ∷ ps) (tags-code c (map tag_text (upto at ms)) p)

-- at a line's end
woven-feed : (at : ℕ) (cs : List ℕ) (ms : List Tag) → text_lines (interleaving at (10 ∷ cs) ms)
    ≡ line_piece at [] ms (map tag_text (upto at ms)) ∷ text_lines (interleaving (suc at) cs (beyond at ms))
woven-feed at cs ms =
    tags-pieces (upto at ms) (Character 10 ∷ interleaving (suc at) cs (beyond at ms))
    ∙ ap (λ p. p ∷ text_lines (interleaving (suc at) cs (beyond at ms))) (tags-nothing (map tag_text (upto at ms)))

-- at the text's end
tags-end : (ms : List Tag) → text_lines (map tag_token ms) ≡ record { cells = []; rest = map tag_text ms } ∷ []
tags-end [] = refl
tags-end (m ∷ ms) = ap (on_first (with_tag (tag_text m))) (tags-end ms)

-- what is after a line that ends at a line feed
abbrev rest_of : ℕ → ℕ → List ℕ → List Tag → List (List ℕ)
rest_of n at cs ms = map tag_text (upto (at + n) (left_at at (take n cs) ms))

abbrev below_of : ℕ → ℕ → List ℕ → List Tag → List Token
below_of n at cs ms = interleaving ((at + n) + 1) (drop (suc n) cs) (beyond (at + n) (left_at at (take n cs) ms))

pub line-first : (at : ℕ) (cs : List ℕ) (ms : List Tag) → line_len cs < length cs →
    text_lines (interleaving at cs ms) ≡ line_piece at (take (line_len cs) cs) ms (rest_of (line_len cs) at cs ms)
    ∷ text_lines (below_of (line_len cs) at cs ms)
line-first at [] ms h = absurd (omega arith)
line-first at (c ∷ cs) ms h = elim (is_line_feed c) as
    (λ v. is_line_feed c ≡ v → (if v then 0 else suc (line_len cs)) < suc (length cs) →
    text_lines (interleaving at (c ∷ cs) ms) ≡ line_piece at (take (if v then 0 else suc (line_len cs)) (c ∷ cs)) ms
    (rest_of (if v then 0 else suc (line_len cs)) at (c ∷ cs) ms)
    ∷ text_lines (below_of (if v then 0 else suc (line_len cs)) at (c ∷ cs) ms)) [
      | true ↦ λ e l.
          ap (λ k. text_lines (interleaving at (k ∷ cs) ms)) (eqb-true c 10 e)
          ∙ woven-feed at cs ms
          ∙ ap₂ (λ (i j : ℕ). line_piece at [] ms (map tag_text (upto i ms))
          ∷ text_lines (interleaving j cs (beyond i ms))) (omega arith) (omega arith)
      | false ↦ λ e l.
          (let n = line_len cs in
          let ms' = beyond at ms in
          woven-more at c ms (line_piece (suc at) (take n cs) ms' (rest_of n (suc at) cs ms'))
          (text_lines (below_of n (suc at) cs ms')) (interleaving (suc at) cs ms') e
          (line-first (suc at) cs ms' (omega arith))
          ∙ ap₂ (λ (i j : ℕ). line_piece at (c ∷ take n cs) ms
          (map tag_text (upto i (left_at (suc at) (take n cs) ms')))
          ∷ text_lines (interleaving j (drop (suc n) cs) (beyond i (left_at (suc at) (take n cs) ms')))) (omega arith)
          (omega arith))
    ] refl h

pub line-last : (at : ℕ) (cs : List ℕ) (ms : List Tag) → length cs ≤ line_len cs → text_lines (interleaving at cs ms)
    ≡ line_piece at cs ms (map tag_text (left_at at cs ms)) ∷ []
line-last at [] ms h = tags-end ms
line-last at (c ∷ cs) ms h = elim (is_line_feed c) as (λ v. is_line_feed c ≡ v → suc (length cs)
    ≤ (if v then 0 else suc (line_len cs)) →
    text_lines (interleaving at (c ∷ cs) ms) ≡ line_piece at (c ∷ cs) ms (map tag_text (left_at at (c ∷ cs) ms)) ∷ []) [
      | true ↦ λ e l. absurd (omega arith)
      | false ↦ λ e l. woven-more at c ms (line_piece (suc at) cs (beyond at ms)
          (map tag_text (left_at (suc at) cs (beyond at ms)))) [] (interleaving (suc at) cs (beyond at ms)) e
          (line-last (suc at) cs (beyond at ms) (omega arith))
    ] refl h

-- ---- what a line prints

-- the rows of a line, and after them nothing
abbrev pub line_text : Cuts → List ℕ → ℕ → ℕ → ℕ → List ℕ → List Tag → List ℕ
line_text cuts further room room' at line ms = bare_lines further
    (lines_of [] (map row_cells (rows room room' (cut_words cuts (cells_at at line ms)))))

piece-text : (cuts : Cuts) (room room' at : ℕ) (further line : List ℕ) (ms : List Tag) (rest : List (List ℕ)) →
    bare_lines further (piece_lines cuts room room' (line_piece at line ms rest))
    ≡ line_text cuts further room room' at line ms ++ concat rest
piece-text cuts room room' at further line ms rest =
    rest-after further rest (map row_cells (rows room room' (cut_words cuts (cells_at at line ms))))
    (rows-some room room' (cut_words cuts (cells_at at line ms)))

piece-some : (cuts : Cuts) (room room' : ℕ) (p : TextLine) → 0 < length (piece_lines cuts room room' p)
piece-some cuts room room' p = lines_of-some p.rest (map row_cells (rows room room' (cut_words cuts p.cells)))
    (rows-some room room' (cut_words cuts p.cells))

pub line-at : (cuts : Cuts) (further : List ℕ) (room room' n at : ℕ) (cs : List ℕ) (ms : List Tag) → n ≡ line_len cs → n
    < length cs →
    text_of cuts further room room' (interleaving at cs ms)
    ≡ (line_text cuts further room room' at (take n cs) ms
    ++ tags_spelled (upto (at + n) (left_at at (take n cs) ms)))
    ++ ((10 ∷ further) ++ text_of cuts further room' room'
    (interleaving ((at + n) + 1) (drop (n + 1) cs) (beyond (at + n) (left_at at (take n cs) ms))))
line-at cuts further room room' n at cs ms e l =
    let p = line_piece at (take n cs) ms (rest_of n at cs ms) in
    let below = below_of n at cs ms in
    let split : text_lines (interleaving at cs ms) ≡ p ∷ text_lines below =
    line-first at cs ms (omega arith) ∙ ap (λ k. line_piece at (take k cs) ms (rest_of k at cs ms)
    ∷ text_lines (below_of k at cs ms)) (sym e) in
    let next : suc n ≡ n + 1 = omega arith in
    ap (λ ps. bare_lines further (lines_from cuts room room' ps)) split
    ∙ bare-append further (piece_lines cuts room room' p) (lines_from cuts room' room' (text_lines below))
    (piece-some cuts room room' p) (lines-some cuts room' room' (text_lines below) (pieces-some below))
    ∙ ap (λ us. us ++ ((10 ∷ further) ++ text_of cuts further room' room' below))
    (piece-text cuts room room' at further (take n cs) ms (rest_of n at cs ms)
    ∙ ap (λ us. line_text cuts further room room' at (take n cs) ms ++ us)
    (spelled-flat (upto (at + n) (left_at at (take n cs) ms))))
    ∙ ap (λ k. (line_text cuts further room room' at (take n cs) ms
    ++ tags_spelled (upto (at + n) (left_at at (take n cs) ms)))
    ++ ((10 ∷ further) ++ text_of cuts further room' room'
    (interleaving ((at + n) + 1) (drop k cs) (beyond (at + n) (left_at at (take n cs) ms))))) next

pub last-line : (cuts : Cuts) (further : List ℕ) (room room' n at : ℕ) (cs : List ℕ) (ms : List Tag) → n ≡ line_len cs
    → length cs ≤ n →
    text_of cuts further room room' (interleaving at cs ms) ≡ line_text cuts further room room' at cs ms
    ++ tags_spelled (left_at at cs ms)
last-line cuts further room room' n at cs ms e l =
    let p = line_piece at cs ms (map tag_text (left_at at cs ms)) in
    ap (λ ps. bare_lines further (lines_from cuts room room' ps)) (line-last at cs ms (omega arith))
    ∙ ap (bare_lines further) (append-nil (piece_lines cuts room room' p))
    ∙ piece-text cuts room room' at further cs ms (map tag_text (left_at at cs ms))
    ∙ ap (λ us. line_text cuts further room room' at cs ms ++ us) (spelled-flat (left_at at cs ms))
