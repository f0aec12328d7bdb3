-- Rows that have room stand in a wrapped text each after an indent.
use Rattle.std.proofs.Common.{◌≡◌, ℕ, zero, suc, ◌+◌, ◌<◌, ◌≤◌, Bool, true, false, not, ◌&&◌, List, [], ◌∷◌, ◌++◌, map}
use Rattle.std.proofs.Common.{flat_map, length, refl, sym, ap, ap₂, ◌∙◌, append_assoc, arith}
use Rattle.std.proofs.Common.{if◌then◌else◌, nat_lt, subst}
use Rattle.std.proofs.lemmas.Bool.{and_parts, not-true}
use Rattle.std.proofs.lemmas.List.{length-append}
use Rattle.std.proofs.lemmas.Bool.Decides.{nat_tests}
use Rattle.std.proofs.lemmas.List.Sums.{sum_by-append, sum_by-cons}
use Rattle.std.specs.List.{AllByRecursion}
use Rattle.miette_lines.specs.rules.Lists.{onto}
use Rattle.miette_runs.specs.rules.Cells.{TaggedChar, printed_columns, token_width, width}
use Rattle.miette_runs.specs.rules.Sequences.{Token, Character, Sequence, is_line_feed, sequence_len, spell, tokens}
use Rattle.miette_runs.specs.rules.Sequences.{tokens_after}
use Rattle.miette_runs.proofs.Appending.{spell-append}
use Rattle.miette_runs.proofs.Tokens.{spell-tokens}
use Rattle.miette_text.specs.laws.FittingRows.{FitsRow, bare_row, fed_rows, indented_rows, is_row}
use Rattle.miette_text.specs.rules.Wrapping.{Cuts, WrapPlan, TextLine, Word, cell_tokens, columns, cut_words, cuts_of}
use Rattle.miette_text.specs.rules.Wrapping.{filled_text, first_room, further_room, is_space, joined_rows}
use Rattle.miette_text.specs.rules.Wrapping.{line_feed}
use Rattle.miette_text.specs.rules.Wrapping.{map_indents, no_characters, on_first, only_spaces, tokens_of_words, rows}
use Rattle.miette_text.specs.rules.Wrapping.{rows_after, word_cells}
use Rattle.miette_text.specs.rules.Wrapping.{text_line_rows, text_line_tokens, text_lines, text_rows, trimmed_row}
use Rattle.miette_text.specs.rules.Wrapping.{whole_lines, with_code, with_rest, with_tag, wrapped_text}
use Rattle.miette_text.specs.steps.Ends.{row_cells}
use Rattle.miette_text.proofs.Feeds.{first_token, lines, lines-fed}
use Rattle.miette_text.proofs.LineWise.{pieces-some, rows-some}
use Rattle.miette_text.proofs.KeptCells.{cut_words-flat}

-- ---- a row is one line

abbrev are_fed : List Token → Bool
are_fed [] = true
are_fed (Character c ∷ ts) = not (is_line_feed c) && are_fed ts
are_fed (Sequence s ∷ ts) = are_fed ts

row-tokens : (k : ℕ) (cs : List ℕ) → is_row cs ≡ true → are_fed (tokens_after k cs) ≡ true
row-tokens zero [] h = refl
row-tokens (suc k) [] h = refl
row-tokens (suc k) (c ∷ cs) h = row-tokens k cs (and_parts (not (is_line_feed c)) (is_row cs) h).1
row-tokens zero (c ∷ cs) h =
    let p = and_parts (not (is_line_feed c)) (is_row cs) h in
    elim (sequence_len (c ∷ cs)) as (λ n. are_fed (first_token c cs n) ≡ true) [
      | zero ↦ ap₂ (λ x y. x && y) p.0 (row-tokens 0 cs p.1)
      | suc k ↦ row-tokens k cs p.1
    ]

abbrev pub line_of : List Token → TextLine
line_of [] = no_characters
line_of (Character c ∷ ts) = with_code c (line_of ts)
line_of (Sequence s ∷ ts) = with_tag s (line_of ts)

one-line : (ts : List Token) → are_fed ts ≡ true → text_lines ts ≡ line_of ts ∷ []
one-line [] h = refl
one-line (Character c ∷ ts) h =
    let p = and_parts (not (is_line_feed c)) (are_fed ts) h in
    ap (λ (b : Bool). if b then no_characters ∷ text_lines ts else on_first (with_code c) (text_lines ts))
    (not-true (is_line_feed c) p.0)
    ∙ ap (on_first (with_code c)) (one-line ts p.1)
one-line (Sequence s ∷ ts) h = ap (on_first (with_tag s)) (one-line ts h)

abbrev pub row_line : List ℕ → TextLine
row_line row = line_of (tokens row)

pub row-line : (row : List ℕ) → is_row row ≡ true → lines row ≡ row_line row ∷ []
row-line row h = one-line (tokens row) (row-tokens 0 row h)

tag-tokens : (s : List ℕ) (p : TextLine) → text_line_tokens (with_tag s p) ≡ Sequence s ∷ text_line_tokens p
tag-tokens s p = elim p.cells as (λ cs. text_line_tokens (with_tag s (record { cells = cs; rest = p.rest }))
    ≡ Sequence s ∷ text_line_tokens (record { cells = cs; rest = p.rest })) [ [] ↦ refl | c ∷ cs ↦ refl ]

pub line-tokens : (ts : List Token) → text_line_tokens (line_of ts) ≡ ts
line-tokens [] = refl
line-tokens (Character c ∷ ts) = ap (λ us. Character c ∷ us) (line-tokens ts)
line-tokens (Sequence s ∷ ts) = tag-tokens s (line_of ts) ∙ ap (λ us. Sequence s ∷ us) (line-tokens ts)

tag-columns : (s : List ℕ) (p : TextLine) → columns (with_tag s p).cells ≡ columns p.cells
tag-columns s p = elim p.cells as (λ cs. columns (with_tag s (record { cells = cs; rest = p.rest })).cells ≡ columns cs)
    [ [] ↦ refl | c ∷ cs ↦ refl ]

line-columns : (ts : List Token) → columns (line_of ts).cells ≡ printed_columns ts
line-columns [] = refl
line-columns (Character c ∷ ts) =
    let own = sum_by-cons (λ (x : TaggedChar). token_width (Character x.code)) (record { tags = []; code = c })
    (line_of ts).cells in
    own ∙ ap (λ n. token_width (Character c) + n) (line-columns ts) ∙ sym (sum_by-cons token_width (Character c) ts)
line-columns (Sequence s ∷ ts) =
    let own : printed_columns (Sequence s ∷ ts) ≡ 0 + printed_columns ts = sum_by-cons token_width (Sequence s) ts in
    let same : printed_columns ts ≡ printed_columns (Sequence s ∷ ts) = omega arith in
    tag-columns s (line_of ts) ∙ line-columns ts ∙ same

-- ---- and one row, where it has room

abbrev cell_width : TaggedChar → ℕ
cell_width c = width c.code

only-rest : (ts : List Token) (rest : List (List ℕ)) → only_spaces (ts ++ map Sequence rest) ≡ only_spaces ts
only-rest [] [] = refl
only-rest [] (s ∷ rest) = only-rest [] rest
only-rest (Character c ∷ ts) rest = ap (λ b. is_space c && b) (only-rest ts rest)
only-rest (Sequence s ∷ ts) rest = only-rest ts rest

trimmed-rest : (ts : List Token) (rest : List (List ℕ)) → trimmed_row (ts ++ map Sequence rest) ≡ trimmed_row ts
    ++ map Sequence rest
trimmed-rest [] [] = refl
trimmed-rest [] (s ∷ rest) = ap (λ us. Sequence s ∷ us) (trimmed-rest [] rest)
trimmed-rest (Sequence s ∷ ts) rest = ap (λ us. Sequence s ∷ us) (trimmed-rest ts rest)
trimmed-rest (Character c ∷ ts) rest =
    ap₂ (λ (b : Bool) us. if is_space c && b then us else Character c ∷ us) (only-rest ts rest) (trimmed-rest ts rest)
    ∙ elim (is_space c && only_spaces ts) as (λ (b : Bool). (if b then trimmed_row ts ++ map Sequence rest
    else Character c ∷ (trimmed_row ts ++ map Sequence rest)) ≡ (if b then trimmed_row ts
    else Character c ∷ trimmed_row ts) ++ map Sequence rest) [ true ↦ refl | false ↦ refl ]

-- words that have room after `used` columns stay there
after-one : (used room further : ℕ) (ws : List Word) → used + columns (row_cells ws) ≤ room
    → rows_after used room further ws ≡ ws ∷ []
after-one used room further [] h = refl
after-one used room further (w ∷ ws) h =
    let all : columns (row_cells (w ∷ ws)) ≡ columns (word_cells w) + columns (row_cells ws) =
    sum_by-append cell_width (word_cells w) (row_cells ws) in
    let own : columns (word_cells w) ≡ columns w.letters + columns w.spaces =
    sum_by-append cell_width w.letters w.spaces in
    let stays : nat_lt room (used + columns w.letters) ≡ false = grind (arith, nat_tests) in
    ap (λ (b : Bool). if b then [] ∷ onto w (rows_after (columns (word_cells w)) further further ws)
    else onto w (rows_after (used + columns (word_cells w)) room further ws)) stays
    ∙ ap (onto w) (after-one (used + columns (word_cells w)) room further ws (omega arith))

one-row : (room further : ℕ) (ws : List Word) → columns (row_cells ws) ≤ room → rows room further ws ≡ ws ∷ []
one-row room further [] h = refl
one-row room further (w ∷ ws) h =
    let all : columns (row_cells (w ∷ ws)) ≡ columns (word_cells w) + columns (row_cells ws) =
    sum_by-append cell_width (word_cells w) (row_cells ws) in
    ap (onto w) (after-one (columns (word_cells w)) room further ws (omega arith))

line-row : (c : Cuts) (room further : ℕ) (p : TextLine) → columns p.cells ≤ room → text_line_rows c room further p
    ≡ trimmed_row (text_line_tokens p) ∷ []
line-row c room further p h =
    let ws = cut_words c p.cells in
    ap (λ rs. with_rest p.rest (map tokens_of_words rs)) (one-row room further ws
    (omega (arith, h, ap columns (cut_words-flat c p.cells))))
    ∙ ap (λ us. (trimmed_row (flat_map cell_tokens us) ++ map Sequence p.rest) ∷ []) (cut_words-flat c p.cells)
    ∙ ap (λ us. us ∷ []) (sym (trimmed-rest (flat_map cell_tokens p.cells) p.rest))

row-row : (c : Cuts) (room further : ℕ) (row : List ℕ) → printed_columns (tokens row) ≤ room
    → text_line_rows c room further (row_line row) ≡ trimmed_row (tokens row) ∷ []
row-row c room further row h =
    line-row c room further (row_line row) (omega (arith, h, line-columns (tokens row)))
    ∙ ap (λ us. trimmed_row us ∷ []) (line-tokens (tokens row))

-- ---- rows of a text, each with a line feed after it

abbrev fed : List Token → List Token → List (List Token) → List ℕ
fed first further [] = []
fed first further (r ∷ rs) = spell first ++ spell r ++ 10 ∷ fed further further rs

joined-fed : (first further : List Token) (rs : List (List Token)) → 0 < length rs
    → spell (joined_rows first further rs) ++ 10 ∷ [] ≡ fed first further rs
joined-fed first further [] h = absurd (omega arith)
joined-fed first further (r ∷ []) h = ap (λ t. t ++ 10 ∷ []) (spell-append first r)
joined-fed first further (r ∷ s ∷ rs) h =
    let below = joined_rows further further (s ∷ rs) in
    ap (λ t. t ++ 10 ∷ []) (spell-append (first ++ r) (line_feed ∷ below)
    ∙ ap (λ t. t ++ 10 ∷ spell below) (spell-append first r))
    ∙ append_assoc (spell first ++ spell r) (10 ∷ spell below) (10 ∷ [])
    ∙ ap (λ t. spell first ++ spell r ++ 10 ∷ t) (joined-fed further further (s ∷ rs) (omega arith))

fed-more : (further : List Token) (rs ss : List (List Token)) → fed further further (rs ++ ss) ≡ fed further further rs
    ++ fed further further ss
fed-more further [] ss = refl
fed-more further (r ∷ rs) ss =
    ap (λ t. spell further ++ spell r ++ 10 ∷ t) (fed-more further rs ss)
    ∙ sym (append_assoc (spell further ++ spell r) (10 ∷ fed further further rs) (fed further further ss))

fed-append : (first further : List Token) (rs ss : List (List Token)) → 0 < length rs → fed first further (rs ++ ss)
    ≡ fed first further rs ++ fed further further ss
fed-append first further [] ss h = absurd (omega arith)
fed-append first further (r ∷ rs) ss h =
    ap (λ t. spell first ++ spell r ++ 10 ∷ t) (fed-more further rs ss)
    ∙ sym (append_assoc (spell first ++ spell r) (10 ∷ fed further further rs) (fed further further ss))

rows-more : (c : Cuts) (room : ℕ) (ps qs : List TextLine) → text_rows c room room (ps ++ qs) ≡ text_rows c room room ps
    ++ text_rows c room room qs
rows-more c room [] qs = refl
rows-more c room (p ∷ ps) qs =
    ap (λ rs. text_line_rows c room room p ++ rs) (rows-more c room ps qs)
    ∙ sym (append_assoc (text_line_rows c room room p) (text_rows c room room ps) (text_rows c room room qs))

rows-append : (c : Cuts) (room further : ℕ) (ps qs : List TextLine) → 0 < length ps → text_rows c room further
    (ps ++ qs) ≡ text_rows c room further ps ++ text_rows c further further qs
rows-append c room further [] qs h = absurd (omega arith)
rows-append c room further (p ∷ ps) qs h =
    ap (λ rs. text_line_rows c room further p ++ rs) (rows-more c further ps qs)
    ∙ sym (append_assoc (text_line_rows c room further p) (text_rows c further further ps)
    (text_rows c further further qs))

-- there are some
rest-some : (rest : List (List ℕ)) (rs : List (List Token)) → 0 < length rs → 0 < length (with_rest rest rs)
rest-some rest [] h = absurd (omega arith)
rest-some rest (r ∷ []) h = omega arith
rest-some rest (r ∷ s ∷ rs) h = omega arith

tokens-some : (rs : List (List Word)) → 0 < length (map row_cells rs) → 0 < length (map tokens_of_words rs)
tokens-some [] h = h
tokens-some (r ∷ rs) h = omega arith

more-some : (xs ys : List (List Token)) → 0 < length xs → 0 < length (xs ++ ys)
more-some [] ys h = absurd (omega arith)
more-some (x ∷ xs) ys h = omega arith

text-some : (c : Cuts) (room further : ℕ) (ps : List TextLine) → 0 < length ps →
    0 < length (text_rows c room further ps)
text-some c room further [] h = absurd (omega arith)
text-some c room further (p ∷ ps) h =
    let ws = cut_words c p.cells in
    more-some (text_line_rows c room further p) (text_rows c further further ps)
    (rest-some p.rest (map tokens_of_words (rows room further ws))
    (tokens-some (rows room further ws) (rows-some room further ws)))

-- ---- rows that have room

abbrev row_lines : List (List ℕ) → List TextLine
row_lines = map row_line

lines-of : (rows : List (List ℕ)) (back : List ℕ) (room : ℕ) → AllByRecursion (FitsRow room) rows
    → lines (fed_rows rows ++ back) ≡ row_lines rows ++ lines back
lines-of [] back room h = refl
lines-of (row ∷ rows) back room h =
    ap lines (append_assoc row (10 ∷ fed_rows rows) back)
    ∙ lines-fed row (fed_rows rows ++ back)
    ∙ ap₂ (λ ps qs. ps ++ qs) (row-line row h.0.0) (lines-of rows back room h.1)

rows-fed : (c : Cuts) (further : List Token) (room : ℕ) (rows : List (List ℕ)) → AllByRecursion (FitsRow room) rows
    → fed further further (text_rows c room room (row_lines rows)) ≡ indented_rows (spell further) rows
rows-fed c further room [] h = refl
rows-fed c further room (row ∷ rows) h =
    ap (λ rs. fed further further (rs ++ text_rows c room room (row_lines rows))) (row-row c room room row h.0.1)
    ∙ ap (λ t. spell further ++ bare_row row ++ 10 ∷ t) (rows-fed c further room rows h.1)

-- ---- what begins with an indent

abbrev pub IsAfter : List ℕ → List ℕ → Type 0
IsAfter indent text = (rest : List ℕ) × (text ≡ indent ++ rest)

joined-after : (first further : List Token) (rs : List (List Token)) → 0 < length rs
    → IsAfter (spell first) (spell (joined_rows first further rs))
joined-after first further [] h = absurd (omega arith)
joined-after first further (r ∷ []) h = (spell r, spell-append first r)
joined-after first further (r ∷ s ∷ rs) h =
    let below = line_feed ∷ joined_rows further further (s ∷ rs) in (
      spell r ++ spell below,
      spell-append (first ++ r) below ∙ ap (λ t. t ++ spell below) (spell-append first r)
          ∙ append_assoc (spell first) (spell r) (spell below),
    )

fed-after : (first further : List Token) (rs : List (List Token)) → 0 < length rs
    → IsAfter (spell first) (fed first further rs)
fed-after first further [] h = absurd (omega arith)
fed-after first further (r ∷ rs) h = (
  spell r ++ 10 ∷ fed further further rs,
  append_assoc (spell first) (spell r) (10 ∷ fed further further rs),
)

-- where there are more than one line, some are left without the last one
some-left : {A : Type 0} (xs ys zs left : List A) (e : A) → xs ++ e ∷ [] ≡ ys ++ zs → xs ≡ ys ++ left → 1 < length zs
    → 0 < length left
some-left xs ys zs left e same parted h = omega (
  arith,
  ap length same,
  length-append ys zs,
  length-append xs (e ∷ []),
  ap length parted,
  length-append ys left,
  h,
)

-- the last of some lists on both sides
cut-last : {A : Type 0} (xs ys zs : List A) (e : A) → xs ++ e ∷ [] ≡ ys ++ zs → 0 < length zs
    → (left : List A) × (xs ≡ ys ++ left)
cut-last xs [] zs e same some = (xs, refl)
cut-last [] (y ∷ ys) zs e same some =
    absurd (omega (arith, ap length same, length-append ys zs, some))
cut-last (x ∷ xs) (y ∷ ys) zs e same some =
    let first : x ≡ y = cc in
    let later : xs ++ e ∷ [] ≡ ys ++ zs = cc in
    let below = cut-last xs ys zs e later some in
    (below.0, ap₂ (λ l ls. l ∷ ls) first below.1)

-- ---- in a wrapped text

module _ (p : WrapPlan (List ℕ)) (text : List ℕ) where
  abbrev plan : WrapPlan (List Token)
  plan = map_indents tokens p

  abbrev rows_of : List TextLine → List (List Token)
  rows_of = text_rows (cuts_of plan) (first_room plan) (further_room plan)

  abbrev below_of : List TextLine → List (List Token)
  below_of = text_rows (cuts_of plan) (further_room plan) (further_room plan)

  wrapped-fed : p.wrap_lines ≡ true → wrapped_text p text ++ 10 ∷ [] ≡ fed plan.first plan.further
      (rows_of (lines text))
  wrapped-fed w =
      ap (λ (b : Bool). spell (if b then filled_text plan (tokens text)
      else whole_lines plan.first plan.further (lines text)) ++ 10 ∷ []) w
      ∙ joined-fed plan.first plan.further (rows_of (lines text))
      (text-some (cuts_of plan) (first_room plan) (further_room plan) (lines text) (pieces-some (tokens text)))

  -- the lines of a text that has some lines at its front
  lines-left : (above : List TextLine) (rest : List ℕ) → lines (text ++ 10 ∷ []) ≡ above ++ lines rest
      → (left : List TextLine) × (lines text ≡ above ++ left)
  lines-left above rest same = cut-last (lines text) above (lines rest) no_characters (sym (lines-fed text []) ∙ same)
      (pieces-some (tokens rest))

  pub first-wrapped : (row back : List ℕ) → p.wrap_lines ≡ true → text ++ 10 ∷ [] ≡ row ++ 10 ∷ back
      → FitsRow (first_room plan) row
      → (below : List ℕ) × (wrapped_text p text ++ 10 ∷ [] ≡ p.first ++ bare_row row ++ 10 ∷ below)
  first-wrapped row back w same h =
      let all : lines (text ++ 10 ∷ []) ≡ row_line row ∷ lines back =
      ap lines same ∙ lines-fed row back ∙ ap (λ ps. ps ++ lines back) (row-line row h.0) in
      let left = lines-left (row_line row ∷ []) back all in (
        fed plan.further plan.further (below_of left.0),
        wrapped-fed w
            ∙ ap (λ ps. fed plan.first plan.further (rows_of ps)) left.1
            ∙ ap (λ rs. fed plan.first plan.further (rs ++ below_of left.0))
            (row-row (cuts_of plan) (first_room plan) (further_room plan) row h.1)
            ∙ ap (λ t. t ++ bare_row row ++ 10 ∷ fed plan.further plan.further (below_of left.0))
            (spell-tokens p.first),
      )

  -- a text that ends with a line feed has a line after it
  two-lines : (back more : List ℕ) → back ≡ more ++ 10 ∷ [] → 1 < length (lines back)
  two-lines back more same = omega (
    arith,
    ap length (ap lines same ∙ lines-fed more []),
    length-append (lines more) (no_characters ∷ []),
    pieces-some (tokens more),
  )

  pub rows-wrapped : (front back : List ℕ) (rows : List (List ℕ)) → p.wrap_lines ≡ true → text ++ 10 ∷ [] ≡ front
      ++ 10 ∷ fed_rows rows ++ back → AllByRecursion (FitsRow (further_room plan)) rows
      → (above below : List ℕ) × (wrapped_text p text ++ 10 ∷ [] ≡ above ++ 10 ∷ indented_rows p.further rows ++ below)
      × IsAfter p.first above × ((more : List ℕ) → back ≡ more ++ 10 ∷ [] → IsAfter p.further below)
  rows-wrapped front back rows w same h =
      let f = plan.further in
      let head = lines front in
      let own = row_lines rows in
      let all : lines (text ++ 10 ∷ []) ≡ (head ++ own) ++ lines back =
      ap lines (same ∙ append_assoc front (10 ∷ fed_rows rows) back)
      ∙ lines-fed front (fed_rows rows ++ back)
      ∙ ap (λ ps. head ++ ps) (lines-of rows back (further_room plan) h)
      ∙ sym (append_assoc head own (lines back)) in
      let left = lines-left (head ++ own) back all in
      let some : 0 < length head = pieces-some (tokens front) in
      let above = spell (joined_rows plan.first f (rows_of head)) in
      let shown = indented_rows p.further rows in
      let below = fed f f (below_of left.0) in
      let parts : rows_of (head ++ (own ++ left.0)) ≡ rows_of head ++ (below_of own ++ below_of left.0) =
      rows-append (cuts_of plan) (first_room plan) (further_room plan) head (own ++ left.0) some
      ∙ ap (λ rs. rows_of head ++ rs) (rows-more (cuts_of plan) (further_room plan) own left.0) in
      let drawn : fed f f (below_of own ++ below_of left.0) ≡ shown ++ below =
      fed-more f (below_of own) (below_of left.0)
      ∙ ap (λ t. t ++ below) (rows-fed (cuts_of plan) f (further_room plan) rows h
      ∙ ap (λ indent. indented_rows indent rows) (spell-tokens p.further)) in
      let filled = text-some (cuts_of plan) (first_room plan) (further_room plan) head some in (
        above,
        below,
        wrapped-fed w
            ∙ ap (λ ps. fed plan.first f (rows_of ps)) (left.1 ∙ append_assoc head own left.0)
            ∙ ap (fed plan.first f) parts
            ∙ fed-append plan.first f (rows_of head) (below_of own ++ below_of left.0) filled
            ∙ ap₂ (λ x y. x ++ y) (sym (joined-fed plan.first f (rows_of head) filled)) drawn
            ∙ sym (append_assoc (above ++ 10 ∷ []) shown below)
            ∙ ap (λ t. t ++ below) (append_assoc above (10 ∷ []) shown),
        subst (λ indent. IsAfter indent above) (spell-tokens p.first)
            (joined-after plan.first f (rows_of head) filled),
        λ more fed_back. subst (λ indent. IsAfter indent below) (spell-tokens p.further)
            (fed-after f f (below_of left.0)
            (text-some (cuts_of plan) (further_room plan) (further_room plan) left.0
            (some-left (lines text) (head ++ own) (lines back) left.0 no_characters
            (sym (lines-fed text []) ∙ all) left.1 (two-lines back more fed_back)))),
      )
