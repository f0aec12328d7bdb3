-- Wrapping looks at characters alone, so it commutes with deleting sequences.
use Rattle.std.proofs.Common.{◌≡◌, ℕ, ◌+◌, ◌-◌, Bool, true, false, ◌&&◌, ◌==◌, nat_lt, min, List, [], ◌∷◌, ◌++◌, map}
use Rattle.std.proofs.Common.{flat_map, fold, refl, sym, ap, ap₂, ◌∙◌, arith, if◌then◌else◌}
use Rattle.std.specs.Char.{is_whitespace}
use Rattle.std.proofs.lemmas.Bool.Decides.{nat_tests}
use Rattle.std.proofs.lemmas.List.{map-append}
use Rattle.miette_runs.specs.rules.Sequences.{Token, Character, Sequence, is_line_feed}
use Rattle.miette_runs.specs.rules.Colours.{is_colour}
use Rattle.miette_text.specs.rules.Wrapping.{TextLine, Word, Cuts, WrapPlan, map_indents, on_first, with_tag}
use Rattle.miette_text.specs.rules.Wrapping.{with_code}
use Rattle.miette_text.specs.rules.Wrapping.{no_characters, text_lines, cell_tokens, columns, is_space, words}
use Rattle.miette_text.specs.rules.Wrapping.{ends_word, in_front, pieces, word_of}
use Rattle.miette_text.specs.rules.Wrapping.{is_alphanumeric, begins_alphanumeric, hyphen_parts}
use Rattle.miette_text.specs.rules.Wrapping.{broken_parts, with_spaces, first_room, further_room, cuts_of}
use Rattle.miette_text.specs.rules.Wrapping.{hyphenated_parts, narrow_parts, parts, cut_words, word_cells}
use Rattle.miette_text.specs.rules.Wrapping.{rows_after}
use Rattle.miette_text.specs.rules.Wrapping.{rows, only_spaces, trimmed_row, tokens_of_words, with_rest}
use Rattle.miette_text.specs.rules.Wrapping.{text_line_rows}
use Rattle.miette_text.specs.rules.Wrapping.{text_rows, line_feed, joined_rows, filled_text, all_white}
use Rattle.miette_text.specs.rules.Wrapping.{text_line_tokens, indented_row, last_indented, whole_lines}
use Rattle.miette_text.specs.rules.Wrapping.{wrapped_tokens}
use Rattle.miette_runs.specs.rules.Cells.{TaggedChar, width, token_width, printed_columns}
use Rattle.miette_text.proofs.ErasedTokens.{erased}
use Rattle.miette_lines.specs.rules.Lists.{is_nil, onto}
use Rattle.miette_text.specs.declared.options.WordSeparator.{WordSeparator}

abbrev pub kept : List (List ℕ) → List (List ℕ)
kept [] = []
kept (m ∷ ms) = if is_colour m then kept ms else m ∷ kept ms

abbrev pub strip : TaggedChar → TaggedChar
strip c = record { tags = kept c.tags; code = c.code }

abbrev pub strip_piece : TextLine → TextLine
strip_piece p = record { cells = map strip p.cells; rest = kept p.rest }

abbrev pub strip_word : Word → Word
strip_word w = record { letters = map strip w.letters; spaces = map strip w.spaces }

-- ---- tokens

pub erased-append : (us bs : List Token) → erased (us ++ bs) ≡ erased us ++ erased bs
erased-append [] bs = refl
erased-append (Character c ∷ us) bs = ap (λ ts. Character c ∷ ts) (erased-append us bs)
erased-append (Sequence s ∷ us) bs = grind (arith, nat_tests, erased-append us bs)

pub erased-tags : (ms : List (List ℕ)) → erased (map Sequence ms) ≡ map Sequence (kept ms)
erased-tags [] = refl
erased-tags (m ∷ ms) = grind (arith, nat_tests, erased-tags ms)

pub erased-cell : (c : TaggedChar) → erased (cell_tokens c) ≡ cell_tokens (strip c)
erased-cell c = erased-append (map Sequence c.tags) (Character c.code ∷ [])
    ∙ ap (λ ts. ts ++ Character c.code ∷ []) (erased-tags c.tags)

pub erased-cells : (cs : List TaggedChar) → erased (flat_map cell_tokens cs) ≡ flat_map cell_tokens (map strip cs)
erased-cells [] = refl
erased-cells (c ∷ cs) = erased-append (cell_tokens c) (flat_map cell_tokens cs)
    ∙ ap₂ (λ xs ys. xs ++ ys) (erased-cell c) (erased-cells cs)

fold-strip : (cs : List TaggedChar) (n : ℕ) → fold (λ a c. a + width c.code) n (map strip cs)
    ≡ fold (λ a c. a + width c.code) n cs
fold-strip [] n = refl
fold-strip (c ∷ cs) n = fold-strip cs (n + width c.code)

pub columns-strip : (cs : List TaggedChar) → columns (map strip cs) ≡ columns cs
columns-strip cs = fold-strip cs 0

fold-erased : (ts : List Token) (n : ℕ) → fold (λ a t. a + token_width t) n (erased ts)
    ≡ fold (λ a t. a + token_width t) n ts
fold-erased [] n = refl
fold-erased (Character c ∷ ts) n = fold-erased ts (n + width c)
fold-erased (Sequence s ∷ ts) n =
    elim (is_colour s) as (λ b. fold (λ a t. a + token_width t) n (if b then erased ts else Sequence s ∷ erased ts)
    ≡ fold (λ a t. a + token_width t) (n + 0) ts) [
      | true ↦ fold-erased ts n ∙ ap (λ m. fold (λ a t. a + token_width t) m ts) (omega arith)
      | false ↦ fold-erased ts (n + 0)
    ]

pub printed_columns-erased : (ts : List Token) → printed_columns (erased ts) ≡ printed_columns ts
printed_columns-erased ts = fold-erased ts 0

-- ---- pieces

map-on_first : {A : Type 0} (f g h : A → A) → ((x : A) → f (g x) ≡ h (f x)) → (xs : List A) → map f (on_first g xs)
    ≡ on_first h (map f xs)
map-on_first f g h e [] = refl
map-on_first f g h e (x ∷ xs) = ap (λ y. y ∷ map f xs) (e x)

-- what is left of a piece with a sequence in front, which is a colour or not
abbrev stripped : List ℕ → TextLine → Bool → TextLine
stripped s p b = elim p.cells [
  | [] ↦ record { cells = []; rest = if b then kept p.rest else s ∷ kept p.rest }
  | c ∷ cs ↦ record {
    cells = record { tags = if b then kept c.tags else s ∷ kept c.tags; code = c.code } ∷ map strip cs;
    rest = kept p.rest;
  }
]

strip-with : (s : List ℕ) (p : TextLine) → strip_piece (with_tag s p) ≡ stripped s p (is_colour s)
strip-with s p = elim p.cells as (λ cs. strip_piece (with_tag s (record { cells = cs; rest = p.rest }))
    ≡ stripped s (record { cells = cs; rest = p.rest }) (is_colour s)) [ [] ↦ refl | c ∷ cs ↦ refl ]

strip-tag : (s : List ℕ) → is_colour s ≡ false → (p : TextLine) → strip_piece (with_tag s p)
    ≡ with_tag s (strip_piece p)
strip-tag s h p = strip-with s p ∙ ap (stripped s p) h
    ∙ elim p.cells as (λ cs. stripped s (record { cells = cs; rest = p.rest }) false
    ≡ with_tag s (strip_piece (record { cells = cs; rest = p.rest }))) [ [] ↦ refl | c ∷ cs ↦ refl ]

strip-colour : (s : List ℕ) → is_colour s ≡ true → (p : TextLine) → strip_piece (with_tag s p) ≡ strip_piece p
strip-colour s h p = strip-with s p ∙ ap (stripped s p) h
    ∙ elim p.cells as (λ cs. stripped s (record { cells = cs; rest = p.rest }) true
    ≡ strip_piece (record { cells = cs; rest = p.rest })) [ [] ↦ refl | c ∷ cs ↦ refl ]

on_first_same : {A B : Type 0} (f : A → B) (g : A → A) → ((x : A) → f (g x) ≡ f x) → (xs : List A)
    → map f (on_first g xs) ≡ map f xs
on_first_same f g e [] = refl
on_first_same f g e (x ∷ xs) = ap (λ y. y ∷ map f xs) (e x)

pub pieces-erased : (ts : List Token) → text_lines (erased ts) ≡ map strip_piece (text_lines ts)
pieces-erased [] = refl
pieces-erased (Character c ∷ ts) =
    elim (is_line_feed c) as (λ b. (if b then no_characters ∷ text_lines (erased ts)
    else on_first (with_code c) (text_lines (erased ts)))
    ≡ map strip_piece (if b then no_characters ∷ text_lines ts else on_first (with_code c) (text_lines ts))) [
      | true ↦ ap (λ ps. no_characters ∷ ps) (pieces-erased ts)
      | false ↦ ap (on_first (with_code c)) (pieces-erased ts)
          ∙ sym (map-on_first strip_piece (with_code c) (with_code c) (λ p. refl) (text_lines ts))
    ]
pieces-erased (Sequence s ∷ ts) =
    elim (is_colour s) as (λ b. is_colour s ≡ b → text_lines (if b then erased ts else Sequence s ∷ erased ts)
    ≡ map strip_piece (on_first (with_tag s) (text_lines ts))) [
      | true ↦ λ h. pieces-erased ts ∙ sym (on_first_same strip_piece (with_tag s) (strip-colour s h) (text_lines ts))
      | false ↦ λ h. ap (on_first (with_tag s)) (pieces-erased ts)
          ∙ sym (map-on_first strip_piece (with_tag s) (with_tag s) (strip-tag s h) (text_lines ts))
    ] refl

-- ---- words

-- what is mapped in front is mapped
onto-map : {A B : Type 0} (f : A → B) (x : A) (ps : List (List A)) → onto (f x) (map (map f) ps)
    ≡ map (map f) (onto x ps)
onto-map f x [] = refl
onto-map f x (p ∷ ps) = refl

ends_word-strip : (separator : WordSeparator) (before : List ℕ) (cs : List TaggedChar) →
    ends_word separator before (map strip cs) ≡ ends_word separator before cs
ends_word-strip separator before [] = refl
ends_word-strip separator before (c ∷ cs) = refl

pieces-strip : (separator : WordSeparator) (before : List ℕ) (cs : List TaggedChar) →
    pieces separator before (map strip cs) ≡ map (map strip) (pieces separator before cs)
pieces-strip separator before [] = refl
pieces-strip separator before (c ∷ cs) =
    ap₂ (λ (b : Bool) ps. if b then (strip c ∷ []) ∷ ps else onto (strip c) ps)
    (ends_word-strip separator (c.code ∷ before) cs) (pieces-strip separator (c.code ∷ before) cs)
    ∙ elim (ends_word separator (c.code ∷ before) cs) as (λ b.
    (if b then (strip c ∷ []) ∷ map (map strip) (pieces separator (c.code ∷ before) cs)
    else onto (strip c) (map (map strip) (pieces separator (c.code ∷ before) cs)))
    ≡ map (map strip) (if b then (c ∷ []) ∷ pieces separator (c.code ∷ before) cs
    else onto c (pieces separator (c.code ∷ before) cs))) [
      | true ↦ refl
      | false ↦ onto-map strip c (pieces separator (c.code ∷ before) cs)
    ]

nil-strip : (cs : List TaggedChar) → is_nil (map strip cs) ≡ is_nil cs
nil-strip [] = refl
nil-strip (c ∷ cs) = refl

in_front-strip : (c : TaggedChar) (w : Word) → in_front (strip c) (strip_word w) ≡ strip_word (in_front c w)
in_front-strip c w =
    ap (λ (b : Bool). if is_space c.code && b then record { letters = []; spaces = strip c ∷ map strip w.spaces }
    else record { letters = strip c ∷ map strip w.letters; spaces = map strip w.spaces }) (nil-strip w.letters)
    ∙ elim (is_space c.code && is_nil w.letters) as (λ b.
    (if b then record { letters = []; spaces = strip c ∷ map strip w.spaces }
    else record { letters = strip c ∷ map strip w.letters; spaces = map strip w.spaces })
    ≡ strip_word (if b then record { letters = []; spaces = c ∷ w.spaces }
    else record { letters = c ∷ w.letters; spaces = w.spaces })) [ true ↦ refl | false ↦ refl ]

word_of-strip : (cs : List TaggedChar) → word_of (map strip cs) ≡ strip_word (word_of cs)
word_of-strip [] = refl
word_of-strip (c ∷ cs) = ap (in_front (strip c)) (word_of-strip cs) ∙ in_front-strip c (word_of cs)

words_of-strip : (ps : List (List TaggedChar)) → map word_of (map (map strip) ps) ≡ map strip_word (map word_of ps)
words_of-strip [] = refl
words_of-strip (p ∷ ps) = ap₂ (λ w ws. w ∷ ws) (word_of-strip p) (words_of-strip ps)

pub words-strip : (separator : WordSeparator) (cs : List TaggedChar) → words separator (map strip cs)
    ≡ map strip_word (words separator cs)
words-strip separator cs = ap (map word_of) (pieces-strip separator [] cs) ∙ words_of-strip (pieces separator [] cs)

begins-strip : (cs : List TaggedChar) → begins_alphanumeric (map strip cs) ≡ begins_alphanumeric cs
begins-strip [] = refl
begins-strip (c ∷ cs) = refl

pub hyphen_parts-strip : (before : ℕ) (cs : List TaggedChar) → hyphen_parts before (map strip cs)
    ≡ map (map strip) (hyphen_parts before cs)
hyphen_parts-strip before [] = refl
hyphen_parts-strip before (c ∷ cs) =
    ap (λ v. if (c.code == 45) && is_alphanumeric before && v then (strip c ∷ []) ∷ hyphen_parts c.code (map strip cs)
    else onto (strip c) (hyphen_parts c.code (map strip cs))) (begins-strip cs)
    ∙ elim ((c.code == 45) && is_alphanumeric before && begins_alphanumeric cs) as
    (λ b. (if b then (strip c ∷ []) ∷ hyphen_parts c.code (map strip cs)
    else onto (strip c) (hyphen_parts c.code (map strip cs)))
    ≡ map (map strip) (if b then (c ∷ []) ∷ hyphen_parts c.code cs else onto c (hyphen_parts c.code cs))) [
      | true ↦ ap (λ ps. (strip c ∷ []) ∷ ps) (hyphen_parts-strip c.code cs)
      | false ↦ ap (onto (strip c)) (hyphen_parts-strip c.code cs) ∙ onto-map strip c (hyphen_parts c.code cs)
    ]

pub broken-strip : (room used : ℕ) (cs : List TaggedChar) → broken_parts room used (map strip cs)
    ≡ map (map strip) (broken_parts room used cs)
broken-strip room used [] = refl
broken-strip room used (c ∷ cs) =
    elim (nat_lt 0 used && nat_lt room (used + width c.code)) as
    (λ b. (if b then [] ∷ onto (strip c) (broken_parts room (width c.code) (map strip cs))
    else onto (strip c) (broken_parts room (used + width c.code) (map strip cs)))
    ≡ map (map strip) (if b then [] ∷ onto c (broken_parts room (width c.code) cs)
    else onto c (broken_parts room (used + width c.code) cs))) [
      | true ↦ ap (λ ps. [] ∷ onto (strip c) ps) (broken-strip room (width c.code) cs)
          ∙ ap (λ ps. [] ∷ ps) (onto-map strip c (broken_parts room (width c.code) cs))
      | false ↦ ap (onto (strip c)) (broken-strip room (used + width c.code) cs)
          ∙ onto-map strip c (broken_parts room (used + width c.code) cs)
    ]

pub with_spaces-strip : (spaces : List TaggedChar) (ps : List (List TaggedChar))
    → with_spaces (map strip spaces) (map (map strip) ps) ≡ map strip_word (with_spaces spaces ps)
with_spaces-strip spaces [] = refl
with_spaces-strip spaces (p ∷ []) = refl
with_spaces-strip spaces (p ∷ q ∷ qs) = ap (λ ws. record { letters = map strip p; spaces = [] } ∷ ws)
    (with_spaces-strip spaces (q ∷ qs))

pub flat_map_along : {X Y A B : Type 0} (h : X → Y) (k : A → B) (f : X → List A) (g : Y → List B)
    → ((x : X) → g (h x) ≡ map k (f x)) → (xs : List X) → flat_map g (map h xs) ≡ map k (flat_map f xs)
flat_map_along h k f g e [] = refl
flat_map_along h k f g e (x ∷ xs) = ap₂ (λ us vs. us ++ vs) (e x) (flat_map_along h k f g e xs)
    ∙ sym (map-append k (f x) (flat_map f xs))

-- ---- rows

narrowed-strip : (cuts : Cuts) (cs : List TaggedChar) → narrow_parts cuts (map strip cs)
    ≡ map (map strip) (narrow_parts cuts cs)
narrowed-strip cuts cs = elim cuts.break_words as (λ b. (if b then broken_parts cuts.narrow 0 (map strip cs)
    else map strip cs ∷ []) ≡ map (map strip) (if b then broken_parts cuts.narrow 0 cs else cs ∷ [])) [
      | true ↦ broken-strip cuts.narrow 0 cs
      | false ↦ refl
    ]

hyphenated-strip : (cuts : Cuts) (cs : List TaggedChar) → hyphenated_parts cuts (map strip cs)
    ≡ map (map strip) (hyphenated_parts cuts cs)
hyphenated-strip cuts cs = elim cuts.split_hyphens as (λ b. (if b then hyphen_parts 0 (map strip cs) else map strip cs
    ∷ [])
    ≡ map (map strip) (if b then hyphen_parts 0 cs else cs ∷ [])) [
      | true ↦ hyphen_parts-strip 0 cs
      | false ↦ refl
    ]

parts-strip : (cuts : Cuts) (w : Word) → parts cuts (strip_word w) ≡ map strip_word (parts cuts w)
parts-strip cuts w =
    ap (λ ps. with_spaces (map strip w.spaces) (flat_map (narrow_parts cuts) ps)) (hyphenated-strip cuts w.letters)
    ∙ ap (with_spaces (map strip w.spaces)) (flat_map_along (map strip) (map strip) (narrow_parts cuts)
    (narrow_parts cuts) (narrowed-strip cuts) (hyphenated_parts cuts w.letters))
    ∙ with_spaces-strip w.spaces (flat_map (narrow_parts cuts) (hyphenated_parts cuts w.letters))

cut_words-strip : (cuts : Cuts) (cs : List TaggedChar) → cut_words cuts (map strip cs)
    ≡ map strip_word (cut_words cuts cs)
cut_words-strip cuts cs =
    ap (flat_map (parts cuts)) (words-strip cuts.separator cs)
    ∙ flat_map_along strip_word strip_word (parts cuts) (parts cuts) (parts-strip cuts) (words cuts.separator cs)

word_cells-strip : (w : Word) → word_cells (strip_word w) ≡ map strip (word_cells w)
word_cells-strip w = sym (map-append strip w.letters w.spaces)

wide-strip : (w : Word) → columns (word_cells (strip_word w)) ≡ columns (word_cells w)
wide-strip w = ap columns (word_cells-strip w) ∙ columns-strip (word_cells w)

rows_after-strip : (used room further : ℕ) (ws : List Word) → rows_after used room further (map strip_word ws)
    ≡ map (map strip_word) (rows_after used room further ws)
rows_after-strip used room further [] = refl
rows_after-strip used room further (w ∷ ws) =
    ap₂ (λ m n. if nat_lt room (used + m) then [] ∷ onto (strip_word w)
    (rows_after n further further (map strip_word ws))
    else onto (strip_word w) (rows_after (used + n) room further (map strip_word ws))) (columns-strip w.letters)
    (wide-strip w)
    ∙ elim (nat_lt room (used + columns w.letters)) as (λ b.
    (if b then [] ∷ onto (strip_word w) (rows_after (columns (word_cells w)) further further (map strip_word ws))
    else onto (strip_word w) (rows_after (used + columns (word_cells w)) room further (map strip_word ws)))
    ≡ map (map strip_word) (if b then [] ∷ onto w (rows_after (columns (word_cells w)) further further ws)
    else onto w (rows_after (used + columns (word_cells w)) room further ws))) [
      | true ↦ ap (λ rs. [] ∷ onto (strip_word w) rs) (rows_after-strip (columns (word_cells w)) further further ws)
          ∙ ap (λ rs. [] ∷ rs) (onto-map strip_word w (rows_after (columns (word_cells w)) further further ws))
      | false ↦ ap (onto (strip_word w)) (rows_after-strip (used + columns (word_cells w)) room further ws)
          ∙ onto-map strip_word w (rows_after (used + columns (word_cells w)) room further ws)
    ]

pub rows-strip : (room further : ℕ) (ws : List Word) → rows room further (map strip_word ws)
    ≡ map (map strip_word) (rows room further ws)
rows-strip room further [] = refl
rows-strip room further (w ∷ ws) =
    ap (λ n. onto (strip_word w) (rows_after n room further (map strip_word ws))) (wide-strip w)
    ∙ ap (onto (strip_word w)) (rows_after-strip (columns (word_cells w)) room further ws)
    ∙ onto-map strip_word w (rows_after (columns (word_cells w)) room further ws)

-- ---- what rows print

only_spaces-erased : (ts : List Token) → only_spaces (erased ts) ≡ only_spaces ts
only_spaces-erased [] = refl
only_spaces-erased (Character c ∷ ts) = ap (λ b. is_space c && b) (only_spaces-erased ts)
only_spaces-erased (Sequence s ∷ ts) = elim (is_colour s) as
    (λ b. only_spaces (if b then erased ts else Sequence s ∷ erased ts) ≡ only_spaces ts)
    [ true ↦ only_spaces-erased ts | false ↦ only_spaces-erased ts ]

pub trimmed-erased : (ts : List Token) → trimmed_row (erased ts) ≡ erased (trimmed_row ts)
trimmed-erased [] = refl
trimmed-erased (Character c ∷ ts) =
    ap (λ v. if is_space c && v then trimmed_row (erased ts) else Character c ∷ trimmed_row (erased ts))
    (only_spaces-erased ts)
    ∙ elim (is_space c && only_spaces ts) as (λ b. (if b then trimmed_row (erased ts) else Character c
    ∷ trimmed_row (erased ts)) ≡ erased (if b then trimmed_row ts else Character c ∷ trimmed_row ts)) [
      | true ↦ trimmed-erased ts
      | false ↦ ap (λ us. Character c ∷ us) (trimmed-erased ts)
    ]
trimmed-erased (Sequence s ∷ ts) = elim (is_colour s) as
    (λ b. trimmed_row (if b then erased ts else Sequence s ∷ erased ts)
    ≡ (if b then erased (trimmed_row ts) else Sequence s ∷ erased (trimmed_row ts))) [
      | true ↦ trimmed-erased ts
      | false ↦ ap (λ us. Sequence s ∷ us) (trimmed-erased ts)
    ]

pub tokens_of_words-strip : (ws : List Word) → tokens_of_words (map strip_word ws) ≡ erased (tokens_of_words ws)
tokens_of_words-strip ws =
    ap (λ cs. trimmed_row (flat_map cell_tokens cs)) (flat_map_along strip_word strip word_cells word_cells
    word_cells-strip ws)
    ∙ ap trimmed_row (sym (erased-cells (flat_map word_cells ws)))
    ∙ trimmed-erased (flat_map cell_tokens (flat_map word_cells ws))

map_along : {A B C D : Type 0} (h : A → B) (f : B → D) (g : A → C) (k : C → D) → ((x : A) → f (h x) ≡ k (g x))
    → (xs : List A) → map f (map h xs) ≡ map k (map g xs)
map_along h f g k e [] = refl
map_along h f g k e (x ∷ xs) = ap₂ (λ y ys. y ∷ ys) (e x) (map_along h f g k e xs)

with_rest-erased : (rest : List (List ℕ)) (rs : List (List Token)) → with_rest (kept rest) (map erased rs)
    ≡ map erased (with_rest rest rs)
with_rest-erased rest [] = refl
with_rest-erased rest (r ∷ []) = ap (λ us. us ∷ []) (ap (λ us. erased r ++ us) (sym (erased-tags rest))
    ∙ sym (erased-append r (map Sequence rest)))
with_rest-erased rest (r ∷ s ∷ rs) = ap (λ us. erased r ∷ us) (with_rest-erased rest (s ∷ rs))

piece_rows-strip : (cuts : Cuts) (room further : ℕ) (p : TextLine) → text_line_rows cuts room further (strip_piece p)
    ≡ map erased (text_line_rows cuts room further p)
piece_rows-strip cuts room further p =
    ap (λ ws. with_rest (kept p.rest) (map tokens_of_words (rows room further ws))) (cut_words-strip cuts p.cells)
    ∙ ap (λ rs. with_rest (kept p.rest) (map tokens_of_words rs)) (rows-strip room further (cut_words cuts p.cells))
    ∙ ap (with_rest (kept p.rest)) (map_along (map strip_word) tokens_of_words tokens_of_words erased
    tokens_of_words-strip
    (rows room further (cut_words cuts p.cells)))
    ∙ with_rest-erased p.rest (map tokens_of_words (rows room further (cut_words cuts p.cells)))

text_rows-strip : (cuts : Cuts) (room further : ℕ) (ps : List TextLine)
    → text_rows cuts room further (map strip_piece ps) ≡ map erased (text_rows cuts room further ps)
text_rows-strip cuts room further [] = refl
text_rows-strip cuts room further (p ∷ ps) =
    ap₂ (λ us vs. us ++ vs) (piece_rows-strip cuts room further p) (text_rows-strip cuts further further ps)
    ∙ sym (map-append erased (text_line_rows cuts room further p) (text_rows cuts further further ps))

erased-append_feed : (us vs ws : List Token) → erased (us ++ vs ++ line_feed ∷ ws) ≡ erased us ++ erased vs ++ line_feed
    ∷ erased ws
erased-append_feed us vs ws = erased-append (us ++ vs) (line_feed ∷ ws)
    ∙ ap (λ ts. ts ++ line_feed ∷ erased ws) (erased-append us vs)

pub joined-erased : (indent further : List Token) (rs : List (List Token))
    → joined_rows (erased indent) (erased further) (map erased rs) ≡ erased (joined_rows indent further rs)
joined-erased indent further [] = refl
joined-erased indent further (r ∷ []) = sym (erased-append indent r)
joined-erased indent further (r ∷ s ∷ rs) =
    ap (λ ts. erased indent ++ erased r ++ line_feed ∷ ts) (joined-erased further further (s ∷ rs))
    ∙ sym (erased-append_feed indent r (joined_rows further further (s ∷ rs)))

-- ---- without wrapping

all_white-strip : (cs : List TaggedChar) → all_white (map strip cs) ≡ all_white cs
all_white-strip [] = refl
all_white-strip (c ∷ cs) = ap (λ b. is_whitespace c.code && b) (all_white-strip cs)

piece_tokens-strip : (p : TextLine) → text_line_tokens (strip_piece p) ≡ erased (text_line_tokens p)
piece_tokens-strip p = ap₂ (λ us vs. us ++ vs) (sym (erased-cells p.cells)) (sym (erased-tags p.rest))
    ∙ sym (erased-append (flat_map cell_tokens p.cells) (map Sequence p.rest))

indented-strip : (indent : List Token) (p : TextLine) → indented_row (erased indent) (strip_piece p)
    ≡ erased (indented_row indent p)
indented-strip indent p =
    ap₂ (λ (b : Bool) ts. (if b then trimmed_row (erased indent) else erased indent) ++ ts) (all_white-strip p.cells)
    (piece_tokens-strip p)
    ∙ elim (all_white p.cells) as (λ b. (if b then trimmed_row (erased indent) else erased indent)
    ++ erased (text_line_tokens p) ≡ erased ((if b then trimmed_row indent else indent) ++ text_line_tokens p)) [
      | true ↦ ap (λ ts. ts ++ erased (text_line_tokens p)) (trimmed-erased indent)
          ∙ sym (erased-append (trimmed_row indent) (text_line_tokens p))
      | false ↦ sym (erased-append indent (text_line_tokens p))
    ]

last_indented-strip : (indent : List Token) (p : TextLine) → last_indented (erased indent) (strip_piece p)
    ≡ erased (last_indented indent p)
last_indented-strip indent p = elim p.cells as (λ cs. last_indented (erased indent)
    (strip_piece (record { cells = cs; rest = p.rest }))
    ≡ erased (last_indented indent (record { cells = cs; rest = p.rest }))) [
      | [] ↦ sym (erased-tags p.rest)
      | c ∷ cs ↦ indented-strip indent (record { cells = c ∷ cs; rest = p.rest })
    ]

pub whole_pieces-strip : (indent further : List Token) (ps : List TextLine)
    → whole_lines (erased indent) (erased further) (map strip_piece ps) ≡ erased (whole_lines indent further ps)
whole_pieces-strip indent further [] = refl
whole_pieces-strip indent further (p ∷ []) = last_indented-strip indent p
whole_pieces-strip indent further (p ∷ q ∷ ps) =
    ap₂ (λ us vs. us ++ line_feed ∷ vs) (indented-strip indent p) (whole_pieces-strip further further (q ∷ ps))
    ∙ sym (erased-append (indented_row indent p) (line_feed ∷ whole_lines further further (q ∷ ps)))

-- ---- all of it

filled-erased : (p : WrapPlan (List Token)) (ts : List Token) → filled_text (map_indents erased p) (erased ts)
    ≡ erased (filled_text p ts)
filled-erased p ts =
    ap₂ (λ m n. joined_rows (erased p.first) (erased p.further)
    (text_rows (record {
      separator = p.separator;
      split_hyphens = p.split_hyphens;
      break_words = p.break_words;
      narrow = min (p.room - m)
          (p.room - n);
    })
    (p.room - m) (p.room - n) (text_lines (erased ts)))) (printed_columns-erased p.first)
    (printed_columns-erased p.further)
    ∙ ap (λ ps. joined_rows (erased p.first) (erased p.further)
    (text_rows (cuts_of p) (first_room p) (further_room p) ps)) (pieces-erased ts)
    ∙ ap (joined_rows (erased p.first) (erased p.further))
    (text_rows-strip (cuts_of p) (first_room p) (further_room p) (text_lines ts))
    ∙ joined-erased p.first p.further (text_rows (cuts_of p) (first_room p) (further_room p) (text_lines ts))

whole-erased : (p : WrapPlan (List Token)) (ts : List Token)
    → whole_lines (erased p.first) (erased p.further) (text_lines (erased ts))
    ≡ erased (whole_lines p.first p.further (text_lines ts))
whole-erased p ts = ap (whole_lines (erased p.first) (erased p.further)) (pieces-erased ts)
    ∙ whole_pieces-strip p.first p.further (text_lines ts)

pub wrapped-erased : (p : WrapPlan (List Token)) (ts : List Token) → wrapped_tokens (map_indents erased p) (erased ts)
    ≡ erased (wrapped_tokens p ts)
wrapped-erased p ts = elim p.wrap_lines as (λ b. (if b then filled_text (map_indents erased p) (erased ts)
    else whole_lines (erased p.first) (erased p.further) (text_lines (erased ts)))
    ≡ erased (if b then filled_text p ts else whole_lines p.first p.further (text_lines ts))) [
      | true ↦ filled-erased p ts
      | false ↦ whole-erased p ts
    ]
