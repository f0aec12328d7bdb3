-- Cutting a line into words and these into parts loses nothing.
use Rattle.std.proofs.Common.{◌≡◌, ℕ, ◌+◌, true, false, ◌&&◌, ◌==◌, nat_lt, List, [], ◌∷◌, ◌++◌, map}
use Rattle.std.proofs.Common.{flat_map, refl, sym, ap, ap₂, ◌∙◌, append_assoc, append-nil}
use Rattle.std.proofs.Common.{if◌then◌else◌}
use Rattle.std.proofs.lemmas.List.Concat.{flat_map-append}
use Rattle.miette_lines.specs.rules.Lists.{is_nil, onto}
use Rattle.miette_text.specs.rules.Wrapping.{Word, Cuts}
use Rattle.miette_text.specs.rules.Wrapping.{is_space, words, pieces, word_of}
use Rattle.miette_text.specs.rules.Wrapping.{is_alphanumeric, begins_alphanumeric, hyphen_parts, broken_parts}
use Rattle.miette_text.specs.rules.Wrapping.{ends_word, in_front}
use Rattle.miette_text.specs.declared.options.WordSeparator.{WordSeparator}
use Rattle.miette_text.specs.rules.Wrapping.{with_spaces, hyphenated_parts}
use Rattle.miette_text.specs.rules.Wrapping.{narrow_parts, parts, cut_words, word_cells}
use Rattle.miette_runs.specs.rules.Cells.{TaggedChar, width}

abbrev pub flat : {A : Type 0} → List (List A) → List A
flat [] = []
flat (x ∷ xs) = x ++ flat xs

pub flat-append : {A : Type 0} (xs ys : List (List A)) → flat (xs ++ ys) ≡ flat xs ++ flat ys
flat-append [] ys = refl
flat-append (x ∷ xs) ys = ap (λ zs. x ++ zs) (flat-append xs ys) ∙ sym (append_assoc x (flat xs) (flat ys))

flat-onto : {A : Type 0} (x : A) (ps : List (List A)) → flat (onto x ps) ≡ x ∷ flat ps
flat-onto x [] = refl
flat-onto x (p ∷ ps) = refl

pub onto_some : {A : Type 0} (x : A) (ps : List (List A)) → is_nil (onto x ps) ≡ false
onto_some x [] = refl
onto_some x (p ∷ ps) = refl

pieces-flat : (separator : WordSeparator) (before : List ℕ) (cs : List TaggedChar) → flat (pieces separator before cs)
    ≡ cs
pieces-flat separator before [] = refl
pieces-flat separator before (c ∷ cs) = elim (ends_word separator (c.code ∷ before) cs) as (λ b. flat
    (if b then (c ∷ []) ∷ pieces separator (c.code ∷ before) cs else onto c (pieces separator (c.code ∷ before) cs))
    ≡ c ∷ cs) [
      | true ↦ ap (λ xs. c ∷ xs) (pieces-flat separator (c.code ∷ before) cs)
      | false ↦ flat-onto c (pieces separator (c.code ∷ before) cs)
          ∙ ap (λ xs. c ∷ xs) (pieces-flat separator (c.code ∷ before) cs)
    ]

in_front-cells : (c : TaggedChar) (w : Word) → word_cells (in_front c w) ≡ c ∷ word_cells w
in_front-cells c w = elim w.letters as (λ ls. word_cells (if is_space c.code && is_nil ls
    then record { letters = []; spaces = c ∷ w.spaces } else record { letters = c ∷ ls; spaces = w.spaces })
    ≡ c ∷ (ls ++ w.spaces)) [
      | [] ↦ elim (is_space c.code) as (λ b. word_cells (if b && true
          then record { letters = []; spaces = c ∷ w.spaces } else record { letters = c ∷ []; spaces = w.spaces })
          ≡ c ∷ w.spaces) [ true ↦ refl | false ↦ refl ]
      | l ∷ ls ↦ elim (is_space c.code) as (λ b. word_cells (if b && false
          then record { letters = []; spaces = c ∷ w.spaces } else record { letters = c ∷ l ∷ ls; spaces = w.spaces })
          ≡ c ∷ ((l ∷ ls) ++ w.spaces)) [ true ↦ refl | false ↦ refl ]
    ]

word-cells : (cs : List TaggedChar) → word_cells (word_of cs) ≡ cs
word-cells [] = refl
word-cells (c ∷ cs) = in_front-cells c (word_of cs) ∙ ap (λ xs. c ∷ xs) (word-cells cs)

words_of-flat : (ps : List (List TaggedChar)) → flat_map word_cells (map word_of ps) ≡ flat ps
words_of-flat [] = refl
words_of-flat (p ∷ ps) = ap₂ (λ us vs. us ++ vs) (word-cells p) (words_of-flat ps)

pub words-flat : (separator : WordSeparator) (cs : List TaggedChar) → flat_map word_cells (words separator cs) ≡ cs
words-flat separator cs = words_of-flat (pieces separator [] cs) ∙ pieces-flat separator [] cs

pub hyphen_parts-flat : (before : ℕ) (cs : List TaggedChar) → flat (hyphen_parts before cs) ≡ cs
hyphen_parts-flat before [] = refl
hyphen_parts-flat before (c ∷ cs) =
    elim ((c.code == 45) && is_alphanumeric before && begins_alphanumeric cs) as
    (λ b. flat (if b then (c ∷ []) ∷ hyphen_parts c.code cs else onto c (hyphen_parts c.code cs)) ≡ c ∷ cs) [
      | true ↦ ap (λ xs. c ∷ xs) (hyphen_parts-flat c.code cs)
      | false ↦ flat-onto c (hyphen_parts c.code cs) ∙ ap (λ xs. c ∷ xs) (hyphen_parts-flat c.code cs)
    ]

pub broken-flat : (room used : ℕ) (cs : List TaggedChar) → flat (broken_parts room used cs) ≡ cs
broken-flat room used [] = refl
broken-flat room used (c ∷ cs) =
    elim (nat_lt 0 used && nat_lt room (used + width c.code)) as
    (λ b. flat (if b then [] ∷ onto c (broken_parts room (width c.code) cs)
    else onto c (broken_parts room (used + width c.code) cs)) ≡ c ∷ cs) [
      | true ↦ flat-onto c (broken_parts room (width c.code) cs)
          ∙ ap (λ xs. c ∷ xs) (broken-flat room (width c.code) cs)
      | false ↦ flat-onto c (broken_parts room (used + width c.code) cs)
          ∙ ap (λ xs. c ∷ xs) (broken-flat room (used + width c.code) cs)
    ]

pub with_spaces-flat : (spaces : List TaggedChar) (ps : List (List TaggedChar))
    → flat_map word_cells (with_spaces spaces ps)
    ≡ flat ps ++ spaces
with_spaces-flat spaces [] = append-nil spaces
with_spaces-flat spaces (p ∷ []) = append-nil (p ++ spaces) ∙ ap (λ xs. xs ++ spaces) (sym (append-nil p))
with_spaces-flat spaces (p ∷ q ∷ qs) = ap₂ (λ us vs. us ++ vs) (append-nil p) (with_spaces-flat spaces (q ∷ qs))
    ∙ sym (append_assoc p (flat (q ∷ qs)) spaces)

narrowed-flat : (cuts : Cuts) (cs : List TaggedChar) → flat (narrow_parts cuts cs) ≡ cs
narrowed-flat cuts cs = elim cuts.break_words as (λ b. flat (if b then broken_parts cuts.narrow 0 cs else cs ∷ []) ≡ cs) [
  | true ↦ broken-flat cuts.narrow 0 cs
  | false ↦ append-nil cs
]

hyphenated-flat : (cuts : Cuts) (cs : List TaggedChar) → flat (hyphenated_parts cuts cs) ≡ cs
hyphenated-flat cuts cs = elim cuts.split_hyphens as (λ b. flat (if b then hyphen_parts 0 cs else cs ∷ []) ≡ cs) [
  | true ↦ hyphen_parts-flat 0 cs
  | false ↦ append-nil cs
]

flat-narrowed : (cuts : Cuts) (ps : List (List TaggedChar)) → flat (flat_map (narrow_parts cuts) ps) ≡ flat ps
flat-narrowed cuts [] = refl
flat-narrowed cuts (p ∷ ps) = flat-append (narrow_parts cuts p) (flat_map (narrow_parts cuts) ps)
    ∙ ap₂ (λ us vs. us ++ vs) (narrowed-flat cuts p) (flat-narrowed cuts ps)

parts-flat : (cuts : Cuts) (w : Word) → flat_map word_cells (parts cuts w) ≡ word_cells w
parts-flat cuts w =
    with_spaces-flat w.spaces (flat_map (narrow_parts cuts) (hyphenated_parts cuts w.letters))
    ∙ ap (λ xs. xs ++ w.spaces) (flat-narrowed cuts (hyphenated_parts cuts w.letters) ∙ hyphenated-flat cuts w.letters)

all_parts-flat : (cuts : Cuts) (ws : List Word) → flat_map word_cells (flat_map (parts cuts) ws)
    ≡ flat_map word_cells ws
all_parts-flat cuts [] = refl
all_parts-flat cuts (w ∷ ws) = flat_map-append word_cells (parts cuts w) (flat_map (parts cuts) ws)
    ∙ ap₂ (λ us vs. us ++ vs) (parts-flat cuts w) (all_parts-flat cuts ws)

pub cut_words-flat : (cuts : Cuts) (cs : List TaggedChar) → flat_map word_cells (cut_words cuts cs) ≡ cs
cut_words-flat cuts cs = all_parts-flat cuts (words cuts.separator cs) ∙ words-flat cuts.separator cs
