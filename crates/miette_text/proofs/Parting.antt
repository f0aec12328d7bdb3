-- The parts of words, one by one from the front.
use Rattle.std.proofs.Common.{◌≡◌, ℕ, zero, suc, ◌+◌, ◌<◌, Bool, true, false, ◌&&◌, ◌==◌, nat_lt, List, [], ◌∷◌, ◌++◌}
use Rattle.std.proofs.Common.{flat_map, length, take, drop, refl, sym, ap, ap₂, ◌∙◌, if◌then◌else◌, arith, drop-drop}
use Rattle.std.proofs.Common.{zero-add, eqb-true}
use Rattle.std.proofs.lemmas.Bool.Decides.{nat_tests}
use Rattle.std.proofs.lemmas.List.{drop-map}
use Rattle.miette_text.specs.rules.Wrapping.{Word, is_space, is_alphanumeric, begins_alphanumeric, hyphen_parts}
use Rattle.miette_text.specs.rules.Wrapping.{broken_parts, with_spaces, Cuts, narrow_parts, parts}
use Rattle.miette_runs.specs.rules.Cells.{TaggedChar, width}
use Rattle.miette_text.specs.steps.Ends.{codes_of, begins_word, part_len, gap_len, code_after, hyphenated_after}
use Rattle.miette_text.specs.steps.Ends.{spaced_words, words_after}
use Rattle.miette_text.proofs.Ending.{letters_len, spaces_len, until_len, words-first}
use Rattle.miette_lines.specs.rules.Lists.{onto}

-- ---- cuts at hyphens, and where a part is too wide, in one recursion

abbrev is_cut : Bool → ℕ → TaggedChar → List TaggedChar → Bool
is_cut h before c cs = h && ((c.code == 45) && is_alphanumeric before && begins_alphanumeric cs)

abbrev wide : Bool → ℕ → ℕ → TaggedChar → Bool
wide b room used c = b && (nat_lt 0 used && nat_lt room (used + width c.code))

abbrev hyphened : Bool → ℕ → List TaggedChar → List (List TaggedChar)
hyphened h before [] = [] ∷ []
hyphened h before (c ∷ cs) = if is_cut h before c cs then (c ∷ []) ∷ hyphened h c.code cs
    else onto c (hyphened h c.code cs)

hyphened-is : (h : Bool) (before : ℕ) (cs : List TaggedChar) → (if h then hyphen_parts before cs else cs ∷ [])
    ≡ hyphened h before cs
hyphened-is true before [] = refl
hyphened-is true before (c ∷ cs) = ap (λ ps. if is_cut true before c cs then (c ∷ []) ∷ ps else onto c ps)
    (hyphened-is true c.code cs)
hyphened-is false before [] = refl
hyphened-is false before (c ∷ cs) = ap (onto c) (hyphened-is false c.code cs)

abbrev narrowed_at : Bool → ℕ → ℕ → List TaggedChar → List (List TaggedChar)
narrowed_at b room used [] = [] ∷ []
narrowed_at b room used (c ∷ cs) = if wide b room used c then [] ∷ onto c (narrowed_at b room (width c.code) cs)
    else onto c (narrowed_at b room (used + width c.code) cs)

narrowed_at-true : (room used : ℕ) (cs : List TaggedChar) → broken_parts room used cs ≡ narrowed_at true room used cs
narrowed_at-true room used [] = refl
narrowed_at-true room used (c ∷ cs) = ap₂ (λ ps qs. if wide true room used c then [] ∷ onto c ps else onto c qs)
    (narrowed_at-true room (width c.code) cs) (narrowed_at-true room (used + width c.code) cs)

narrowed_at-false : (room used : ℕ) (cs : List TaggedChar) → cs ∷ [] ≡ narrowed_at false room used cs
narrowed_at-false room used [] = refl
narrowed_at-false room used (c ∷ cs) = ap (onto c) (narrowed_at-false room (used + width c.code) cs)

narrowed_at-is : (b : Bool) (room : ℕ) (cs : List TaggedChar) → (if b then broken_parts room 0 cs else cs ∷ [])
    ≡ narrowed_at b room 0 cs
narrowed_at-is true room cs = narrowed_at-true room 0 cs
narrowed_at-is false room cs = narrowed_at-false room 0 cs

-- the parts of what is left of a word
abbrev pub letter_parts : Cuts → ℕ → ℕ → List TaggedChar → List (List TaggedChar)
letter_parts cuts before used [] = [] ∷ []
letter_parts cuts before used (c ∷ cs) =
    if wide cuts.break_words cuts.narrow used c then [] ∷ (if is_cut cuts.split_hyphens before c cs then (c ∷ [])
    ∷ letter_parts cuts c.code 0 cs else onto c (letter_parts cuts c.code (width c.code) cs))
    else (if is_cut cuts.split_hyphens before c cs then (c ∷ []) ∷ letter_parts cuts c.code 0 cs
    else onto c (letter_parts cuts c.code (used + width c.code) cs))

-- the first is in use already
abbrev all_narrowed : Cuts → ℕ → List (List TaggedChar) → List (List TaggedChar)
all_narrowed cuts used [] = []
all_narrowed cuts used (p ∷ ps) = narrowed_at cuts.break_words cuts.narrow used p ++ flat_map (narrow_parts cuts) ps

all_narrowed-none : (cuts : Cuts) (ps : List (List TaggedChar)) → flat_map (narrow_parts cuts) ps
    ≡ all_narrowed cuts 0 ps
all_narrowed-none cuts [] = refl
all_narrowed-none cuts (p ∷ ps) = ap (λ us. us ++ flat_map (narrow_parts cuts) ps)
    (narrowed_at-is cuts.break_words cuts.narrow p)

pub onto-some : {A : Type 0} (x : A) (ps : List (List A)) → 0 < length (onto x ps)
onto-some x [] = omega arith
onto-some x (p ∷ ps) = omega arith

narrowed_at-some : (b : Bool) (room used : ℕ) (cs : List TaggedChar) → 0 < length (narrowed_at b room used cs)
narrowed_at-some b room used [] = omega arith
narrowed_at-some b room used (c ∷ cs) = elim (wide b room used c) as
    (λ v. 0 < length (if v then [] ∷ onto c (narrowed_at b room (width c.code) cs)
    else onto c (narrowed_at b room (used + width c.code) cs))) [
      | true ↦ omega arith
      | false ↦ onto-some c (narrowed_at b room (used + width c.code) cs)
    ]

hyphened-some : (h : Bool) (before : ℕ) (cs : List TaggedChar) → 0 < length (hyphened h before cs)
hyphened-some h before [] = omega arith
hyphened-some h before (c ∷ cs) = elim (is_cut h before c cs) as
    (λ v. 0 < length (if v then (c ∷ []) ∷ hyphened h c.code cs else onto c (hyphened h c.code cs))) [
      | true ↦ omega arith
      | false ↦ onto-some c (hyphened h c.code cs)
    ]

pub parts-some : (cuts : Cuts) (before used : ℕ) (cs : List TaggedChar) → 0 < length (letter_parts cuts before used cs)
parts-some cuts before used [] = omega arith
parts-some cuts before used (c ∷ cs) = elim (wide cuts.break_words cuts.narrow used c) as
    (λ v. 0 < length (if v then [] ∷ (if is_cut cuts.split_hyphens before c cs then (c ∷ [])
    ∷ letter_parts cuts c.code 0 cs
    else onto c (letter_parts cuts c.code (width c.code) cs))
    else (if is_cut cuts.split_hyphens before c cs then (c ∷ []) ∷ letter_parts cuts c.code 0 cs
    else onto c (letter_parts cuts c.code (used + width c.code) cs)))) [
      | true ↦ omega arith
      | false ↦ elim (is_cut cuts.split_hyphens before c cs) as (λ v. 0
          < length (if v then (c ∷ []) ∷ letter_parts cuts c.code 0 cs
          else onto c (letter_parts cuts c.code (used + width c.code) cs))) [
            | true ↦ omega arith
            | false ↦ onto-some c (letter_parts cuts c.code (used + width c.code) cs)
          ]
    ]

onto-append : {A : Type 0} (x : A) (ps qs : List (List A)) → 0 < length ps → onto x ps ++ qs ≡ onto x (ps ++ qs)
onto-append x [] qs h = absurd (omega arith)
onto-append x (p ∷ ps) qs h = refl

all_narrowed-onto : (cuts : Cuts) (used : ℕ) (c : TaggedChar) (ps : List (List TaggedChar)) → 0 < length ps →
    all_narrowed cuts used (onto c ps) ≡ (if wide cuts.break_words cuts.narrow used c then []
    ∷ onto c (all_narrowed cuts (width c.code) ps) else onto c (all_narrowed cuts (used + width c.code) ps))
all_narrowed-onto cuts used c [] h = absurd (omega arith)
all_narrowed-onto cuts used c (p ∷ ps) h =
    let more = flat_map (narrow_parts cuts) ps in
    elim (wide cuts.break_words cuts.narrow used c) as (λ v. (if v then []
    ∷ onto c (narrowed_at cuts.break_words cuts.narrow (width c.code) p)
    else onto c (narrowed_at cuts.break_words cuts.narrow (used + width c.code) p)) ++ more
    ≡ (if v then [] ∷ onto c (narrowed_at cuts.break_words cuts.narrow (width c.code) p ++ more)
    else onto c (narrowed_at cuts.break_words cuts.narrow (used + width c.code) p ++ more))) [
      | true ↦ ap (λ (us : List (List TaggedChar)). [] ∷ us) (onto-append c
          (narrowed_at cuts.break_words cuts.narrow (width c.code) p) more
          (narrowed_at-some cuts.break_words cuts.narrow (width c.code) p))
      | false ↦ onto-append c (narrowed_at cuts.break_words cuts.narrow (used + width c.code) p) more
          (narrowed_at-some cuts.break_words cuts.narrow (used + width c.code) p)
    ]

parts-are : (cuts : Cuts) (before used : ℕ) (cs : List TaggedChar) → all_narrowed cuts used
    (hyphened cuts.split_hyphens before cs)
    ≡ letter_parts cuts before used cs
parts-are cuts before used [] = refl
parts-are cuts before used (c ∷ cs) =
    elim (is_cut cuts.split_hyphens before c cs) as (λ v. all_narrowed cuts used
    (if v then (c ∷ []) ∷ hyphened cuts.split_hyphens c.code cs else onto c (hyphened cuts.split_hyphens c.code cs))
    ≡ (if wide cuts.break_words cuts.narrow used c then [] ∷ (if v then (c ∷ []) ∷ letter_parts cuts c.code 0 cs
    else onto c (letter_parts cuts c.code (width c.code) cs))
    else (if v then (c ∷ []) ∷ letter_parts cuts c.code 0 cs
    else onto c (letter_parts cuts c.code (used + width c.code) cs)))) [
      | true ↦
          (let t : flat_map (narrow_parts cuts) (hyphened cuts.split_hyphens c.code cs) ≡ letter_parts cuts c.code 0 cs
          =
          all_narrowed-none cuts (hyphened cuts.split_hyphens c.code cs) ∙ parts-are cuts c.code 0 cs in
          ap (λ us. narrowed_at cuts.break_words cuts.narrow used (c ∷ []) ++ us) t
          ∙ elim (wide cuts.break_words cuts.narrow used c) as (λ v. (if v then [] ∷ (c ∷ []) ∷ [] else (c ∷ []) ∷ [])
          ++ letter_parts cuts c.code 0 cs ≡ (if v then [] ∷ (c ∷ []) ∷ letter_parts cuts c.code 0 cs else (c ∷ [])
          ∷ letter_parts cuts c.code 0 cs)) [ true ↦ refl | false ↦ refl ])
      | false ↦
          all_narrowed-onto cuts used c (hyphened cuts.split_hyphens c.code cs)
          (hyphened-some cuts.split_hyphens c.code cs)
          ∙ ap₂ (λ us vs. if wide cuts.break_words cuts.narrow used c then [] ∷ onto c us else onto c vs)
          (parts-are cuts c.code (width c.code) cs) (parts-are cuts c.code (used + width c.code) cs)
    ]

pub word-parts : (cuts : Cuts) (before : ℕ) (cs : List TaggedChar)
    → flat_map (narrow_parts cuts) (hyphenated_after cuts before cs) ≡ letter_parts cuts before 0 cs
word-parts cuts before cs = ap (flat_map (narrow_parts cuts)) (hyphened-is cuts.split_hyphens before cs)
    ∙ all_narrowed-none cuts (hyphened cuts.split_hyphens before cs) ∙ parts-are cuts before 0 cs

-- ---- the first part

-- the letters up to a code that ends each word
abbrev pub letters : (ℕ → Bool) → List TaggedChar → List TaggedChar
letters stop cs = take (until_len stop cs) cs

-- no letter or digit does
abbrev pub EndsWords : (ℕ → Bool) → Type 0
EndsWords stop = (c : ℕ) → stop c ≡ true → is_alphanumeric c ≡ false

abbrev pub more_parts : Cuts → ℕ → List TaggedChar → List (List TaggedChar)
more_parts cuts before [] = []
more_parts cuts before (c ∷ cs) = letter_parts cuts before 0 (c ∷ cs)

begins-letters : (stop : ℕ → Bool) → EndsWords stop → (cs : List TaggedChar) → begins_alphanumeric (letters stop cs)
    ≡ begins_word (codes_of cs)
begins-letters stop h [] = refl
begins-letters stop h (c ∷ cs) = elim (stop c.code) as (λ v. stop c.code ≡ v
    → begins_alphanumeric (take (if v then 0 else suc (until_len stop cs)) (c ∷ cs)) ≡ is_alphanumeric c.code) [
      | true ↦ λ e. sym (h c.code e)
      | false ↦ λ e. refl
    ] refl

begun : (cuts : Cuts) (before : ℕ) (cs : List TaggedChar) → begins_alphanumeric cs ≡ true
    → letter_parts cuts before 0 cs
    ≡ more_parts cuts before cs
begun cuts before [] e = absurd (cc)
begun cuts before (c ∷ cs) e = refl

and-last : (h a b c : Bool) → (h && (a && b && c)) ≡ true → c ≡ true
and-last true true true c e = e
and-last true true false c e = absurd (cc)
and-last true false b c e = absurd (cc)
and-last false a b c e = absurd (cc)

not_wide : (b : Bool) (room : ℕ) (c : TaggedChar) → wide b room 0 c ≡ false
not_wide true room c = refl
not_wide false room c = refl

letters-none : (stop : ℕ → Bool) (c : TaggedChar) (cs : List TaggedChar) → stop c.code ≡ true → letters stop (c ∷ cs)
    ≡ []
letters-none stop c cs e = ap (λ (v : Bool). take (if v then 0 else suc (until_len stop cs)) (c ∷ cs)) e

letters-more : (stop : ℕ → Bool) (c : TaggedChar) (cs : List TaggedChar) → stop c.code ≡ false → letters stop (c ∷ cs)
    ≡ c ∷ letters stop cs
letters-more stop c cs e = ap (λ (v : Bool). take (if v then 0 else suc (until_len stop cs)) (c ∷ cs)) e

-- a part that gets too wide ends before the code, and the next begins with it
parts-again : (cuts : Cuts) (before : ℕ) (c : TaggedChar) (cs : List TaggedChar) →
    (if is_cut cuts.split_hyphens before c cs then (c ∷ []) ∷ letter_parts cuts c.code 0 cs
    else onto c (letter_parts cuts c.code (width c.code) cs))
    ≡ letter_parts cuts before 0 (c ∷ cs)
parts-again cuts before c cs =
    ap (λ k. if is_cut cuts.split_hyphens before c cs then (c ∷ []) ∷ letter_parts cuts c.code 0 cs
    else onto c (letter_parts cuts c.code k cs)) (sym (zero-add (width c.code)))
    ∙ ap (λ (v : Bool). if v then [] ∷ (if is_cut cuts.split_hyphens before c cs then (c ∷ [])
    ∷ letter_parts cuts c.code 0 cs
    else onto c (letter_parts cuts c.code (width c.code) cs))
    else (if is_cut cuts.split_hyphens before c cs then (c ∷ []) ∷ letter_parts cuts c.code 0 cs
    else onto c (letter_parts cuts c.code (0 + width c.code) cs))) (sym (not_wide cuts.break_words cuts.narrow c))

pub first-part : (stop : ℕ → Bool) → EndsWords stop → (cuts : Cuts) (before used : ℕ) (cs : List TaggedChar) →
    letter_parts cuts before used (letters stop cs)
    ≡ take (part_len stop cuts before used (codes_of cs)) cs
    ∷ more_parts cuts (code_after before (part_len stop cuts before used (codes_of cs)) (codes_of cs))
    (letters stop (drop (part_len stop cuts before used (codes_of cs)) cs))
first-part stop h cuts before used [] = refl
first-part stop h cuts before used (c ∷ cs) =
    let next = part_len stop cuts c.code (used + width c.code) (codes_of cs) in
    let test = cuts.split_hyphens && ((c.code == 45) && is_alphanumeric before && begins_word (codes_of cs)) in
    let same : is_cut cuts.split_hyphens before c (letters stop cs) ≡ test =
    ap (λ (v : Bool). cuts.split_hyphens && ((c.code == 45) && is_alphanumeric before && v)) (begins-letters stop h cs)
    in
    elim (stop c.code) as (λ v. stop c.code ≡ v → letter_parts cuts before used
    (take (if v then 0 else suc (until_len stop cs)) (c ∷ cs))
    ≡ take (if v then 0 else if wide cuts.break_words cuts.narrow used c then 0 else if test then 1 else suc next)
    (c ∷ cs)
    ∷ more_parts cuts (code_after before (if v then 0 else if wide cuts.break_words cuts.narrow used c then 0
    else if test then 1 else suc next) (c.code ∷ codes_of cs))
    (letters stop (drop (if v then 0 else if wide cuts.break_words cuts.narrow used c then 0 else if test then 1 else
    suc
    next)
    (c ∷ cs)))) [
      | true ↦ λ e. ap (λ (us : List TaggedChar). [] ∷ more_parts cuts before us) (sym (letters-none stop c cs e))
      | false ↦ λ e.
          elim (wide cuts.break_words cuts.narrow used c) as (λ v.
          (if v then [] ∷ (if is_cut cuts.split_hyphens before c (letters stop cs) then (c ∷ [])
          ∷ letter_parts cuts c.code 0 (letters stop cs) else onto c
          (letter_parts cuts c.code (width c.code) (letters stop cs)))
          else (if is_cut cuts.split_hyphens before c (letters stop cs) then (c ∷ [])
          ∷ letter_parts cuts c.code 0 (letters
          stop cs)
          else onto c (letter_parts cuts c.code (used + width c.code) (letters stop cs))))
          ≡ take (if v then 0 else if test then 1 else suc next) (c ∷ cs)
          ∷ more_parts cuts (code_after before (if v then 0 else if test then 1 else suc next) (c.code ∷ codes_of cs))
          (letters stop (drop (if v then 0 else if test then 1 else suc next) (c ∷ cs)))) [
            | true ↦ ap (λ (us : List (List TaggedChar)). [] ∷ us) (parts-again cuts before c (letters stop cs))
                ∙ ap (λ (us : List TaggedChar). [] ∷ more_parts cuts before us) (sym (letters-more stop c cs e))
            | false ↦
                ap (λ (v : Bool). if v then (c ∷ []) ∷ letter_parts cuts c.code 0 (letters stop cs)
                else onto c (letter_parts cuts c.code (used + width c.code) (letters stop cs))) same
                ∙ elim test as (λ v. test ≡ v → (if v then (c ∷ []) ∷ letter_parts cuts c.code 0 (letters stop cs)
                else onto c (letter_parts cuts c.code (used + width c.code) (letters stop cs)))
                ≡ take (if v then 1 else suc next) (c ∷ cs)
                ∷ more_parts cuts (code_after before (if v then 1 else suc next) (c.code ∷ codes_of cs))
                (letters stop (drop (if v then 1 else suc next) (c ∷ cs)))) [
                  | true ↦ λ t. ap (λ (us : List (List TaggedChar)). (c ∷ []) ∷ us)
                      (begun cuts c.code (letters stop cs) (begins-letters stop h cs
                      ∙ and-last cuts.split_hyphens (c.code == 45) (is_alphanumeric before) (begins_word (codes_of cs))
                      t))
                  | false ↦ λ t. ap (onto c) (first-part stop h cuts c.code (used + width c.code) cs)
                ] refl
          ]
    ] refl

-- it ends within the letters
pub part-within : (stop : ℕ → Bool) (cuts : Cuts) (before used : ℕ) (cs : List TaggedChar) → until_len stop cs
    ≡ part_len stop cuts before used (codes_of cs) + until_len stop (drop (part_len stop cuts before used (codes_of cs))
    cs)
part-within stop cuts before used [] = refl
part-within stop cuts before used (c ∷ cs) =
    let next = part_len stop cuts c.code (used + width c.code) (codes_of cs) in
    let test = cuts.split_hyphens && ((c.code == 45) && is_alphanumeric before && begins_word (codes_of cs)) in
    elim (stop c.code) as (λ v. stop c.code ≡ v → until_len stop (c ∷ cs)
    ≡ (if v then 0 else if wide cuts.break_words cuts.narrow used c then 0 else if test then 1 else suc next)
    + until_len stop (drop (if v then 0 else if wide cuts.break_words cuts.narrow used c then 0 else if test then 1
    else suc next) (c ∷ cs))) [
      | true ↦ λ e. omega arith
      | false ↦ λ e.
          let l : until_len stop (c ∷ cs) ≡ suc (until_len stop cs) =
          ap (λ (v : Bool). if v then 0 else suc (until_len stop cs)) e in
          elim (wide cuts.break_words cuts.narrow used c) as (λ v. until_len stop (c ∷ cs)
          ≡ (if v then 0 else if test then 1 else suc next)
          + until_len stop (drop (if v then 0 else if test then 1 else suc next) (c ∷ cs))) [
            | true ↦ omega arith
            | false ↦ elim test as (λ v. until_len stop (c ∷ cs) ≡ (if v then 1 else suc next)
                + until_len stop (drop (if v then 1 else suc next) (c ∷ cs))) [
                  | true ↦ omega arith
                  | false ↦ omega (arith, part-within stop cuts c.code (used + width c.code) cs)
                ]
          ]
    ] refl

-- ---- the first word

no_letter : EndsWords is_space
no_letter c e = grind (arith, nat_tests)

pub gap-is : (cs : List TaggedChar) → gap_len (codes_of cs) ≡ spaces_len cs
gap-is [] = refl
gap-is (c ∷ cs) = ap (λ n. if is_space c.code then suc n else 0) (gap-is cs)

-- after a space and at the front nothing is cut
none-after : (h : Bool) (cs : List TaggedChar) → (if h then hyphen_parts 32 cs else cs ∷ [])
    ≡ (if h then hyphen_parts 0 cs else cs ∷ [])
none-after true [] = refl
none-after true (c ∷ cs) = refl
none-after false cs = refl

pub after-space : (cuts : Cuts) (cs : List TaggedChar) → words_after cuts 32 cs ≡ words_after cuts 0 cs
after-space cuts cs = elim (spaced_words cs) as (λ ws. (elim ws as (λ _. List Word) [
  | [] ↦ []
  | w ∷ ws ↦ with_spaces w.spaces (flat_map (narrow_parts cuts) (hyphenated_after cuts 32 w.letters))
      ++ flat_map (parts cuts) ws
]) ≡ (elim ws as (λ _. List Word) [
  | [] ↦ []
  | w ∷ ws ↦ with_spaces w.spaces (flat_map (narrow_parts cuts) (hyphenated_after cuts 0 w.letters))
      ++ flat_map (parts cuts) ws
])) [
  | [] ↦ refl
  | w ∷ ws ↦ ap (λ ps. with_spaces w.spaces (flat_map (narrow_parts cuts) ps) ++ flat_map (parts cuts) ws)
      (none-after cuts.split_hyphens w.letters)
]

pub words-alone : (cuts : Cuts) (cs : List TaggedChar) → words_after cuts 0 cs ≡ flat_map (parts cuts) (spaced_words cs)
words-alone cuts cs = elim (spaced_words cs) as (λ ws. (elim ws as (λ _. List Word) [
  | [] ↦ []
  | w ∷ ws ↦ with_spaces w.spaces (flat_map (narrow_parts cuts) (hyphenated_after cuts 0 w.letters))
      ++ flat_map (parts cuts) ws
]) ≡ flat_map (parts cuts) ws) [ [] ↦ refl | w ∷ ws ↦ refl ]

-- the parts of a word's letters, and the words after it
abbrev from_parts : Cuts → List (List TaggedChar) → List TaggedChar → List Word
from_parts cuts ps cells_on = with_spaces (take (spaces_len cells_on) cells_on) ps
    ++ flat_map (parts cuts) (spaced_words (drop (spaces_len cells_on) cells_on))

words-split : (cuts : Cuts) (before : ℕ) (c : TaggedChar) (cs : List TaggedChar) → words_after cuts before (c ∷ cs)
    ≡ from_parts cuts (letter_parts cuts before 0 (letters is_space (c ∷ cs))) (drop (letters_len (c ∷ cs)) (c ∷ cs))
words-split cuts before c cs =
    ap (λ (ws : List Word). elim ws as (λ _. List Word) [
      | [] ↦ []
      | w ∷ ws ↦ with_spaces w.spaces (flat_map (narrow_parts cuts) (hyphenated_after cuts before w.letters))
          ++ flat_map (parts cuts) ws
    ]) (words-first c cs)
    ∙ ap (λ ps. from_parts cuts ps (drop (letters_len (c ∷ cs)) (c ∷ cs))) (word-parts cuts before (letters is_space (c
    ∷ cs)))

pub with_spaces-more : (spaces p : List TaggedChar) (ps : List (List TaggedChar)) → 0 < length ps
    → with_spaces spaces (p ∷ ps)
    ≡ record { letters = p; spaces = [] } ∷ with_spaces spaces ps
with_spaces-more spaces p [] h = absurd (omega arith)
with_spaces-more spaces p (q ∷ qs) h = refl

next-part : (cuts : Cuts) (before after : ℕ) (p cs : List TaggedChar) → (0 < spaces_len cs → after ≡ 32)
    → (spaces_len cs ≡ 0 → after ≡ before) →
    from_parts cuts (p ∷ more_parts cuts before (letters is_space cs)) (drop (letters_len cs) cs)
    ≡ record { letters = p; spaces = take (spaces_len cs) cs } ∷ words_after cuts after (drop (spaces_len cs) cs)
next-part cuts before after p [] f g = refl
next-part cuts before after p (c ∷ cs) f g = elim (is_space c.code) as (λ v. is_space c.code ≡ v →
    from_parts cuts (p ∷ more_parts cuts before (letters is_space (c ∷ cs))) (drop (letters_len (c ∷ cs)) (c ∷ cs))
    ≡ record { letters = p; spaces = take (spaces_len (c ∷ cs)) (c ∷ cs) }
    ∷ words_after cuts after (drop (spaces_len (c ∷ cs)) (c ∷ cs))) [
      | true ↦ λ e.
          let z : letters_len (c ∷ cs) ≡ 0 = ap (λ (v : Bool). if v then 0 else suc (letters_len cs)) e in
          let m : spaces_len (c ∷ cs) ≡ suc (spaces_len cs) = ap (λ (v : Bool). if v then suc (spaces_len cs) else 0) e
          in
          ap (λ n. from_parts cuts (p ∷ more_parts cuts before (take n (c ∷ cs))) (drop n (c ∷ cs))) z
          ∙ ap (λ ws. record { letters = p; spaces = take (spaces_len (c ∷ cs)) (c ∷ cs) } ∷ ws)
          (sym (ap (λ a. words_after cuts a (drop (spaces_len (c ∷ cs)) (c ∷ cs))) (f (omega arith))
          ∙ after-space cuts (drop (spaces_len (c ∷ cs)) (c ∷ cs))
          ∙ words-alone cuts (drop (spaces_len (c ∷ cs)) (c ∷ cs))))
      | false ↦ λ e.
          let cells_on = drop (letters_len (c ∷ cs)) (c ∷ cs) in
          let m : spaces_len (c ∷ cs) ≡ 0 = ap (λ (v : Bool). if v then suc (spaces_len cs) else 0) e in
          let l : letters is_space (c ∷ cs) ≡ c ∷ letters is_space cs = letters-more is_space c cs e in
          ap (λ us. from_parts cuts (p ∷ more_parts cuts before us) cells_on) l
          ∙ ap (λ us. us ++ flat_map (parts cuts) (spaced_words (drop (spaces_len cells_on) cells_on)))
          (with_spaces-more (take (spaces_len cells_on) cells_on) p
          (letter_parts cuts before 0 (c ∷ letters is_space cs))
          (parts-some cuts before 0 (c ∷ letters is_space cs)))
          ∙ ap (λ us. record { letters = p; spaces = [] } ∷ from_parts cuts (letter_parts cuts before 0 us) cells_on)
          (sym l)
          ∙ ap (λ ws. record { letters = p; spaces = [] } ∷ ws)
          (sym (ap (λ a. words_after cuts a (c ∷ cs)) (g m) ∙ words-split cuts before c cs))
          ∙ ap (λ k. record { letters = p; spaces = take k (c ∷ cs) } ∷ words_after cuts after (drop k (c ∷ cs)))
          (sym m)
    ] refl

-- ---- the code before

after-nothing : (a n : ℕ) → code_after a n [] ≡ a
after-nothing a zero = refl
after-nothing a (suc n) = refl

pub after-add : (a n m : ℕ) (cs : List ℕ) → code_after a (n + m) cs ≡ code_after (code_after a n cs) m (drop n cs)
after-add a zero m cs = ap (λ k. code_after a k cs) (zero-add m)
after-add a (suc n) m [] = after-nothing a (suc n + m) ∙ sym (after-nothing a m)
after-add a (suc n) m (c ∷ cs) = let e : suc n + m ≡ suc (n + m) = omega arith in ap (λ k. code_after a k (c ∷ cs)) e
    ∙ after-add c n m cs

gap-last : (cs : List ℕ) → code_after 32 (gap_len cs) cs ≡ 32
gap-last [] = refl
gap-last (c ∷ cs) = elim (is_space c) as (λ v. is_space c ≡ v
    → code_after 32 (if v then suc (gap_len cs) else 0) (c ∷ cs) ≡ 32) [
      | true ↦ λ e. ap (λ k. code_after k (gap_len cs) cs) (eqb-true c 32 e) ∙ gap-last cs
      | false ↦ λ e. refl
    ] refl

gap-space : (a : ℕ) (cs : List ℕ) → 0 < gap_len cs → code_after a (gap_len cs) cs ≡ 32
gap-space a [] h = absurd (omega arith)
gap-space a (c ∷ cs) h = elim (is_space c) as (λ v. is_space c ≡ v → 0 < (if v then suc (gap_len cs) else 0)
    → code_after a (if v then suc (gap_len cs) else 0) (c ∷ cs) ≡ 32) [
      | true ↦ λ e h. ap (λ k. code_after k (gap_len cs) cs) (eqb-true c 32 e) ∙ gap-last cs
      | false ↦ λ e h. absurd (omega arith)
    ] refl h

pub drop-codes : (n : ℕ) (cs : List TaggedChar) → drop n (codes_of cs) ≡ codes_of (drop n cs)
drop-codes n cs = drop-map (λ (c : TaggedChar). c.code) n cs

-- The first word of what stands after a code, where something does.
pub words-next : (cuts : Cuts) (before n m : ℕ) (cs : List TaggedChar) → 0 < length cs → n
    ≡ part_len is_space cuts before 0 (codes_of cs) → m ≡ gap_len (drop n (codes_of cs)) →
    words_after cuts before cs ≡ record { letters = take n cs; spaces = take m (drop n cs) }
    ∷ words_after cuts (code_after before (n + m) (codes_of cs)) (drop (n + m) cs)
words-next cuts before n m [] l p q = absurd (omega arith)
words-next cuts before n m (c ∷ cs) l p q =
    let all = c ∷ cs in
    let k = part_len is_space cuts before 0 (codes_of all) in
    let last = code_after before n (codes_of all) in
    let s : m ≡ spaces_len (drop n all) = q ∙ ap gap_len (drop-codes n all) ∙ gap-is (drop n all) in
    let a : letters_len all ≡ n + letters_len (drop n all) = ap (λ n. letters_len all) p ∙ part-within is_space cuts
    before 0 all
    ∙ ap (λ k. k + letters_len (drop k all)) (sym p) in
    let after = code_after before (n + m) (codes_of all) in
    let e : after ≡ code_after last m (drop n (codes_of all)) = after-add before n m (codes_of all) in
    let f : 0 < spaces_len (drop n all) → after ≡ 32 = λ h. e ∙ ap (λ k. code_after last k (drop n (codes_of all))) q
    ∙ gap-space last (drop n (codes_of all)) (omega arith) in
    let g : spaces_len (drop n all) ≡ 0 → after ≡ last = λ h. e
    ∙ ap (λ k. code_after last k (drop n (codes_of all))) (s ∙ h) in
    words-split cuts before c cs
    ∙ ap (λ ps. from_parts cuts ps (drop (letters_len all) all))
    (first-part is_space no_letter cuts before 0 all ∙ ap (λ k. take k all ∷ more_parts cuts (code_after before k
    (codes_of all))
    (letters is_space (drop k all))) (sym p))
    ∙ ap (from_parts cuts (take n all ∷ more_parts cuts last (letters is_space (drop n all))))
    (ap (λ k. drop k all) a ∙ sym (drop-drop (letters_len (drop n all)) n all))
    ∙ next-part cuts last after (take n all) (drop n all) f g
    ∙ ap (λ k. record { letters = take n all; spaces = take k (drop n all) }
    ∷ words_after cuts after (drop k (drop n all))) (sym s)
    ∙ ap (λ us. record { letters = take n all; spaces = take m (drop n all) } ∷ words_after cuts after us)
    (drop-drop m n all)

-- ---- something is taken

pub never_wide : (b v : Bool) → (b && (nat_lt 0 0 && v)) ≡ false
never_wide true v = refl
never_wide false v = refl

pub one_or : (t : Bool) (n : ℕ) → 0 < (if t then 1 else suc n)
one_or true n = omega arith
one_or false n = omega arith

pub part-some : (cuts : Cuts) (before : ℕ) (cs : List ℕ) → 0 < length cs → 0 < part_len is_space cuts before 0 cs
    + gap_len (drop (part_len is_space cuts before 0 cs) cs)
part-some cuts before [] l = absurd (omega arith)
part-some cuts before (c ∷ cs) l =
    let next = part_len is_space cuts c (0 + width c) cs in
    let test = cuts.split_hyphens && ((c == 45) && is_alphanumeric before && begins_word cs) in
    let never : (cuts.break_words && (nat_lt 0 0 && nat_lt cuts.narrow (0 + width c))) ≡ false =
    never_wide cuts.break_words (nat_lt cuts.narrow (0 + width c)) in
    elim (is_space c) as (λ v. is_space c ≡ v → 0 < (if v then 0 else if cuts.break_words
    && (nat_lt 0 0 && nat_lt cuts.narrow (0 + width c)) then 0 else if test then 1 else suc next)
    + gap_len (drop (if v then 0 else if cuts.break_words && (nat_lt 0 0 && nat_lt cuts.narrow (0 + width c)) then 0
    else if test then 1 else suc next) (c ∷ cs))) [
      | true ↦ λ e. (let z : gap_len (c ∷ cs) ≡ suc (gap_len cs) =
          ap (λ (v : Bool). if v then suc (gap_len cs) else 0) e in omega arith)
      | false ↦ λ e.
          let k : (if cuts.break_words && (nat_lt 0 0 && nat_lt cuts.narrow (0 + width c)) then 0 else if test then 1
          else suc next) ≡ (if test then 1 else suc next) =
          ap (λ (v : Bool). if v then 0 else if test then 1 else suc next) never in
          let o : 0 < (if test then 1 else suc next) = one_or test next in
          omega arith
    ] refl
