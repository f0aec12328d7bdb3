-- Parts of words, and the rows that are made of them, have room.
use Rattle.std.proofs.Common.{ℕ, ◌+◌, ◌<◌, ◌≤◌, ◌≡◌, ◌⊎◌, inl, inr, Bool, true, false, List, [], ◌∷◌, ◌++◌, length}
use Rattle.std.proofs.Common.{refl, sym, ap, ◌∙◌, ⊎_elim, arith, ltb, ◌&&◌, if◌then◌else◌, flat_map}
use Rattle.std.specs.List.{AllByRecursion, filter}
use Rattle.std.proofs.lemmas.Bool.{and_cases, and_parts, ltb-false, ltb-true}
use Rattle.std.proofs.lemmas.List.Sums.{sum_by-cons}
use Rattle.miette_lines.proofs.Cases.{by_cases}
use Rattle.miette_lines.specs.rules.Lists.{onto}
use Rattle.miette_runs.specs.rules.Cells.{TaggedChar, width}
use Rattle.miette_text.specs.laws.FilledRows.{Fits}
use Rattle.miette_text.specs.rules.Wrapping as wrapping
use Rattle.miette_text.specs.rules.Wrapping.{Cuts, Word, broken_parts, columns, cut_words, hyphenated_parts}
use Rattle.miette_text.specs.rules.Wrapping.{narrow_parts, parts, rows_after, with_spaces, word_cells, words}
use Rattle.miette_graphical_laws.specs.laws.RowRoom.{WordsHaveRoom, IsNarrowPart, RowHasRoom, RowsHaveRoom, with_columns}

-- ---- parts of words

columns-cons : (c : TaggedChar) (cs : List TaggedChar) → columns (c ∷ cs) ≡ width c.code + columns cs
columns-cons c cs = sum_by-cons (λ (x : TaggedChar). width x.code) c cs

-- how many characters have columns
abbrev many : List TaggedChar → ℕ
many cs = length (with_columns cs)

many-none : (c : TaggedChar) (cs : List TaggedChar) → width c.code ≡ 0 → many (c ∷ cs) ≡ many cs
many-none c cs h =
    by_cases {C = many (c ∷ cs) ≡ many cs} (ltb 0 (width c.code))
    (λ y. absurd (omega (arith, h, ltb-true 0 (width c.code) y))) (λ n. rw n refl)

many-one : (c : TaggedChar) (cs : List TaggedChar) → 0 < width c.code → many (c ∷ cs) ≡ 1 + many cs
many-one c cs h =
    by_cases {C = many (c ∷ cs) ≡ 1 + many cs} (ltb 0 (width c.code))
    (λ y. rw y (omega arith)) (λ n. absurd (omega (arith, h, ltb-false 0 (width c.code) n)))

no-columns : (cs : List TaggedChar) → many cs ≡ 0 → columns cs ≡ 0
no-columns [] h = refl
no-columns (c ∷ cs) h =
    by_cases {C = columns (c ∷ cs) ≡ 0} (ltb 0 (width c.code))
    (λ y. absurd (omega (arith, h, many-one c cs (ltb-true 0 (width c.code) y))))
    (λ n. let none : width c.code ≡ 0 = omega (arith, ltb-false 0 (width c.code) n) in
    omega (arith, none, columns-cons c cs, no-columns cs (sym (many-none c cs none) ∙ h)))

-- the first part after `used` columns
abbrev Continues : ℕ → ℕ → List TaggedChar → Type 0
Continues room used part = (used + columns part ≤ room) ⊎ ((many part ≡ 0) ⊎ ((used ≡ 0) × (many part ≡ 1)))

abbrev AreNarrow : ℕ → ℕ → List (List TaggedChar) → Type 0
AreNarrow room used [] = ⊥
AreNarrow room used (part ∷ more) = Continues room used part × AllByRecursion (IsNarrowPart room) more

narrow-after : (room : ℕ) (c : TaggedChar) (part : List TaggedChar) → Continues room (width c.code) part
    → IsNarrowPart room (c ∷ part)
narrow-after room c part h = elim h [
  | inl fits ↦ inl (omega (arith, fits, columns-cons c part))
  | inr other ↦ elim other [
    | inl none ↦ by_cases {C = IsNarrowPart room (c ∷ part)} (ltb 0 (width c.code))
        (λ y. inr (omega (arith, none, many-one c part (ltb-true 0 (width c.code) y))))
        (λ n. let zeroth : width c.code ≡ 0 = omega (arith, ltb-false 0 (width c.code) n) in
        inl (omega (arith, zeroth, columns-cons c part, no-columns part none)))
    | inr one ↦ inr (many-none c part one.0 ∙ one.1)
  ]
]

goes-on : (room used : ℕ) (c : TaggedChar) (part : List TaggedChar)
    → (ltb 0 used && ltb room (used + width c.code)) ≡ false → Continues room (used + width c.code) part
    → Continues room used (c ∷ part)
goes-on room used c part kept h = elim h [
  | inl fits ↦ inl (omega (arith, fits, columns-cons c part))
  | inr other ↦ elim other [
    | inl none ↦ by_cases {C = Continues room used (c ∷ part)} (ltb 0 (width c.code))
        (λ y. let some : 0 < width c.code = ltb-true 0 (width c.code) y in
        ⊎_elim {C = Continues room used (c ∷ part)}
        (λ first. inr (inr (omega (arith, ltb-false 0 used first), omega (arith, none, many-one c part some))))
        (λ fits. inl (omega (
          arith,
          ltb-false room (used + width c.code) fits,
          columns-cons c part,
          no-columns part none,
        )))
        (and_cases (ltb 0 used) (ltb room (used + width c.code)) kept))
        (λ n. let zeroth : width c.code ≡ 0 = omega (arith, ltb-false 0 (width c.code) n) in
        inr (inl (many-none c part zeroth ∙ none)))
    | inr one ↦ (let zeroth : width c.code ≡ 0 = omega (arith, one.0) in
        inr (inr (omega (arith, one.0), many-none c part zeroth ∙ one.1)))
  ]
]

onto-first : (room used : ℕ) (c : TaggedChar) (ps : List (List TaggedChar))
    → (ltb 0 used && ltb room (used + width c.code)) ≡ false → AreNarrow room (used + width c.code) ps
    → AreNarrow room used (onto c ps)
onto-first room used c [] kept h = absurd h
onto-first room used c (p ∷ ps) kept h = (goes-on room used c p kept h.0, h.1)

onto-later : (room : ℕ) (c : TaggedChar) (ps : List (List TaggedChar)) → AreNarrow room (width c.code) ps
    → AllByRecursion (IsNarrowPart room) (onto c ps)
onto-later room c [] h = absurd h
onto-later room c (p ∷ ps) h = (narrow-after room c p h.0, h.1)

broken-narrow : (room used : ℕ) (cs : List TaggedChar) → AreNarrow room used (broken_parts room used cs)
broken-narrow room used [] = (inr (inl refl), tt)
broken-narrow room used (c ∷ cs) =
    by_cases {C = AreNarrow room used (broken_parts room used (c ∷ cs))}
    (ltb 0 used && ltb room (used + width c.code))
    (λ y. rw y (
      inr (inl refl),
      onto-later room c (broken_parts room (width c.code) cs)
          (broken-narrow room (width c.code) cs),
    ))
    (λ n. rw n (onto-first room used c (broken_parts room (used + width c.code) cs) n
    (broken-narrow room (used + width c.code) cs)))

all-narrow : (room : ℕ) (ps : List (List TaggedChar)) → AreNarrow room 0 ps → AllByRecursion (IsNarrowPart room) ps
all-narrow room [] h = absurd h
all-narrow room (p ∷ ps) h = (
  elim h.0 [
    | inl fits ↦ inl (omega (arith, fits))
    | inr other ↦ elim other [
      | inl none ↦ inl (omega (arith, no-columns p none))
      | inr one ↦ inr one.1
    ]
  ],
  h.1,
)

-- ---- words

all-append : {A : Type 0} (P : A → Type 0) (xs ys : List A) → AllByRecursion P xs → AllByRecursion P ys
    → AllByRecursion P (xs ++ ys)
all-append P [] ys h k = k
all-append P (x ∷ xs) ys h k = (h.0, all-append P xs ys h.1 k)

all-flat : {A B : Type 0} (P : B → Type 0) (f : A → List B) → ((x : A) → AllByRecursion P (f x)) → (xs : List A)
    → AllByRecursion P (flat_map f xs)
all-flat P f each [] = tt
all-flat P f each (x ∷ xs) = all-append P (f x) (flat_map f xs) (each x) (all-flat P f each xs)

letters-narrow : (room : ℕ) (spaces : List TaggedChar) (ps : List (List TaggedChar))
    → AllByRecursion (IsNarrowPart room) ps
    → AllByRecursion (λ w. IsNarrowPart room w.letters) (with_spaces spaces ps)
letters-narrow room spaces [] h = (inl (omega arith), tt)
letters-narrow room spaces (p ∷ []) h = (h.0, tt)
letters-narrow room spaces (p ∷ q ∷ qs) h = (h.0, letters-narrow room spaces (q ∷ qs) h.1)

narrow-letters : (c : Cuts) → c.break_words ≡ true → (letters : List TaggedChar)
    → AllByRecursion (IsNarrowPart c.narrow) (narrow_parts c letters)
narrow-letters c breaks letters =
    rw breaks (all-narrow c.narrow (broken_parts c.narrow 0 letters) (broken-narrow c.narrow 0 letters))

words-narrow : (c : Cuts) → c.break_words ≡ true → (cells : List TaggedChar)
    → AllByRecursion (λ w. IsNarrowPart c.narrow w.letters) (cut_words c cells)
words-narrow c breaks cells =
    all-flat (λ (w : Word). IsNarrowPart c.narrow w.letters) (parts c)
    (λ (w : Word). letters-narrow c.narrow w.spaces (flat_map (narrow_parts c) (hyphenated_parts c w.letters))
    (all-flat (IsNarrowPart c.narrow) (narrow_parts c) (narrow-letters c breaks) (hyphenated_parts c w.letters)))
    (words c.separator cells)

-- ---- rows

wider : (narrow room : ℕ) (letters : List TaggedChar) → narrow ≤ room → IsNarrowPart narrow letters
    → IsNarrowPart room letters
wider narrow room letters le h = elim h [ inl fits ↦ inl (omega (arith, le, fits)) | inr one ↦ inr one ]

abbrev GoOn : ℕ → ℕ → ℕ → List (List Word) → Type 0
GoOn used room further [] = ⊥
GoOn used room further (row ∷ rows) = Fits room used row × RowsHaveRoom further further rows

begun : (further : ℕ) (w : Word) (rows : List (List Word)) → IsNarrowPart further w.letters
    → GoOn (columns (word_cells w)) further further rows → RowsHaveRoom further further (onto w rows)
begun further w [] h k = absurd k
begun further w (row ∷ rows) h k = ((h, k.0), k.1)

added : (used room further : ℕ) (w : Word) (rows : List (List Word)) → used + columns w.letters ≤ room
    → GoOn (used + columns (word_cells w)) room further rows → GoOn used room further (onto w rows)
added used room further w [] le k = absurd k
added used room further w (row ∷ rows) le k = ((le, k.0), k.1)

rows-go-on : (narrow used room further : ℕ) (ws : List Word) → narrow ≤ further
    → AllByRecursion (λ w. IsNarrowPart narrow w.letters) ws → GoOn used room further (rows_after used room further ws)
rows-go-on narrow used room further [] le h = (tt, tt)
rows-go-on narrow used room further (w ∷ ws) le h =
    by_cases {C = GoOn used room further (rows_after used room further (w ∷ ws))}
    (ltb room (used + columns w.letters))
    (λ y. rw y (
      tt,
      begun further w (rows_after (columns (word_cells w)) further further ws)
          (wider narrow further w.letters le h.0)
          (rows-go-on narrow (columns (word_cells w)) further further ws le h.1),
    ))
    (λ n. rw n (added used room further w (rows_after (used + columns (word_cells w)) room further ws)
    (ltb-false room (used + columns w.letters) n)
    (rows-go-on narrow (used + columns (word_cells w)) room further ws le h.1)))

first-row : (room further : ℕ) (w : Word) (rows : List (List Word)) → IsNarrowPart room w.letters
    → GoOn (columns (word_cells w)) room further rows → RowsHaveRoom room further (onto w rows)
first-row room further w [] h k = absurd k
first-row room further w (row ∷ rows) h k = ((h, k.0), k.1)

all-rows : (narrow room further : ℕ) (ws : List Word) → narrow ≤ room → narrow ≤ further
    → AllByRecursion (λ w. IsNarrowPart narrow w.letters) ws → RowsHaveRoom room further (wrapping.rows room further ws)
all-rows narrow room further [] le le' h = (tt, tt)
all-rows narrow room further (w ∷ ws) le le' h =
    first-row room further w (rows_after (columns (word_cells w)) room further ws) (wider narrow room w.letters le h.0)
    (rows-go-on narrow (columns (word_cells w)) room further ws le' h.1)

pub have_room : (c : Cuts) (cells : List TaggedChar) → c.break_words ≡ true → WordsHaveRoom c cells
have_room c cells breaks = record {
  parts = words-narrow c breaks cells;
  rows = λ room further le le'. all-rows c.narrow room further (cut_words c cells) le le' (words-narrow c breaks cells);
}
