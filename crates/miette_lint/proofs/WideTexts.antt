-- A fixed text of a line is no wider than the text.
use Rattle.std.proofs.Common.{◌≡◌, ℕ, zero, suc, ◌+◌, ◌-◌, ◌%◌, ◌<◌, ◌≤◌, ◌⊎◌, Bool, true, false, cond, ◌||◌, eqb, ltb}
use Rattle.std.proofs.Common.{List, [], ◌∷◌, ◌++◌, length, map, take, drop, get_or, reverse}
use Rattle.std.proofs.Common.{refl, sym, ap, ◌∙◌, arith, subst, inl, inr, append_assoc}
use Rattle.std.specs.Prelude.{codes, is_none, slice_index, take_while}
use Rattle.std.specs.List.{AllByRecursion, prefix_len}
use Rattle.std.proofs.lemmas.Bool.{eqb-true, lt-ltb, ltb-true}
use Rattle.std.proofs.lemmas.List.{get_or-drop, get_or-reverse, length-drop, map-append}
use Rattle.std.proofs.lemmas.List.{take-append-drop}
use Rattle.std.proofs.lemmas.List.Sums.{prefix_len_passes}
use Rattle.bstr.specs.Utf8.{continues, or_replacement, pieces}
use Rattle.bstr.proofs.lemmas.PieceLemmas.{StartsClean, pieces-append}
use Rattle.miette_lines.proofs.Cases.{by_cases}
use Rattle.miette_columns.specs.rules.Cells.{Character, cells_from, characters, hides_next, width_at}
use Rattle.miette_columns.specs.rules.Widths.{width_of}
use Rattle.miette_columns.proofs.Plaining.{ascii_decoded, one_column}
use Rattle.miette_columns.proofs.Stepping.{character, characters_step, made}
use Rattle.miette_lint.specs.rules.Findings.{ending_blanks, is_blank, overlong, tab_after_space}
use Rattle.miette_lint.specs.rules.Fixes.{even_blanks, fixed_line_text, spaces_at, spaces_from, trimmed}
use Rattle.miette_lint.proofs.CleanTexts.{IsSpace, begun_whole, ending_is, ending_le, passes_taken, spaces_one}

-- ---- characters that go past a width

abbrev until_of : Bool → ℕ → Character → ℕ
until_of hidden column c = column + width_at width_of 4 hidden column c.code

-- whether one of them does; the first stands at a column
abbrev pub pass : ℕ → Bool → ℕ → List Character → Bool
pass width hidden column [] = false
pass width hidden column (c ∷ cs) =
    ltb width (until_of hidden column c) || pass width (hides_next hidden c.code) (until_of hidden column c) cs

-- as a text that begins its line
abbrev pub is_wide : ℕ → List ℕ → Bool
is_wide width text = pass width false 0 (characters text)

abbrev pub weight : ℕ → List ℕ → ℕ
weight width text = cond (is_wide width text) 1 0

pub weighed : (width end offset column : ℕ) (hidden : Bool) (cs : List Character)
    → length (overlong width end (cells_from width_of 4 hidden offset column cs))
    ≡ cond (pass width hidden column cs) 1 0
weighed width end offset column hidden [] = refl
weighed width end offset column hidden (c ∷ cs) =
    by_cases
    {C = length (overlong width end (cells_from width_of 4 hidden offset column (c ∷ cs)))
    ≡ cond (pass width hidden column (c ∷ cs)) 1 0}
    (ltb width (until_of hidden column c)) (λ t. rw t refl)
    (λ f. rw f (weighed width end (offset + c.bytes) (until_of hidden column c) (hides_next hidden c.code) cs))

or_inl : (a b : Bool) → a ≡ true → (a || b) ≡ true
or_inl a b t = rw t refl

or_inr : (a b : Bool) → b ≡ true → (a || b) ≡ true
or_inr true b t = refl
or_inr false b t = t

or_cases : (a b : Bool) → (a || b) ≡ true → (a ≡ true) ⊎ (b ≡ true)
or_cases true b h = inl refl
or_cases false b h = inr h

-- those before others
passed_before : (width column : ℕ) (hidden : Bool) (xs ys : List Character) → pass width hidden column xs ≡ true
    → pass width hidden column (xs ++ ys) ≡ true
passed_before width column hidden [] ys h = let bad : false ≡ true = h in absurd (cc)
passed_before width column hidden (c ∷ cs) ys h =
    let until : ℕ = until_of hidden column c in
    elim (or_cases (ltb width until) (pass width (hides_next hidden c.code) until cs) h) [
      | inl t ↦ or_inl (ltb width until) (pass width (hides_next hidden c.code) until (cs ++ ys)) t
      | inr t ↦ or_inr (ltb width until) (pass width (hides_next hidden c.code) until (cs ++ ys))
          (passed_before width until (hides_next hidden c.code) cs ys t)
    ]

-- ---- blanks

blank_cases : (b : ℕ) → is_blank b ≡ true → (b ≡ 32) ⊎ (b ≡ 9)
blank_cases b h = elim (or_cases (eqb b 32) (eqb b 9) h) [
  | inl t ↦ inl (eqb-true b 32 t)
  | inr t ↦ inr (eqb-true b 9 t)
]

blank_continues : (b : ℕ) → is_blank b ≡ true → continues b ≡ false
blank_continues b h = elim (blank_cases b h) [ inl e ↦ ap continues e | inr e ↦ ap continues e ]

ascii_first : (b : ℕ) (bs : List ℕ) → b < 128 → characters (b ∷ bs) ≡ made b 1 ∷ characters bs
ascii_first b bs h =
    let is = ascii_decoded b bs h in
    characters_step (b ∷ bs) bs b 1 (record {
      some = omega arith;
      left_is = refl;
      code_is = sym (ap (λ d. or_replacement d.char) is);
      size_is = sym (ap (λ d. d.size) is);
    })

four : (n : ℕ) → n ≤ 4 → length (take n (codes "    ")) ≡ n
four zero h = refl
four (suc zero) h = refl
four (suc (suc zero)) h = refl
four (suc (suc (suc zero))) h = refl
four (suc (suc (suc (suc zero)))) h = refl
four (suc (suc (suc (suc (suc n))))) h = absurd (omega (arith, h))

-- as many columns as spaces are put in its place
record IsShown (column b : ℕ) : Type 0 where
  small : b < 128
  wide : width_at width_of 4 false column b ≡ length (spaces_at column b)
  shows : hides_next false b ≡ false

space_shown : (column : ℕ) → IsShown column 32
space_shown column = record { small = omega arith; wide = one_column 32 refl; shows = refl }

tab_shown : (column : ℕ) → IsShown column 9
tab_shown column = record { small = omega arith; wide = sym (four (4 - column % 4) (omega arith)); shows = refl }

blank_shown : (column b : ℕ) → is_blank b ≡ true → IsShown column b
blank_shown column b h = elim (blank_cases b h) [
  | inl e ↦ subst (IsShown column) (sym e) (space_shown column)
  | inr e ↦ subst (IsShown column) (sym e) (tab_shown column)
]

-- one passes with its spaces, or what comes after it does
shown_first : (width column b : ℕ) (bs : List ℕ) → IsShown column b
    → pass width false column (characters (b ∷ bs)) ≡ (ltb width (column + length (spaces_at column b))
    || pass width false (column + length (spaces_at column b)) (characters bs))
shown_first width column b bs h =
    ap (pass width false column) (ascii_first b bs h.small)
    ∙ ap (λ n. ltb width (column + n) || pass width (hides_next false b) (column + n) (characters bs)) h.wide
    ∙ ap (λ s. ltb width (column + length (spaces_at column b))
    || pass width s (column + length (spaces_at column b)) (characters bs)) h.shows

-- spaces pass at their end, or what comes after them does
spaces_first : (width column : ℕ) (s d : List ℕ) → AllByRecursion IsSpace s
    → pass width false column (characters (s ++ d)) ≡ true → (ltb width (column + length s) ≡ true)
    ⊎ (pass width false (column + length s) (characters d) ≡ true)
spaces_first width column [] d all h =
    let same : column ≡ column + 0 = omega arith in
    inr (subst (λ n. pass width false n (characters d) ≡ true) same h)
spaces_first width column (x ∷ s) d all h =
    let one : x ≡ 32 = all.0 in
    let shown : IsShown column x = subst (IsShown column) (sym one) (space_shown column) in
    let single : length (spaces_at column x) ≡ 1 = ap (λ b. length (spaces_at column b)) one in
    let next : column + 1 + length s ≡ column + length (x ∷ s) = omega arith in
    let parts : (ltb width (column + 1) || pass width false (column + 1) (characters (s ++ d))) ≡ true =
    sym (shown_first width column x (s ++ d) shown
    ∙ ap (λ n. ltb width (column + n) || pass width false (column + n) (characters (s ++ d))) single) ∙ h in
    elim (or_cases (ltb width (column + 1)) (pass width false (column + 1) (characters (s ++ d))) parts) [
      | inl t ↦ inl (lt-ltb width (column + length (x ∷ s)) (omega (arith, ltb-true width (column + 1) t)))
      | inr t ↦ subst (λ n. (ltb width n ≡ true) ⊎ (pass width false n (characters d) ≡ true)) next
          (spaces_first width (column + 1) s d all.1 t)
    ]

abbrev IsBlank : ℕ → Type 0
IsBlank b = is_blank b ≡ true

all_blank : (xs : List ℕ) → prefix_len is_blank xs ≡ length xs → AllByRecursion IsBlank xs
all_blank [] h = tt
all_blank (x ∷ xs) h =
    by_cases {C = AllByRecursion IsBlank (x ∷ xs)} (is_blank x)
    (λ t. let rest : 1 + prefix_len is_blank xs ≡ suc (length xs) = rw t at h in
    (t, all_blank xs (omega (arith, rest))))
    (λ f. let bad : 0 ≡ suc (length xs) = rw f at h in absurd (omega (arith, bad)))

-- spaces in place of blanks are no wider
spaces_narrow : (width column : ℕ) (bs d : List ℕ) → AllByRecursion IsBlank bs
    → pass width false column (characters (spaces_from column bs ++ d)) ≡ true
    → pass width false column (characters (bs ++ d)) ≡ true
spaces_narrow width column [] d all h = h
spaces_narrow width column (b ∷ bs) d all h =
    let shown : IsShown column b = blank_shown column b all.0 in
    let s : List ℕ = spaces_at column b in
    let next : ℕ = column + length s in
    let joined : pass width false column (characters (s ++ (spaces_from next bs ++ d))) ≡ true =
    ap (λ t. pass width false column (characters t)) (sym (append_assoc s (spaces_from next bs) d)) ∙ h in
    shown_first width column b (bs ++ d) shown ∙ (elim
    (spaces_first width column s (spaces_from next bs ++ d) (spaces_one column b) joined) [
      | inl t ↦ or_inl (ltb width next) (pass width false next (characters (bs ++ d))) t
      | inr t ↦ or_inr (ltb width next) (pass width false next (characters (bs ++ d)))
          (spaces_narrow width next bs d all.1 t)
    ])

-- ---- a line's text

-- without the blanks that end it
trimmed_narrow : (width : ℕ) (text : List ℕ) → is_wide width (trimmed text) ≡ true → is_wide width text ≡ true
trimmed_narrow width text h =
    let n : ℕ = length text - ending_blanks text in
    let rest : List ℕ = drop n text in
    let clean : StartsClean rest = λ some.
    let k : ℕ = prefix_len is_blank (reverse text) in
    let size : length rest ≡ length text - n = length-drop n text in
    let blanks : ending_blanks text ≡ k = ending_is text in
    let last : ℕ = k - 1 in
    let back : get_or (reverse text) last 0 ≡ get_or text (length text - 1 - last) 0 =
    get_or-reverse text last 0 (omega (arith, some, size, blanks, ending_le text)) in
    let at : length text - 1 - last ≡ n + 0 = omega (arith, some, size, blanks, ending_le text) in
    let blank : is_blank (get_or (reverse text) last 0) ≡ true =
    prefix_len_passes is_blank (reverse text) last 0 (omega (arith, some, size, blanks)) in
    let here : slice_index rest 0 ≡ get_or (reverse text) last 0 =
    get_or-drop n text 0 0 ∙ ap (λ i. get_or text i 0) (sym at) ∙ sym back in
    ap continues here ∙ blank_continues (get_or (reverse text) last 0) blank in
    let parts : characters (trimmed text ++ rest) ≡ characters (trimmed text) ++ characters rest =
    ap (λ ps. map character ps) (pieces-append (length (trimmed text)) (trimmed text) rest (omega arith) clean)
    ∙ map-append character (pieces (trimmed text)) (pieces rest) in
    let whole : characters text ≡ characters (trimmed text) ++ characters rest =
    ap characters (sym (take-append-drop n text)) ∙ parts in
    ap (pass width false 0) whole
    ∙ passed_before width 0 false (characters (trimmed text)) (characters rest) h

-- with even blanks at its beginning
even_narrow : (width : ℕ) (blanks d : List ℕ) → AllByRecursion IsBlank blanks
    → is_wide width (even_blanks blanks ++ d) ≡ true → is_wide width (blanks ++ d) ≡ true
even_narrow width blanks d all h =
    let spaces : List ℕ = spaces_from 0 blanks in
    by_cases {C = is_wide width (blanks ++ d) ≡ true} (is_none (tab_after_space blanks))
    (λ t. ap (λ b. is_wide width (cond b blanks spaces ++ d)) (sym t) ∙ h)
    (λ f. spaces_narrow width 0 blanks d all (ap (λ b. is_wide width (cond b blanks spaces ++ d)) (sym f) ∙ h))

fixed_narrow : (width : ℕ) (text : List ℕ) → is_wide width (fixed_line_text text) ≡ true
    → is_wide width text ≡ true
fixed_narrow width text h =
    let t : List ℕ = trimmed text in
    let b : List ℕ = take_while is_blank t in
    let blank : AllByRecursion IsBlank b = all_blank b (passes_taken is_blank t) in
    trimmed_narrow width text
    (ap (is_wide width) (sym (begun_whole t)) ∙ even_narrow width b (drop (length b) t) blank h)

lighter : (a b : Bool) → (a ≡ true → b ≡ true) → cond a 1 0 ≤ cond b 1 0
lighter true b h = let e : b ≡ true = h refl in rw e (omega arith)
lighter false b h = omega arith

pub fixed_lighter : (width : ℕ) (text : List ℕ) → weight width (fixed_line_text text) ≤ weight width text
fixed_lighter width text =
    lighter (is_wide width (fixed_line_text text)) (is_wide width text) (fixed_narrow width text)
