-- A fixed text of a line has no blanks at its end, and no tab after a space in those at its beginning.
use Rattle.std.proofs.Common.{◌≡◌, ℕ, zero, suc, ◌+◌, ◌-◌, ◌%◌, ◌<◌, ◌≤◌, Bool, true, false, cond, eqb, ltb, List, []}
use Rattle.std.proofs.Common.{◌∷◌}
use Rattle.std.proofs.Common.{◌++◌, length, take, drop, get_or, reverse, Option, Some, None, refl, sym, ap, ◌∙◌, arith}
use Rattle.std.proofs.Common.{subst, inl, inr}
use Rattle.std.specs.Prelude.{codes, is_none, position, take_while, All}
use Rattle.std.specs.List.{AllByRecursion, position_or_len, prefix_len}
use Rattle.std.specs.Option.{option_and_then, option_map}
use Rattle.std.proofs.lemmas.Bool.{cases_lt, eq-eqb, le-ltb}
use Rattle.std.proofs.lemmas.List.{get_or-reverse, length-drop, length-reverse, reverse-append}
use Rattle.std.proofs.lemmas.List.{append-nil, take-append-drop}
use Rattle.std.proofs.lemmas.List.Elements.{All-append, All-cons, All-drop, All-nil, All-take}
use Rattle.std.proofs.lemmas.List.Folds.{length-prefix_len, prefix_len-append}
use Rattle.std.proofs.lemmas.List.Sums.{prefix_len-drop_all, prefix_len-drop_no, prefix_len-le-length}
use Rattle.std.proofs.lemmas.List.Sums.{prefix_len_passes}
use Rattle.std.proofs.lemmas.List.Sums.{prefix_len_stops}
use Rattle.std.proofs.Math.Seq.{drop-append_seam, take-append_seam}
use Rattle.miette_lines.proofs.Cases.{by_cases}
use Rattle.miette_lines.specs.rules.Lines.{is_text}
use Rattle.miette_lint.specs.rules.Findings.{ending_blanks, is_blank, tab_after_space, tab_from}
use Rattle.miette_lint.specs.rules.Fixes.{even_blanks, evened, fixed_line_text, spaces_at, spaces_from, trimmed}

-- ---- elements from the front on that pass

-- after them comes one that doesn't
rest_stops : (p : ℕ → Bool) (xs : List ℕ) → prefix_len p (drop (prefix_len p xs) xs) ≡ 0
rest_stops p xs =
    elim (cases_lt (prefix_len p xs) (length xs)) [
      | inl lt ↦ prefix_len-drop_no p xs (prefix_len p xs) 0 lt (prefix_len_stops p xs 0 lt)
      | inr le ↦ prefix_len-drop_all p xs (prefix_len p xs) le
    ]

passes_upto : (p : ℕ → Bool) (n : ℕ) (xs : List ℕ) → n ≡ prefix_len p xs
    → prefix_len p (take n xs) ≡ length (take n xs)
passes_upto p zero xs e = refl
passes_upto p (suc n) [] e = refl
passes_upto p (suc n) (x ∷ xs) e =
    by_cases {C = prefix_len p (take (suc n) (x ∷ xs)) ≡ length (take (suc n) (x ∷ xs))} (p x)
    (λ t. let g : suc n ≡ 1 + prefix_len p xs = e ∙ ap (λ b. cond b (1 + prefix_len p xs) 0) t in
    rw t (omega (arith, passes_upto p n xs (omega (arith, g)))))
    (λ f. let g : suc n ≡ 0 = e ∙ ap (λ b. cond b (1 + prefix_len p xs) 0) f in absurd (omega (arith, g)))

pub passes_taken : (p : ℕ → Bool) (xs : List ℕ)
    → prefix_len p (take (prefix_len p xs) xs) ≡ length (take (prefix_len p xs) xs)
passes_taken p xs = passes_upto p (prefix_len p xs) xs refl

-- before one that doesn't
passes_before : (p : ℕ → Bool) (xs ys : List ℕ) → prefix_len p xs ≡ length xs → prefix_len p ys ≡ 0
    → take_while p (xs ++ ys) ≡ xs
passes_before p xs ys h k =
    let e : eqb (prefix_len p xs) (length xs) ≡ true = eq-eqb (prefix_len p xs) (length xs) h in
    let f : prefix_len p (xs ++ ys) ≡ length xs + prefix_len p ys = prefix_len-append p xs ys
    ∙ ap (λ b. cond b (length xs + prefix_len p ys) (prefix_len p xs)) e in
    let g : prefix_len p (xs ++ ys) ≡ length xs = omega (arith, f, k) in
    ap (λ n. take n (xs ++ ys)) g ∙ take-append_seam xs ys

-- what comes after the first doesn't matter where that doesn't pass
same_front : (p : ℕ → Bool) (xs ys zs : List ℕ) → 0 < length xs → prefix_len p (xs ++ ys) ≡ 0
    → prefix_len p (xs ++ zs) ≡ 0
same_front p [] ys zs some h = absurd (omega (arith, some))
same_front p (x ∷ xs) ys zs some h =
    by_cases {C = prefix_len p ((x ∷ xs) ++ zs) ≡ 0} (p x)
    (λ t. let bad = rw t at h in absurd (omega (arith, bad))) (λ f. rw f refl)

-- ---- the blanks that end a text

pub ending_is : (text : List ℕ) → ending_blanks text ≡ prefix_len is_blank (reverse text)
ending_is text = length-prefix_len is_blank (reverse text)

pub ending_le : (text : List ℕ) → ending_blanks text ≤ length text
ending_le text = omega (arith, ending_is text, prefix_len-le-length is_blank (reverse text), length-reverse text)

trimmed_back : (text : List ℕ) → reverse (trimmed text) ≡ drop (prefix_len is_blank (reverse text)) (reverse text)
trimmed_back text =
    let m : ℕ = length text - ending_blanks text in
    let back : List ℕ = reverse (drop m text) in
    let front : List ℕ = reverse (take m text) in
    let k : ℕ = prefix_len is_blank (reverse text) in
    let whole : reverse text ≡ back ++ front =
    ap reverse (sym (take-append-drop m text)) ∙ reverse-append (take m text) (drop m text) in
    let size : length back ≡ k =
    omega (arith, length-reverse (drop m text), length-drop m text, ending_is text, ending_le text) in
    sym (ap (drop k) whole ∙ ap (λ j. drop j (back ++ front)) (sym size) ∙ drop-append_seam back front)

pub trimmed_ends : (text : List ℕ) → ending_blanks (trimmed text) ≡ 0
trimmed_ends text =
    ending_is (trimmed text) ∙ ap (prefix_len is_blank) (trimmed_back text) ∙ rest_stops is_blank (reverse text)

-- a text of blanks alone that doesn't end in one
only_blanks : (text : List ℕ) → ending_blanks text ≡ 0 → prefix_len is_blank text ≡ length text → text ≡ []
only_blanks [] h all = refl
only_blanks (b ∷ bs) h all =
    let text : List ℕ = b ∷ bs in
    let none : prefix_len is_blank (reverse text) ≡ 0 = sym (ending_is text) ∙ h in
    let size : length (reverse text) ≡ length text = length-reverse text in
    let last : ℕ = length text - 1 - 0 in
    let stops : is_blank (get_or (reverse text) (prefix_len is_blank (reverse text)) 0) ≡ false =
    prefix_len_stops is_blank (reverse text) 0 (omega (arith, none, size)) in
    let at : is_blank (get_or (reverse text) 0 0) ≡ false =
    subst (λ n. is_blank (get_or (reverse text) n 0) ≡ false) none stops in
    let same : get_or (reverse text) 0 0 ≡ get_or text last 0 = get_or-reverse text 0 0 (omega arith) in
    let passes : is_blank (get_or text last 0) ≡ true = prefix_len_passes is_blank text last 0 (omega (arith, all)) in
    let bad : false ≡ true = sym at ∙ ap is_blank same ∙ passes in absurd (cc)

-- ---- spaces

abbrev pub IsSpace : ℕ → Type 0
IsSpace b = b ≡ 32

none : (n : ℕ) → AllByRecursion IsSpace (take n [])
none zero = tt
none (suc n) = tt

four : (n : ℕ) → AllByRecursion IsSpace (take n (codes "    "))
four zero = tt
four (suc zero) = (refl, tt)
four (suc (suc zero)) = (refl, (refl, tt))
four (suc (suc (suc zero))) = (refl, (refl, (refl, tt)))
four (suc (suc (suc (suc n)))) = (refl, (refl, (refl, (refl, none n))))

pub spaces_one : (column b : ℕ) → AllByRecursion IsSpace (spaces_at column b)
spaces_one column b =
    by_cases {C = AllByRecursion IsSpace (spaces_at column b)} (eqb b 9)
    (λ t. rw t (four (4 - column % 4))) (λ f. rw f (refl, tt))

spaces_joined : (xs ys : List ℕ) → AllByRecursion IsSpace xs → AllByRecursion IsSpace ys
    → AllByRecursion IsSpace (xs ++ ys)
spaces_joined [] ys h k = k
spaces_joined (x ∷ xs) ys h k = (h.0, spaces_joined xs ys h.1 k)

pub spaces_all : (column : ℕ) (bs : List ℕ) → AllByRecursion IsSpace (spaces_from column bs)
spaces_all column [] = tt
spaces_all column (b ∷ bs) = spaces_joined (spaces_at column b)
    (spaces_from (column + length (spaces_at column b)) bs) (spaces_one column b)
    (spaces_all (column + length (spaces_at column b)) bs)

spaces_pass : (xs : List ℕ) → AllByRecursion IsSpace xs → prefix_len is_blank xs ≡ length xs
spaces_pass [] h = refl
spaces_pass (x ∷ xs) h =
    let e : is_blank x ≡ true = ap is_blank h.0 in rw e (omega (arith, spaces_pass xs h.1))

-- no tab among them
no_tabs : (xs : List ℕ) → AllByRecursion IsSpace xs → position_or_len (λ b. eqb b 9) xs ≡ length xs
no_tabs [] h = refl
no_tabs (x ∷ xs) h =
    let e : eqb x 9 ≡ false = ap (λ b. eqb b 9) h.0 in rw e (omega (arith, no_tabs xs h.1))

spaces_dropped : (n : ℕ) (xs : List ℕ) → AllByRecursion IsSpace xs → AllByRecursion IsSpace (drop n xs)
spaces_dropped zero xs h = h
spaces_dropped (suc n) [] h = tt
spaces_dropped (suc n) (x ∷ xs) h = spaces_dropped n xs h.1

none_after : (xs : List ℕ) (o : Option ℕ) → AllByRecursion IsSpace xs → option_and_then (tab_from xs) o ≡ None
none_after xs None h = refl
none_after xs (Some s) h =
    let rest : List ℕ = drop s xs in
    let e : position_or_len (λ b. eqb b 9) rest ≡ length rest = no_tabs rest (spaces_dropped s xs h) in
    let f : ltb (position_or_len (λ b. eqb b 9) rest) (length rest) ≡ false =
    le-ltb (position_or_len (λ b. eqb b 9) rest) (length rest) (omega (arith, e)) in
    let g : position (λ b. eqb b 9) rest ≡ None =
    ap (λ b. cond b (Some (position_or_len (λ b. eqb b 9) rest)) None) f in
    ap (option_map (λ t. s + t)) g

-- ---- even blanks

pub record AreEven (blanks : List ℕ) : Type 0 where
  pub blank : prefix_len is_blank blanks ≡ length blanks
  pub none : tab_after_space blanks ≡ None

none_of : (o : Option ℕ) → is_none o ≡ true → o ≡ None
none_of None h = refl
none_of (Some x) h = absurd (cc)

pub evened_are : (blanks : List ℕ) → prefix_len is_blank blanks ≡ length blanks → AreEven (even_blanks blanks)
evened_are blanks h =
    by_cases {C = AreEven (even_blanks blanks)} (is_none (tab_after_space blanks))
    (λ t. rw t (record { blank = h; none = none_of (tab_after_space blanks) t }))
    (λ f. let all : AllByRecursion IsSpace (spaces_from 0 blanks) = spaces_all 0 blanks in
    rw f (record {
      blank = spaces_pass (spaces_from 0 blanks) all;
      none = none_after (spaces_from 0 blanks) (position (λ b. eqb b 32) (spaces_from 0 blanks)) all;
    }))

-- ---- a line's text

-- no blanks at the end, and even ones at the beginning
pub record IsClean (text : List ℕ) : Type 0 where
  pub ends : ending_blanks text ≡ 0
  pub begins : tab_after_space (take_while is_blank text) ≡ None

-- even blanks, and then what is no blank at either end
clean_some : (s b d : List ℕ) → AreEven s → ending_blanks (b ++ d) ≡ 0 → prefix_len is_blank d ≡ 0 → 0 < length d
    → IsClean (s ++ d)
clean_some s b d even h k some =
    let old : prefix_len is_blank (reverse d ++ reverse b) ≡ 0 =
    ap (prefix_len is_blank) (sym (reverse-append b d)) ∙ sym (ending_is (b ++ d)) ∙ h in
    record {
      ends = ending_is (s ++ d) ∙ ap (prefix_len is_blank) (reverse-append s d)
          ∙ same_front is_blank (reverse d) (reverse b) (reverse s) (omega (arith, some, length-reverse d)) old;
      begins = ap tab_after_space (passes_before is_blank s d even.blank k) ∙ even.none;
    }

clean_nil : IsClean []
clean_nil = record { ends = refl; begins = refl }

clean_parts : (text b d : List ℕ) → text ≡ b ++ d → ending_blanks text ≡ 0 → prefix_len is_blank b ≡ length b
    → prefix_len is_blank d ≡ 0 → IsClean (even_blanks b ++ d)
clean_parts text b [] is h blank k =
    let whole : text ≡ b = is ∙ append-nil b in
    let none : b ≡ [] = only_blanks b (ap ending_blanks (sym whole) ∙ h) blank in
    subst (λ x. IsClean (even_blanks x ++ [])) (sym none) clean_nil
clean_parts text b (c ∷ cs) is h blank k =
    clean_some (even_blanks b) b (c ∷ cs) (evened_are b blank) (ap ending_blanks (sym is) ∙ h) k (omega arith)

pub begun_whole : (text : List ℕ) → take_while is_blank text ++ drop (length (take_while is_blank text)) text ≡ text
begun_whole text =
    ap (λ n. take_while is_blank text ++ drop n text) (length-prefix_len is_blank text)
    ∙ take-append-drop (prefix_len is_blank text) text

pub clean_line : (text : List ℕ) → IsClean (fixed_line_text text)
clean_line text =
    let t : List ℕ = trimmed text in
    let b : List ℕ = take_while is_blank t in
    let size : length b ≡ prefix_len is_blank t = length-prefix_len is_blank t in
    let whole : t ≡ b ++ drop (length b) t =
    sym (ap (λ n. b ++ drop n t) size ∙ take-append-drop (prefix_len is_blank t) t) in
    let stops : prefix_len is_blank (drop (length b) t) ≡ 0 =
    ap (λ n. prefix_len is_blank (drop n t)) size ∙ rest_stops is_blank t in
    clean_parts t b (drop (length b) t) whole (trimmed_ends text) (passes_taken is_blank t) stops

-- a clean text stays

all_taken : (xs : List ℕ) → take (length xs + 0) xs ≡ xs
all_taken xs = let n : length xs + 0 ≡ length xs = omega arith in
    ap (λ k. take k xs) n ∙ ap (take (length xs)) (sym (append-nil xs)) ∙ take-append_seam xs []

pub trimmed_same : (text : List ℕ) → ending_blanks text ≡ 0 → trimmed text ≡ text
trimmed_same text h =
    let n : length text - ending_blanks text ≡ length text + 0 = omega (arith, h) in
    ap (λ k. take k text) n ∙ all_taken text

pub clean_stays : (text : List ℕ) → IsClean text → fixed_line_text text ≡ text
clean_stays text h =
    let b : List ℕ = take_while is_blank text in
    let size : length b ≡ prefix_len is_blank text = length-prefix_len is_blank text in
    let even : even_blanks b ≡ b = ap (λ (o : Option ℕ). cond (is_none o) b (spaces_from 0 b)) h.begins in
    ap evened (trimmed_same text h.ends) ∙ ap (λ s. s ++ drop (length b) text) even
    ∙ ap (λ n. b ++ drop n text) size ∙ take-append-drop (prefix_len is_blank text) text

-- ---- no LF and CR

abbrev IsText : ℕ → Type 0
IsText b = is_text b ≡ true

spaces_text : (xs : List ℕ) → AllByRecursion IsSpace xs → All IsText xs
spaces_text [] h = All-nil IsText
spaces_text (x ∷ xs) h = All-cons IsText x xs (ap is_text h.0) (spaces_text xs h.1)

even_text : (blanks : List ℕ) → All IsText blanks → All IsText (even_blanks blanks)
even_text blanks h =
    let spaces : List ℕ = spaces_from 0 blanks in
    by_cases {C = All IsText (even_blanks blanks)} (is_none (tab_after_space blanks))
    (λ t. subst (All IsText) (sym (ap (λ b. cond b blanks spaces) t)) h)
    (λ f. subst (All IsText) (sym (ap (λ b. cond b blanks spaces) f)) (spaces_text spaces (spaces_all 0 blanks)))

pub text_line : (text : List ℕ) → All IsText text → All IsText (fixed_line_text text)
text_line text h =
    let t : List ℕ = trimmed text in
    let all : All IsText t = All-take IsText (length text - ending_blanks text) text h in
    All-append IsText (even_blanks (take_while is_blank t)) (drop (length (take_while is_blank t)) t)
    (even_text (take_while is_blank t) (All-take IsText (prefix_len is_blank t) t all))
    (All-drop IsText (length (take_while is_blank t)) t all)
