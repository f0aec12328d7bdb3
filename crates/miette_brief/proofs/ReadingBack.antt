-- The place of a row, read back.
use Rattle.std.proofs.Common.{◌≡◌, ℕ, ◌+◌, ◌<◌, ◌^◌, ◌==◌, List, [], ◌∷◌, ◌++◌, true, not, Option, Some, None, IfSome}
use Rattle.std.proofs.Common.{length, subst, refl, sym, ap, ◌∙◌, append_assoc, arith}
use Rattle.std.specs.Prelude.{decimal}
use Rattle.std.specs.List.{list_all}
use Rattle.std.specs.Str.Parse.{digits_value}
use Rattle.std.proofs.lemmas.Bool.{and_parts, not-true}
use Rattle.std.proofs.lemmas.Bool.Decides.{nat_tests}
use Rattle.std.proofs.lemmas.Fmt.{decimal_is_IsNumeral, decimal_nonempty}
use Rattle.miette_brief.specs.declared.fix_its.LineColumn.{LineColumn}
use Rattle.miette_protocol.specs.declared.protocol.Severity.TheVariants.{Advice, Warning, Error}
use Rattle.miette_brief.specs.rules.Rows.{TextRow, RowKind, finding, note, cause, help, fix, failure, one_line_text}
use Rattle.miette_brief.specs.rules.Rows.{location_text}
use Rattle.miette_brief.specs.rules.Rows.{kind_text, text_row_text}
use Rattle.miette_brief.specs.laws.ReadBack.{has_no_colon, before_colon, after_colon, number_before, position_in}
use Rattle.miette_brief.specs.laws.ReadBack.{ReadsBack, numbers_in, is_digit, position_first}
use Rattle.miette_brief.proofs.Clean.{decimal_all}

before_past : (xs ys : List ℕ) → has_no_colon xs ≡ true → before_colon (xs ++ (58 ∷ ys)) ≡ xs
before_past [] ys h = refl
before_past (x ∷ xs) ys h =
    let p = and_parts (not (x == 58)) (has_no_colon xs) h in
    rw (not-true (x == 58) p.0) (ap (λ l. x ∷ l) (before_past xs ys p.1))

after_past : (xs ys : List ℕ) → has_no_colon xs ≡ true → after_colon (xs ++ (58 ∷ ys)) ≡ ys
after_past [] ys h = refl
after_past (x ∷ xs) ys h =
    let p = and_parts (not (x == 58)) (has_no_colon xs) h in
    rw (not-true (x == 58) p.0) (after_past xs ys p.1)

digit_no_colon : (d : ℕ) → d < 10 → not ((48 + d) == 58) ≡ true
digit_no_colon d h = grind (arith, nat_tests)

decimal_no_colon : (n : ℕ) → has_no_colon (decimal n) ≡ true
decimal_no_colon n = decimal_all (λ b. not (b == 58)) digit_no_colon n

number_past : (n : ℕ) (ys : List ℕ) → n < 2 ^ 64 → number_before (decimal n ++ (58 ∷ ys)) ≡ n
number_past n ys h = ap (digits_value 10) (before_past (decimal n) ys (decimal_no_colon n))
    ∙ (decimal_is_IsNumeral n h).1

-- ---- positions

shape : (n l c rest : List ℕ) → (n ++ ((58 ∷ (l ++ (58 ∷ c))) ++ (58 ∷ 32 ∷ []))) ++ rest ≡ n
    ++ (58 ∷ (l ++ (58 ∷ (c ++ (58 ∷ (32 ∷ rest))))))
shape n l c rest = simp append_assoc

shape_alone : (n rest : List ℕ) → (n ++ (58 ∷ 32 ∷ [])) ++ rest ≡ n ++ (58 ∷ 32 ∷ rest)
shape_alone n rest = simp append_assoc

digit_no_space : (d : ℕ) → d < 10 → not ((48 + d) == 32) ≡ true
digit_no_space d h = grind (arith, nat_tests)

-- no position stands after a space, and one after anything else
position_there : (ds rest : List ℕ) → 0 < length ds → list_all (λ b. not (b == 32)) ds ≡ true
    → position_in (ds ++ rest) ≡ Some (numbers_in (ds ++ rest))
position_there [] rest some h = absurd (omega arith)
position_there (d ∷ ds) rest some h = rw (not-true (d == 32)
    (and_parts (not (d == 32)) (list_all (λ b. not (b == 32)) ds) h).0) refl

same_position : (l c : ℕ) (at : LineColumn) → l ≡ at.line → c ≡ at.column → Some (record { line = l; column = c })
    ≡ Some at
same_position l c at p q = rw (p, q) refl

position_past : (at : LineColumn) (rest : List ℕ) → at.line < 2 ^ 64 → at.column < 2 ^ 64
    → position_in (decimal at.line ++ (58 ∷ (decimal at.column ++ (58 ∷ rest)))) ≡ Some at
position_past at rest line column =
    let last = decimal at.column ++ (58 ∷ rest) in
    let after = decimal at.line ++ (58 ∷ last) in
    position_there (decimal at.line) (58 ∷ last) (decimal_nonempty at.line line)
    (decimal_all (λ b. not (b == 32)) digit_no_space at.line)
    ∙ same_position (number_before after) (number_before (after_colon after)) at (number_past at.line last line)
    (ap number_before (after_past (decimal at.line) last (decimal_no_colon at.line))
    ∙ number_past at.column rest column)

-- ---- rows

back : (n after row : List ℕ) (position : Option LineColumn) → has_no_colon n ≡ true → row ≡ n ++ (58 ∷ after)
    → position_in after ≡ position → ReadsBack n position row
back n after row position free e p = record {
  name_is = ap before_colon e ∙ before_past n after free;
  position_is = ap (λ bs. position_in (after_colon bs)) e ∙ (ap position_in (after_past n after free) ∙ p);
}

pub text_back : (name rest : List ℕ) (position : Option LineColumn) → has_no_colon (one_line_text name) ≡ true
    → IfSome position (λ at. (at.line < 2 ^ 64) × (at.column < 2 ^ 64))
    → ReadsBack (one_line_text name) position (location_text (Some name) position ++ rest)
text_back name rest None free fits = back (one_line_text name) (32 ∷ rest) (location_text (Some name) None ++ rest) None
    free
    (shape_alone (one_line_text name) rest) refl
text_back name rest (Some at) free fits =
    let line = decimal at.line in
    let column = decimal at.column in
    back (one_line_text name) (line ++ (58 ∷ (column ++ (58 ∷ (32 ∷ rest)))))
    (location_text (Some name) (Some at) ++ rest)
    (Some at) free
    (shape (one_line_text name) line column rest) (position_past at (32 ∷ rest) fits.0 fits.1)

pub place_back : (row : TextRow) (name : List ℕ) → row.place.name ≡ Some name → has_no_colon (one_line_text name) ≡ true
    → IfSome row.place.position (λ at. (at.line < 2 ^ 64) × (at.column < 2 ^ 64))
    → ReadsBack (one_line_text name) row.place.position (text_row_text row)
place_back row name en free fits =
    let rest = kind_text row.kind ++ one_line_text row.text in
    subst (λ n. ReadsBack (one_line_text name) row.place.position (location_text n row.place.position ++ rest)) (sym en)
    (text_back name rest row.place.position free fits)

-- ---- rows without a name

decimal_digits : (n : ℕ) → list_all is_digit (decimal n) ≡ true
decimal_digits n = decimal_all is_digit (λ d h. grind (arith, nat_tests)) n

first_there : (ds rest : List ℕ) → 0 < length ds → list_all is_digit ds ≡ true
    → position_first (ds ++ rest) ≡ Some (numbers_in (ds ++ rest))
first_there [] rest some h = absurd (omega arith)
first_there (d ∷ ds) rest some h = rw ((and_parts (is_digit d) (list_all is_digit ds) h).0) refl

shape_first : (l c rest : List ℕ) → ((l ++ (58 ∷ c)) ++ (58 ∷ 32 ∷ [])) ++ rest ≡ l ++ (58 ∷ (c ++ (58 ∷ (32 ∷ rest))))
shape_first l c rest = simp append_assoc

first_past : (at : LineColumn) (rest : List ℕ) → at.line < 2 ^ 64 → at.column < 2 ^ 64
    → position_first (location_text None (Some at) ++ rest) ≡ Some at
first_past at rest line column =
    let last = decimal at.column ++ (58 ∷ (32 ∷ rest)) in
    let whole = decimal at.line ++ (58 ∷ last) in
    ap position_first (shape_first (decimal at.line) (decimal at.column) rest)
    ∙ first_there (decimal at.line) (58 ∷ last) (decimal_nonempty at.line line) (decimal_digits at.line)
    ∙ same_position (number_before whole) (number_before (after_colon whole)) at (number_past at.line last line)
    (ap number_before (after_past (decimal at.line) last (decimal_no_colon at.line))
    ∙ number_past at.column (32 ∷ rest) column)

-- no kind begins with a digit
kind_first : (kind : RowKind) (rest : List ℕ) → position_first (kind_text kind ++ rest) ≡ None
kind_first (finding None code) rest = refl
kind_first (finding (Some Error) code) rest = refl
kind_first (finding (Some Warning) code) rest = refl
kind_first (finding (Some Advice) code) rest = refl
kind_first note rest = refl
kind_first cause rest = refl
kind_first help rest = refl
kind_first fix rest = refl
kind_first failure rest = refl

first_back : (position : Option LineColumn) (kind : RowKind) (text : List ℕ)
    → IfSome position (λ at. (at.line < 2 ^ 64) × (at.column < 2 ^ 64))
    → position_first (location_text None position ++ (kind_text kind ++ text)) ≡ position
first_back None kind text fits = kind_first kind text
first_back (Some at) kind text fits = first_past at (kind_text kind ++ text) fits.0 fits.1

pub nameless_back : (row : TextRow) → row.place.name ≡ None
    → IfSome row.place.position (λ at. (at.line < 2 ^ 64) × (at.column < 2 ^ 64))
    → position_first (text_row_text row) ≡ row.place.position
nameless_back row en fits =
    ap (λ n. position_first (location_text n row.place.position ++ (kind_text row.kind ++ one_line_text row.text))) en
    ∙ first_back row.place.position row.kind (one_line_text row.text) fits
