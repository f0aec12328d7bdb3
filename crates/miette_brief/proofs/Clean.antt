-- No row is empty, and none has a control character.
use Rattle.std.proofs.Common.{◌≡◌, ◌≢◌, ℕ, suc, zero, ◌+◌, ◌<◌, ◌≤◌, ◌/◌, ◌%◌, ◌==◌, List, [], ◌∷◌, ◌++◌, Bool, true}
use Rattle.std.proofs.Common.{false}
use Rattle.std.proofs.Common.{cond, ◌&&◌, nat_le, nat_lt, Option, Some, None, refl, ap, ap₂, ◌∙◌, codes, arith}
use Rattle.std.specs.Prelude.{encode_utf8_all, decimal, if◌then◌else◌, ◌||◌, unwrap_or}
use Rattle.std.specs.Fmt.{digits, digits_onto, digit_glyph}
use Rattle.std.specs.Char.{is_control}
use Rattle.std.specs.List.{list_all}
use Rattle.std.specs.Str.{NoCharPasses, NonePass, chars}
use Rattle.std.proofs.lemmas.Bool.{lt-ltb, and_parts, leb-true, ltb-true}
use Rattle.std.proofs.lemmas.Bool.Decides.{nat_tests}
use Rattle.std.proofs.lemmas.Str.{encode_ascii, NoCharPasses-nil, NoCharPasses-append}
use Rattle.miette_protocol.specs.declared.protocol.Severity.{Severity}
use Rattle.miette_protocol.specs.declared.protocol.Severity.TheVariants.{Advice, Warning, Error}
use Rattle.miette_tree.specs.rules.DiagnosticParts.{severity_text}
use Rattle.miette_lines.proofs.Cases.{by_cases}
use Rattle.miette_brief.specs.declared.fix_its.LineColumn.{LineColumn}
use Rattle.miette_brief.specs.rules.FixIts.{FixIt, octal, escaped_byte, escaped, in_quotes, position_text, range_text}
use Rattle.miette_brief.specs.rules.FixIts.{fix_it_text}
use Rattle.miette_brief.specs.rules.Rows.{RowKind, finding, note, cause, help, fix, failure, TextRow, ReportRow, told}
use Rattle.miette_brief.specs.rules.Rows.{applied}
use Rattle.miette_brief.specs.rules.Rows.{gap, shown_for, spaced_text, one_line_text, position_after_colon}
use Rattle.miette_brief.specs.rules.Rows.{location_text}
use Rattle.miette_brief.specs.rules.Rows.{code_text, kind_text, text_row_text, row_text}

-- ---- no control character

none_in_gap : (b : Bool) (cs : List ℕ) → NonePass is_control cs → NonePass is_control (gap b ++ cs)
none_in_gap true cs h = h
none_in_gap false cs h = (refl, h)

none_spaced : (b : Bool) (cs : List ℕ) → NonePass is_control (spaced_text b cs)
none_spaced b [] = tt
none_spaced b (c ∷ cs) =
    by_cases {C = NonePass is_control (shown_for b c ++ spaced_text (is_control c) cs)} (is_control c)
    (λ t. rw t (none_in_gap b (spaced_text true cs) (none_spaced true cs)))
    (λ f. rw f (f, none_spaced false cs))

pub row_clean : (text : List ℕ) → NoCharPasses is_control (one_line_text text)
row_clean text = (spaced_text false (chars text), refl, none_spaced false (chars text))

-- printable ASCII
abbrev pub is_plain : ℕ → Bool
is_plain b = nat_le 32 b && nat_lt b 127

plain_shown : (b : ℕ) → is_plain b ≡ true → is_control b ≡ false
plain_shown b h =
    let p = and_parts (nat_le 32 b) (nat_lt b 127) h in
    let low : 32 ≤ b = leb-true 32 b p.0 in
    let high : b < 127 = ltb-true b 127 p.1 in
    grind (arith, nat_tests)

plain_none : (bs : List ℕ) → list_all is_plain bs ≡ true → (encode_utf8_all bs ≡ bs) × NonePass is_control bs
plain_none [] h = (refl, tt)
plain_none (b ∷ bs) h =
    let p = and_parts (is_plain b) (list_all is_plain bs) h in
    let q = and_parts (nat_le 32 b) (nat_lt b 127) p.0 in
    let high : b < 127 = ltb-true b 127 q.1 in
    let more = plain_none bs p.1 in
    (ap₂ (λ x y. x ++ y) (encode_ascii b (omega arith)) more.0, (plain_shown b p.0, more.1))

pub plain_clean : (bs : List ℕ) → list_all is_plain bs ≡ true → NoCharPasses is_control bs
plain_clean bs h = (let p = plain_none bs h in (bs, p.0, p.1))

-- ---- digits

glyph_is : (d : ℕ) → d < 10 → digit_glyph false d ≡ 48 + d
glyph_is d h = ap (λ b. cond b (48 + d) (87 + d)) (lt-ltb d 10 h)

digit_plain : (d : ℕ) → d < 10 → is_plain (48 + d) ≡ true
digit_plain d h = grind (arith, nat_tests)

onto_all : (p : ℕ → Bool) → ((d : ℕ) → d < 10 → p (48 + d) ≡ true) → (k n : ℕ) (acc : List ℕ) → list_all p acc ≡ true
    → list_all p (digits_onto k 10 false n acc) ≡ true
onto_all p each zero n acc h = h
onto_all p each (suc k) n acc h =
    let low : n % 10 < 10 = omega arith in
    let here : p (digit_glyph false (n % 10)) ≡ true = ap p (glyph_is (n % 10) low) ∙ each (n % 10) low in
    let more : list_all p (digit_glyph false (n % 10) ∷ acc) ≡ true = ap₂ (λ x y. x && y) here h in
    by_cases {C = list_all p (digits_onto (suc k) 10 false n acc) ≡ true} (n / 10 == 0)
    (λ t. rw t more)
    (λ f. rw f (onto_all p each k (n / 10) (digit_glyph false (n % 10) ∷ acc) more))

-- each digit of a number passes a test that each digit passes
pub decimal_all : (p : ℕ → Bool) → ((d : ℕ) → d < 10 → p (48 + d) ≡ true) → (n : ℕ) → list_all p (decimal n) ≡ true
unfolding digits
decimal_all p each n = onto_all p each 64 n [] refl

decimal_plain : (n : ℕ) → list_all is_plain (decimal n) ≡ true
decimal_plain n = decimal_all is_plain digit_plain n

-- ---- the parts of a row

both_clean : (xs ys : List ℕ) → NoCharPasses is_control xs → NoCharPasses is_control ys
    → NoCharPasses is_control (xs ++ ys)
both_clean xs ys = NoCharPasses-append is_control xs ys

position_clean : (at : LineColumn) → NoCharPasses is_control (position_text at)
position_clean at =
    both_clean (decimal at.line) (codes ":" ++ decimal at.column)
    (plain_clean (decimal at.line) (decimal_plain at.line))
    (both_clean (codes ":") (decimal at.column) (plain_clean (codes ":") refl)
    (plain_clean (decimal at.column) (decimal_plain at.column)))

after_clean : (position : Option LineColumn) → NoCharPasses is_control (position_after_colon position)
after_clean None = NoCharPasses-nil is_control
after_clean (Some at) = both_clean (codes ":") (position_text at) (plain_clean (codes ":") refl) (position_clean at)

place_clean : (name : Option (List ℕ)) (position : Option LineColumn) → NoCharPasses is_control
    (location_text name position)
place_clean None None = NoCharPasses-nil is_control
place_clean None (Some at) = both_clean (position_text at) (codes ": ") (position_clean at)
    (plain_clean (codes ": ") refl)
place_clean (Some name) position =
    both_clean (one_line_text name) (position_after_colon position ++ codes ": ") (row_clean name)
    (both_clean (position_after_colon position) (codes ": ") (after_clean position) (plain_clean (codes ": ") refl))

code_clean : (code : Option (List ℕ)) → NoCharPasses is_control (code_text code)
code_clean None = NoCharPasses-nil is_control
code_clean (Some code) =
    both_clean (codes "[") (one_line_text code ++ codes "]") (plain_clean (codes "[") refl)
    (both_clean (one_line_text code) (codes "]") (row_clean code) (plain_clean (codes "]") refl))

severity_plain : (severity : Option Severity) → list_all is_plain (severity_text severity) ≡ true
severity_plain None = refl
severity_plain (Some Error) = refl
severity_plain (Some Warning) = refl
severity_plain (Some Advice) = refl

kind_clean : (kind : RowKind) → NoCharPasses is_control (kind_text kind)
kind_clean (finding severity code) =
    both_clean (severity_text severity) (code_text code ++ codes ": ")
    (plain_clean (severity_text severity) (severity_plain severity))
    (both_clean (code_text code) (codes ": ") (code_clean code) (plain_clean (codes ": ") refl))
kind_clean note = plain_clean (codes "note: ") refl
kind_clean cause = plain_clean (codes "note: caused by: ") refl
kind_clean help = plain_clean (codes "help: ") refl
kind_clean fix = plain_clean (codes "fix: ") refl
kind_clean failure = plain_clean (codes "note: failed to apply fix: ") refl

told_clean : (row : TextRow) → NoCharPasses is_control (text_row_text row)
told_clean row =
    both_clean (location_text row.place.name row.place.position) (kind_text row.kind ++ one_line_text row.text)
    (place_clean row.place.name row.place.position)
    (both_clean (kind_text row.kind) (one_line_text row.text) (kind_clean row.kind) (row_clean row.text))

-- ---- the row of an edit

pub both_pass : (test : ℕ → Bool) (xs ys : List ℕ) → list_all test xs ≡ true → list_all test ys ≡ true
    → list_all test (xs ++ ys) ≡ true
both_pass test [] ys h g = g
both_pass test (x ∷ xs) ys h g =
    let p = and_parts (test x) (list_all test xs) h in
    ap₂ (λ a b. a && b) p.0 (both_pass test xs ys p.1 g)

two_plain : (xs ys : List ℕ) → list_all is_plain xs ≡ true → list_all is_plain ys ≡ true
    → list_all is_plain (xs ++ ys) ≡ true
two_plain xs ys = both_pass is_plain xs ys

octal_plain : (b : ℕ) → list_all is_plain (octal b) ≡ true
octal_plain b =
    let high : b / 64 % 8 < 10 = omega arith in
    let middle : b / 8 % 8 < 10 = omega arith in
    let low : b % 8 < 10 = omega arith in
    ap₂ (λ p q. p && (q && (is_plain (48 + b % 8) && true))) (digit_plain (b / 64 % 8) high)
    (digit_plain (b / 8 % 8) middle)
    ∙ ap (λ p. p && true) (digit_plain (b % 8) low)

-- a byte that is escaped by a test or else as more tests say
either : (test : Bool) (xs ys : List ℕ) → (test ≡ true → list_all is_plain xs ≡ true) → list_all is_plain ys ≡ true
    → list_all is_plain (if test then xs else ys) ≡ true
either true xs ys h g = h refl
either false xs ys h g = g

escaped_quote : (b : ℕ) → ((b == 34) || (b == 92)) ≡ true → list_all is_plain (92 ∷ b ∷ []) ≡ true
escaped_quote b h = grind (arith, nat_tests)

byte_plain : (b : ℕ) → list_all is_plain (escaped_byte b) ≡ true
byte_plain b =
    either ((b == 34) || (b == 92)) (92 ∷ b ∷ []) _ (escaped_quote b)
    (either (b == 10) (92 ∷ 110 ∷ []) _ (λ h. refl)
    (either (b == 9) (92 ∷ 116 ∷ []) _ (λ h. refl)
    (either (is_plain b) (b ∷ []) (octal b) (λ h. ap (λ p. p && true) h) (octal_plain b))))

escaped_plain : (bs : List ℕ) → list_all is_plain (escaped bs) ≡ true
escaped_plain [] = refl
escaped_plain (b ∷ bs) = two_plain (escaped_byte b) (escaped bs) (byte_plain b) (escaped_plain bs)

quotes_plain : (bs : List ℕ) → list_all is_plain (in_quotes bs) ≡ true
quotes_plain bs =
    two_plain (codes "\"") (escaped bs ++ codes "\"") refl
    (two_plain (escaped bs) (codes "\"") (escaped_plain bs) refl)

position_plain : (at : LineColumn) → list_all is_plain (position_text at) ≡ true
position_plain at =
    two_plain (decimal at.line) (codes ":" ++ decimal at.column) (decimal_plain at.line)
    (two_plain (codes ":") (decimal at.column) refl (decimal_plain at.column))

range_plain : (start end : LineColumn) → list_all is_plain (range_text start end) ≡ true
range_plain start end =
    two_plain (codes "{") (position_text start ++ (codes "-" ++ (position_text end ++ codes "}"))) refl
    (two_plain (position_text start) (codes "-" ++ (position_text end ++ codes "}")) (position_plain start)
    (two_plain (codes "-") (position_text end ++ codes "}") refl
    (two_plain (position_text end) (codes "}") (position_plain end) refl)))

fix_it_plain : (it : FixIt) → list_all is_plain (fix_it_text it) ≡ true
fix_it_plain it =
    let name = in_quotes (unwrap_or it.name []) in
    let range = range_text it.start it.end in
    let text = in_quotes it.text in
    two_plain (codes "fix-it:") (name ++ (codes ":" ++ (range ++ (codes ":" ++ text)))) refl
    (two_plain name (codes ":" ++ (range ++ (codes ":" ++ text))) (quotes_plain (unwrap_or it.name []))
    (two_plain (codes ":") (range ++ (codes ":" ++ text)) refl
    (two_plain range (codes ":" ++ text) (range_plain it.start it.end)
    (two_plain (codes ":") text refl (quotes_plain it.text)))))

pub text_clean : (row : ReportRow) → NoCharPasses is_control (row_text row)
text_clean (told row) = told_clean row
text_clean (applied row) = plain_clean (fix_it_text row) (fix_it_plain row)

-- ---- no row is empty

pub record IsCons (bs : List ℕ) : Type 0 where
  pub first : ℕ
  pub more : List ℕ
  pub is : bs ≡ first ∷ more

severity_cons : (severity : Option Severity) (bs : List ℕ) → IsCons (severity_text severity ++ bs)
severity_cons None bs = record { first = _; more = _; is = refl }
severity_cons (Some Error) bs = record { first = _; more = _; is = refl }
severity_cons (Some Warning) bs = record { first = _; more = _; is = refl }
severity_cons (Some Advice) bs = record { first = _; more = _; is = refl }

kind_cons : (kind : RowKind) (bs : List ℕ) → IsCons (kind_text kind ++ bs)
kind_cons (finding severity code) bs =
    let more = severity_cons severity (code_text code ++ codes ": ") in
    record { first = more.first; more = more.more ++ bs; is = ap (λ l. l ++ bs) more.is }
kind_cons note bs = record { first = _; more = _; is = refl }
kind_cons cause bs = record { first = _; more = _; is = refl }
kind_cons help bs = record { first = _; more = _; is = refl }
kind_cons fix bs = record { first = _; more = _; is = refl }
kind_cons failure bs = record { first = _; more = _; is = refl }

never_nil : (xs ys : List ℕ) (y : ℕ) (more : List ℕ) → ys ≡ y ∷ more → xs ++ ys ≢ []
never_nil [] ys y more e h = cc
never_nil (x ∷ xs) ys y more e h = cc

told_nonempty : (row : TextRow) → text_row_text row ≢ []
told_nonempty row =
    let k = kind_cons row.kind (one_line_text row.text) in
    never_nil (location_text row.place.name row.place.position) (kind_text row.kind ++ one_line_text row.text) k.first
    k.more
    k.is

pub text_nonempty : (row : ReportRow) → row_text row ≢ []
text_nonempty (told row) = told_nonempty row
text_nonempty (applied row) = λ h. (let no : fix_it_text row ≡ [] = h in cc)
