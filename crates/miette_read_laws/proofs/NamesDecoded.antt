-- A path that is written as a URI, decoded, and where it has no scheme.
use Rattle.std.proofs.Common.{◌≡◌, ◌≢◌, ⊎_elim, ℕ, ◌+◌, ◌/◌, ◌%◌, ◌<◌}
use Rattle.std.proofs.Common.{Bool, true, false, cond, eqb, ltb, List, [], ◌∷◌, ◌++◌, length, get_or, take, drop}
use Rattle.std.proofs.Common.{All, Option, Some, None, refl, sym, ap, ◌∙◌, subst, arith, append_assoc, take-append-drop}
use Rattle.std.specs.Char.{IsScalar, encode_utf8}
use Rattle.std.proofs.Math.Utf8.{scalar}
use Rattle.std.specs.List.{position, position_or_len}
use Rattle.std.specs.Str.{IsUtf8, all_scalars, encode_utf8_all}
use Rattle.std.proofs.lemmas.Bool.{and_parts, both_ways, cases_Bool, cond_both, eqb-true, ltb-true, ne_eqb}
use Rattle.std.proofs.lemmas.Bool.Decides.{nat_tests}
use Rattle.std.proofs.lemmas.List.{drop_more}
use Rattle.std.proofs.lemmas.List.Elements.{All-append, All-cons, All-drop, All-head, All-nil, All-tail, All-take}
use Rattle.std.proofs.lemmas.List.Sums.{passes_at_first}
use Rattle.percent_encoding.specs.declared.ascii_set.AsciiSet.{AsciiSet}
use Rattle.percent_encoding.specs.AsciiSet.{contains, should_percent_encode}
use Rattle.percent_encoding.specs.Percent.{percent_decode, percent_encode, percent_encode_byte}
use Rattle.percent_encoding.proofs.AsciiSetLemmas.{escaped_from_inside, kept_from_outside}
use Rattle.percent_encoding.proofs.PercentLemmas.{All-percent_encode, IsByte, IsEscapeByte, percent_decode_not_percent}
use Rattle.percent_encoding.proofs.PercentLemmas.{percent_decode-percent_encode_byte, percent_encode_escaped}
use Rattle.percent_encoding.proofs.PercentLemmas.{percent_encode_kept, percent_encode-nil, round_trip}
use Rattle.miette_sarif.specs.declared.uri.TheConstants.{PATH, SEGMENT}
use Rattle.miette_read_sarif.specs.rules.Bases.{has_scheme}
use Rattle.miette_sarif.specs.rules.Uris.{path_at, path_uri}

-- ---- bytes of a text

low_byte : (n : ℕ) → 128 + n % 64 < 256
low_byte n = omega arith

encoded_small : (c : ℕ) → c < 0x110000 → All IsByte (encode_utf8 c)
unfolding encode_utf8
encoded_small c high =
    let first : ℕ = 128 + c % 64 in
    let second : ℕ = 128 + c / 64 % 64 in
    let third : ℕ = 128 + c / 4096 % 64 in
    let one = λ (x : ℕ) (h : x < 256). All-cons IsByte x [] h (All-nil IsByte) in
    let ones = one first (low_byte c) in
    let twos = All-cons IsByte second (first ∷ []) (low_byte (c / 64)) ones in
    let threes = All-cons IsByte third (second ∷ (first ∷ [])) (low_byte (c / 4096)) twos in
    cond_both (ltb c 128) (c ∷ []) _ (All IsByte) (λ e. one c (omega (arith, ltb-true c 128 e)))
    (λ _. cond_both (ltb c 2048) ((192 + c / 64) ∷ (first ∷ [])) _ (All IsByte)
    (λ e. All-cons IsByte (192 + c / 64) (first ∷ []) (omega (arith, ltb-true c 2048 e)) ones)
    (λ _. cond_both (ltb c 65536) ((224 + c / 4096) ∷ (second ∷ (first ∷ []))) _ (All IsByte)
    (λ e. All-cons IsByte (224 + c / 4096) (second ∷ (first ∷ [])) (omega (arith, ltb-true c 65536 e)) twos)
    (λ _. All-cons IsByte (240 + c / 262144) (third ∷ (second ∷ (first ∷ []))) (omega (arith, high)) threes)))

scalar_small : (c : ℕ) → IsScalar c → c < 0x110000
scalar_small c h = grind (arith, nat_tests)

texts_small : (cs : List ℕ) → all_scalars cs ≡ true → All IsByte (encode_utf8_all cs)
texts_small [] h = All-nil IsByte
texts_small (c ∷ cs) h =
    let parts = and_parts (scalar c) (all_scalars cs) h in
    All-append IsByte (encode_utf8 c) (encode_utf8_all cs) (encoded_small c (scalar_small c parts.0))
    (texts_small cs parts.1)

pub utf8_small : (bytes : List ℕ) → IsUtf8 bytes → All IsByte bytes
utf8_small bytes u = subst (All IsByte) u.1.1 (texts_small u.0 u.1.0)

-- ---- decoding

pub decode_front : (set : AsciiSet) (xs rest : List ℕ) → contains set 37 ≡ true → All IsByte xs
    → percent_decode (percent_encode set xs ++ rest) ≡ xs ++ percent_decode rest
decode_front set [] rest has small = ap (λ l. percent_decode (l ++ rest)) (percent_encode-nil set)
decode_front set (b ∷ bs) rest has small =
    let more : b ∷ percent_decode (percent_encode set bs ++ rest) ≡ b ∷ (bs ++ percent_decode rest) =
    ap (λ l. b ∷ l) (decode_front set bs rest has (All-tail IsByte b bs small)) in
    ⊎_elim
    (λ e. ap (λ l. percent_decode (l ++ rest)) (percent_encode_escaped set b bs e)
    ∙ ap percent_decode (append_assoc (percent_encode_byte b) (percent_encode set bs) rest)
    ∙ percent_decode-percent_encode_byte b (percent_encode set bs ++ rest) (All-head IsByte b bs small) ∙ more)
    (λ e. ap (λ l. percent_decode (l ++ rest)) (percent_encode_kept set b bs e)
    ∙ percent_decode_not_percent b (percent_encode set bs ++ rest)
    (λ is. both_ways (should_percent_encode set 37) (ap (should_percent_encode set) (sym is) ∙ e)
    (escaped_from_inside set 37 has)) ∙ more)
    (cases_Bool (should_percent_encode set b))

path_decoded : (path : List ℕ) (at : Option ℕ) → All IsByte path → percent_decode (path_at path at) ≡ path
path_decoded path None small = round_trip SEGMENT path refl small
path_decoded path (Some at) small =
    decode_front SEGMENT (take at path) (percent_encode PATH (drop at path)) refl (All-take IsByte at path small)
    ∙ ap (λ l. take at path ++ l) (round_trip PATH (drop at path) refl (All-drop IsByte at path small))
    ∙ take-append-drop at path

pub decoded_path : (path : List ℕ) → All IsByte path → percent_decode (path_uri path) ≡ path
decoded_path path small = path_decoded path (position (λ x. eqb x 47) path) small

-- ---- no scheme

passed : (b c rest : Bool) → b ≡ false → rest ≡ false → cond b true (cond c false rest) ≡ false
passed b true rest h r = rw h refl
passed b false rest h r = rw (h, r) refl

no_colon : (xs : List ℕ) → All (λ x. x ≢ 58) xs → has_scheme xs ≡ false
no_colon [] h = refl
no_colon (x ∷ xs) h =
    passed (eqb x 58) (eqb x 47) (has_scheme xs) (ne_eqb x 58 (All-head (λ y. y ≢ 58) x xs h))
    (no_colon xs (All-tail (λ y. y ≢ 58) x xs h))

after_slash : (xs ys : List ℕ) → All (λ x. x ≢ 58) xs → has_scheme (xs ++ 47 ∷ ys) ≡ false
after_slash [] ys h = refl
after_slash (x ∷ xs) ys h =
    passed (eqb x 58) (eqb x 47) (has_scheme (xs ++ 47 ∷ ys)) (ne_eqb x 58 (All-head (λ y. y ≢ 58) x xs h))
    (after_slash xs ys (All-tail (λ y. y ≢ 58) x xs h))

escape_no_colon : (x : ℕ) → IsEscapeByte x → x ≢ 58
escape_no_colon x h e = grind arith

segment_no_colon : (xs : List ℕ) → All (λ x. x ≢ 58) (percent_encode SEGMENT xs)
segment_no_colon xs =
    All-percent_encode (λ x. x ≢ 58) SEGMENT xs
    (λ x kept is. both_ways (should_percent_encode SEGMENT 58) (ap (should_percent_encode SEGMENT) (sym is) ∙ kept)
    (escaped_from_inside SEGMENT 58 refl)) escape_no_colon

abbrev is_slash : ℕ → Bool
is_slash x = eqb x 47

slash_kept : (path : List ℕ) (at : ℕ) → at < length path → is_slash (get_or path at 0) ≡ true
    → percent_encode PATH (drop at path) ≡ 47 ∷ percent_encode PATH (drop (at + 1) path)
slash_kept path at h is =
    ap (percent_encode PATH) (drop_more path at 0 h
    ∙ ap (λ x. x ∷ drop (at + 1) path) (eqb-true (get_or path at 0) 47 is))
    ∙ percent_encode_kept PATH 47 (drop (at + 1) path) (kept_from_outside PATH 47 (omega arith) refl)

scheme_by : (path : List ℕ) (b : Bool) → ltb (position_or_len is_slash path) (length path) ≡ b
    → has_scheme (path_at path (cond b (Some (position_or_len is_slash path)) None)) ≡ false
scheme_by path false e = no_colon (percent_encode SEGMENT path) (segment_no_colon path)
scheme_by path true e =
    let at : ℕ = position_or_len is_slash path in
    let within : at < length path = ltb-true at (length path) e in
    ap (λ l. has_scheme (percent_encode SEGMENT (take at path) ++ l))
    (slash_kept path at within (passes_at_first is_slash path 0 within))
    ∙ after_slash (percent_encode SEGMENT (take at path)) (percent_encode PATH (drop (at + 1) path))
    (segment_no_colon (take at path))

-- a path that is written as a URI begins with no scheme
pub no_scheme : (path : List ℕ) → has_scheme (path_uri path) ≡ false
no_scheme path = scheme_by path (ltb (position_or_len is_slash path) (length path)) refl
