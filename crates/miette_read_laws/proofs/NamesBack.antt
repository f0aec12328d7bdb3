-- The names that are read of the URIs that we write of names.
use Rattle.std.proofs.Common.{◌≡◌, ◌≢◌, ⊎_elim, ℕ, zero, suc, ◌/◌, ◌%◌, ◌<◌, Bool, true, false, cond, eqb, ltb, not}
use Rattle.std.proofs.Common.{◌&&◌, List, [], ◌∷◌, ◌++◌, All, length, take, drop, take-append-drop, Some, None}
use Rattle.std.proofs.Common.{codes, arith, refl, sym, ap, ◌∙◌}
use Rattle.std.specs.Prelude.{decimal}
use Rattle.std.specs.Cmp.Lexicographic.{same_text}
use Rattle.std.specs.Fmt.{digit_glyph, digits, digits_onto}
use Rattle.std.specs.List.{list_all, starts_with}
use Rattle.std.specs.Str.{IsUtf8}
use Rattle.std.specs.Str.Lossy.{utf8_lossy}
use Rattle.std.proofs.lemmas.Bool.{and_parts, both_ways, cases_Bool, cond_both}
use Rattle.std.proofs.lemmas.Bool.Decides.{nat_tests}
use Rattle.std.proofs.lemmas.List.Elements.{All-append, All-cons, All-head, All-nil, All-tail, All-weaker}
use Rattle.std.proofs.lemmas.Str.{IsUtf8-from_ascii, utf8_lossy-IsUtf8}
use Rattle.std.proofs.lemmas.Str.Ascii.{IsAscii-from_all}
use Rattle.percent_encoding.specs.Percent.{percent_decode, percent_encode}
use Rattle.percent_encoding.proofs.PercentLemmas.{IsByte, percent_decode-nil, percent_decode_not_percent}
use Rattle.miette_sarif.specs.declared.uri.TheConstants.{ADDRESS}
use Rattle.miette_read_laws.specs.laws.NamesBack.{IsPlainAddress, IsPlainName}
use Rattle.miette_read_sarif.specs.rules.Bases.{has_scheme}
use Rattle.miette_read_sarif.specs.rules.Uris.{after_front, uri_file_name, or_path, or_uri, path_of}
use Rattle.miette_sarif.specs.rules.Uris.{address_uri, begins_with_hex, begins_with_slash, name_uri, path_uri}
use Rattle.miette_read_laws.proofs.NamesDecoded.{decode_front, decoded_path, no_scheme, utf8_small}

-- ---- the path of a URI

pub file_path : (path : List ℕ) → path_of (codes "file://" ++ path) ≡ path
unfolding after_front
file_path path = refl

front_is : (front uri : List ℕ) → starts_with eqb uri front ≡ true → uri ≡ front ++ drop (length front) uri
front_is front uri h =
    sym (take-append-drop (length front) uri)
    ∙ ap (λ l. l ++ drop (length front) uri) (sym (same_text front (take (length front) uri) (sym h)))

-- a `file:` URI has a scheme
no_front : (uri : List ℕ) → has_scheme uri ≡ false → starts_with eqb uri (codes "file:") ≡ false
no_front uri h =
    ⊎_elim
    (λ e. absurd (both_ways (has_scheme uri) h (ap has_scheme (front_is (codes "file:") uri e))))
    (λ e. e)
    (cases_Bool (starts_with eqb uri (codes "file:")))

-- what begins with `file://` begins with `file:`
shorter : (uri : List ℕ) → starts_with eqb uri (codes "file:") ≡ false → starts_with eqb uri (codes "file://") ≡ false
shorter uri h =
    ⊎_elim
    (λ e. absurd (both_ways (starts_with eqb uri (codes "file:")) h
    (ap (λ l. starts_with eqb l (codes "file:")) (front_is (codes "file://") uri e))))
    (λ e. e)
    (cases_Bool (starts_with eqb uri (codes "file://")))

other_path : (uri : List ℕ) → starts_with eqb uri (codes "file:") ≡ false → path_of uri ≡ uri
unfolding after_front
other_path uri h =
    ap (λ b. or_path uri (cond b (Some (drop 7 uri)) None)) (shorter uri h)
    ∙ ap (λ b. or_uri uri (cond b (Some (drop 5 uri)) None)) h

pub relative_path : (uri : List ℕ) → has_scheme uri ≡ false → path_of uri ≡ uri
relative_path uri h = other_path uri (no_front uri h)

-- ---- names

path_back : (uri name : List ℕ) → path_of uri ≡ path_uri name → IsUtf8 name → uri_file_name uri ≡ name
path_back uri name is u =
    ap (λ path. utf8_lossy (percent_decode path)) is
    ∙ ap utf8_lossy (decoded_path name (utf8_small name u))
    ∙ utf8_lossy-IsUtf8 name u

name_by : (slash : Bool) (name : List ℕ) → IsUtf8 name
    → uri_file_name (cond slash (codes "file://" ++ path_uri name) (path_uri name)) ≡ name
name_by true name u = path_back (codes "file://" ++ path_uri name) name (file_path (path_uri name)) u
name_by false name u = path_back (path_uri name) name (relative_path (path_uri name) (no_scheme name)) u

pub name_back : (name : List ℕ) → IsPlainName name → uri_file_name (name_uri name) ≡ name
name_back name p =
    ap (λ b. uri_file_name (cond b (address_uri name)
    (cond (begins_with_slash name) (codes "file://" ++ path_uri name) (path_uri name)))) p.no_address
    ∙ name_by (begins_with_slash name) name p.utf8

-- ---- addresses

not_true : (b : Bool) → not b ≡ true → b ≡ false
not_true false h = refl
not_true true h = absurd (both_ways false refl h)

address_decoded : (text : List ℕ) → All IsByte text → list_all (λ x. not (eqb x 37)) text ≡ true
    → percent_decode (address_uri text) ≡ text
address_decoded [] small h = percent_decode-nil
address_decoded (x ∷ xs) small h =
    let parts = and_parts (not (eqb x 37)) (list_all (λ y. not (eqb y 37)) xs) h in
    ap (λ b. percent_decode (cond (b && begins_with_hex xs) (x ∷ []) (percent_encode ADDRESS (x ∷ []))
    ++ address_uri xs)) (not_true (eqb x 37) parts.0)
    ∙ decode_front ADDRESS (x ∷ []) (address_uri xs) refl
    (All-cons IsByte x [] (All-head IsByte x xs small) (All-nil IsByte))
    ∙ ap (λ l. x ∷ l) (address_decoded xs (All-tail IsByte x xs small) parts.1)

-- what is decoded of a `file:` URI begins so too
file_decoded : (rest : List ℕ) → percent_decode (codes "file:" ++ rest) ≡ codes "file:" ++ percent_decode rest
file_decoded rest =
    on 102 (105 ∷ (108 ∷ (101 ∷ (58 ∷ rest)))) (λ e. absurd (omega (arith, e)))
    ∙ ap (λ l. 102 ∷ l) (on 105 (108 ∷ (101 ∷ (58 ∷ rest))) (λ e. absurd (omega (arith, e)))
    ∙ ap (λ l. 105 ∷ l) (on 108 (101 ∷ (58 ∷ rest)) (λ e. absurd (omega (arith, e)))
    ∙ ap (λ l. 108 ∷ l) (on 101 (58 ∷ rest) (λ e. absurd (omega (arith, e)))
    ∙ ap (λ l. 101 ∷ l) (on 58 rest (λ e. absurd (omega (arith, e)))))))
  where
    on : (b : ℕ) (bs : List ℕ) → b ≢ 37 → percent_decode (b ∷ bs) ≡ b ∷ percent_decode bs
    on b bs h = percent_decode_not_percent b bs h

-- so a URI that is decoded to another text is none
no_file : (uri name : List ℕ) → percent_decode uri ≡ name → starts_with eqb name (codes "file:") ≡ false
    → starts_with eqb uri (codes "file:") ≡ false
no_file uri name is h =
    ⊎_elim
    (λ e. absurd (both_ways (starts_with eqb name (codes "file:")) h
    (ap (λ l. starts_with eqb l (codes "file:"))
    (sym is ∙ ap percent_decode (front_is (codes "file:") uri e) ∙ file_decoded (drop 5 uri)))))
    (λ e. e)
    (cases_Bool (starts_with eqb uri (codes "file:")))

pub address_back : (name : List ℕ) → IsPlainAddress name → uri_file_name (name_uri name) ≡ name
address_back name p =
    let decoded : percent_decode (address_uri name) ≡ name =
    address_decoded name (utf8_small name p.utf8) p.no_escape in
    ap (λ b. uri_file_name (cond b (address_uri name)
    (cond (begins_with_slash name) (codes "file://" ++ path_uri name) (path_uri name)))) p.address
    ∙ ap (λ path. utf8_lossy (percent_decode path))
    (other_path (address_uri name) (no_file (address_uri name) name decoded p.no_file))
    ∙ ap utf8_lossy decoded ∙ utf8_lossy-IsUtf8 name p.utf8

-- ---- sources without a name

no_percent : (xs : List ℕ) → All (λ x. x ≢ 37) xs → percent_decode xs ≡ xs
no_percent [] h = percent_decode-nil
no_percent (x ∷ xs) h =
    percent_decode_not_percent x xs (All-head (λ y. y ≢ 37) x xs h)
    ∙ ap (λ l. x ∷ l) (no_percent xs (All-tail (λ y. y ≢ 37) x xs h))

-- a digit's byte
abbrev IsPlain : ℕ → Type 0
IsPlain x = (x ≢ 37) × (x < 128)

glyph_plain : (d : ℕ) → d < 10 → IsPlain (digit_glyph false d)
glyph_plain d low = (grind (arith, nat_tests), grind (arith, nat_tests))

digits_plain : (k n : ℕ) (after : List ℕ) → All IsPlain after → All IsPlain (digits_onto k 10 false n after)
digits_plain zero n after h = h
digits_plain (suc k) n after h =
    let more : All IsPlain (digit_glyph false (n % 10) ∷ after) =
    All-cons IsPlain (digit_glyph false (n % 10)) after (glyph_plain (n % 10) (omega arith)) h in
    cond_both (eqb (n / 10) 0) (digit_glyph false (n % 10) ∷ after)
    (digits_onto k 10 false (n / 10) (digit_glyph false (n % 10) ∷ after)) (All IsPlain) (λ _. more)
    (λ _. digits_plain k (n / 10) (digit_glyph false (n % 10) ∷ after) more)

decimal_plain : (n : ℕ) → All IsPlain (decimal n)
unfolding digits
decimal_plain n = digits_plain 64 n [] (All-nil IsPlain)

is_plain : (x : ℕ) → (not (eqb x 37) && ltb x 128) ≡ true → IsPlain x
is_plain x h = (grind (arith, nat_tests), grind (arith, nat_tests))

each_by : (test : ℕ → Bool) (P : ℕ → Type 0) → ((x : ℕ) → test x ≡ true → P x) → (xs : List ℕ)
    → list_all test xs ≡ true → All P xs
each_by test P tells [] h = All-nil P
each_by test P tells (x ∷ xs) h =
    let parts = and_parts (test x) (list_all test xs) h in
    All-cons P x xs (tells x parts.0) (each_by test P tells xs parts.1)

untitled_path : (rest : List ℕ) → path_of (codes "untitled:" ++ rest) ≡ codes "untitled:" ++ rest
unfolding after_front
untitled_path rest = refl

pub untitled_back : (k : ℕ) → uri_file_name (codes "untitled:" ++ decimal k) ≡ codes "untitled:" ++ decimal k
untitled_back k =
    let name : List ℕ = codes "untitled:" ++ decimal k in
    let plain : All IsPlain name =
    All-append IsPlain (codes "untitled:") (decimal k)
    (each_by (λ x. not (eqb x 37) && ltb x 128) IsPlain is_plain (codes "untitled:") refl) (decimal_plain k) in
    let utf8 : IsUtf8 name =
    IsUtf8-from_ascii name (IsAscii-from_all name (All-weaker IsPlain (λ x. x < 128) (λ x h. h.1) name plain)) in
    ap (λ path. utf8_lossy (percent_decode path)) (untitled_path (decimal k))
    ∙ ap utf8_lossy (no_percent name (All-weaker IsPlain (λ x. x ≢ 37) (λ x h. h.0) name plain))
    ∙ utf8_lossy-IsUtf8 name utf8
