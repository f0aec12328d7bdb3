-- Documents by where they stand.
use Rattle.std.proofs.Common.{◌≡◌, ℕ, zero, suc, ◌+◌, ◌<◌, List, [], ◌∷◌, ◌++◌, Bool, true, false, Some, None}
use Rattle.std.proofs.Common.{refl}
use Rattle.std.proofs.Common.{ap, ◌∙◌, ◌≤◌, arith, get_or, length, set, cond, ltb}
use Rattle.std.specs.Prelude.{bytes_eq, position}
use Rattle.std.specs.List.{position_or_len, remove}
use Rattle.std.proofs.lemmas.Bool.Decides.{nat_tests}
use Rattle.std.proofs.lemmas.List.Quantifiers.{position-Some}
use Rattle.miette_lines.proofs.Cases.{by_cases}
use Rattle.miette_language_server.specs.rules.Documents.{OpenDocument, with_document, without}

-- whether a document has this uri
abbrev pub is_named : List ℕ → OpenDocument → Bool
is_named uri d = bytes_eq d.uri uri

-- ---- the one that is there

pub put_at : (ds : List OpenDocument) (document : OpenDocument) (i : ℕ) (d : OpenDocument) → i < length ds
    → is_named document.uri (get_or ds i d) ≡ true
    → ((k : ℕ) → k < i → is_named document.uri (get_or ds k d) ≡ false) → with_document ds document ≡ set ds i document
put_at [] document i d lt here before = absurd (omega (arith, lt))
put_at (e ∷ ds) document zero d lt here before = rw here refl
put_at (e ∷ ds) document (suc i) d lt here before =
    let no : is_named document.uri e ≡ false = before zero (omega arith) in
    rw no (ap (λ l. e ∷ l) (put_at ds document i d (omega (arith, lt)) here
    (λ k below. before (suc k) (omega (arith, below)))))

pub out_at : (ds : List OpenDocument) (uri : List ℕ) (i : ℕ) (d : OpenDocument) → i < length ds
    → is_named uri (get_or ds i d) ≡ true → ((k : ℕ) → k < i → is_named uri (get_or ds k d) ≡ false)
    → without ds uri ≡ remove ds i
out_at [] uri i d lt here before = absurd (omega (arith, lt))
out_at (e ∷ ds) uri zero d lt here before = rw here refl
out_at (e ∷ ds) uri (suc i) d lt here before =
    let no : is_named uri e ≡ false = before zero (omega arith) in
    rw no (ap (λ l. e ∷ l) (out_at ds uri i d (omega (arith, lt)) here
    (λ k below. before (suc k) (omega (arith, below)))))

-- ---- where none is there

not_found : (n m : ℕ) → cond (ltb n m) (Some n) None ≡ None → m ≤ n
not_found n m h = by_cases {C = m ≤ n} (ltb n m)
    (λ t. let bad : Some n ≡ None = rw t at h in cc) (λ f. grind (arith, nat_tests))

none_named : (uri : List ℕ) (ds : List OpenDocument) → length ds ≤ position_or_len (is_named uri) ds
    → (document : OpenDocument) → document.uri ≡ uri
    → (with_document ds document ≡ ds ++ document ∷ []) × (without ds uri ≡ ds)
none_named uri [] le document is = (refl, refl)
none_named uri (e ∷ ds) le document is = by_cases
    {C = (with_document (e ∷ ds) document ≡ (e ∷ ds) ++ document ∷ []) × (without (e ∷ ds) uri ≡ e ∷ ds)}
    (is_named uri e)
    (λ t. let bad : suc (length ds) ≤ 0 = rw t at le in absurd (omega (arith, bad)))
    (λ f. let more : suc (length ds) ≤ 1 + position_or_len (is_named uri) ds = rw f at le in
    let rest = none_named uri ds (omega (arith, more)) document is in
    let own : bytes_eq e.uri document.uri ≡ false = ap (bytes_eq e.uri) is ∙ f in
    (rw own (ap (λ l. e ∷ l) rest.0), rw f (ap (λ l. e ∷ l) rest.1)))

pub put_after : (ds : List OpenDocument) (document : OpenDocument) → position (is_named document.uri) ds ≡ None
    → with_document ds document ≡ ds ++ document ∷ []
put_after ds document h =
    (none_named document.uri ds (not_found _ (length ds) h) document refl).0

pub none_out : (ds : List OpenDocument) (uri : List ℕ) → position (is_named uri) ds ≡ None → without ds uri ≡ ds
none_out ds uri h = (none_named uri ds (not_found _ (length ds) h)
    (record { uri = uri; version = None; text = [] }) refl).1

pub put_found : (ds : List OpenDocument) (document : OpenDocument) (i : ℕ)
    → position (is_named document.uri) ds ≡ Some i
    → with_document ds document ≡ set ds i document
put_found ds document i h =
    let found = position-Some (is_named document.uri) ds i document h in
    put_at ds document i document found.0 found.1 found.2

pub found_out : (ds : List OpenDocument) (uri : List ℕ) (i : ℕ) → position (is_named uri) ds ≡ Some i
    → without ds uri ≡ remove ds i
found_out ds uri i h =
    let other : OpenDocument = record { uri = uri; version = None; text = [] } in
    let found = position-Some (is_named uri) ds i other h in
    out_at ds uri i other found.0 found.1 found.2
