-- The length of an applied text, and where the source's bytes stand in it.
use Rattle.std.proofs.Common.{ℕ, zero, suc, ◌+◌, ◌-◌, ◌<◌, ◌≤◌, ◌≡◌, Bool, true, false, cond, ltb, leb, ◌&&◌}
use Rattle.std.proofs.Common.{List, [], ◌∷◌, ◌++◌, length, take, drop, refl, sym, ap, ◌∙◌, arith, length-append}
use Rattle.std.specs.Prelude.{None, slice_get, slice_range}
use Rattle.std.specs.List.{sum_by}
use Rattle.std.proofs.lemmas.Bool.{le-leb, leb-false, leb-true, lt-leb, ltb-false, or_parts}
use Rattle.std.proofs.lemmas.List.{length-drop, length-take}
use Rattle.std.proofs.lemmas.List.Sums.{sum_by-cons}
use Rattle.miette_lines.proofs.Cases.{by_cases}
use Rattle.miette_fixes.specs.laws.Places.{deleted, inserted, is_covered, deleted_before, inserted_before}
use Rattle.miette_fixes.specs.laws.Places.{shifted_offset}
use Rattle.miette_fixes.specs.rules.Edits.{Replacement, end_of, is_after}
use Rattle.miette_fixes.specs.rules.Applying.{put_edit, by_offset, applied, edits_error, text_from}
use Rattle.miette_fixes.specs.views.Ordered.{FitFrom}
use Rattle.miette_fixes.proofs.Overlaps.{any_by_offset, fit_unrefused}

-- ---- sums don't depend on the order

sum_put : (f : Replacement → ℕ) (edit : Replacement) (edits : List Replacement)
    → sum_by f (put_edit edit edits) ≡ f edit + sum_by f edits
sum_put f edit [] = sum_by-cons f edit []
sum_put f edit (next ∷ edits) =
    by_cases {C = sum_by f (put_edit edit (next ∷ edits)) ≡ f edit + sum_by f (next ∷ edits)} (is_after edit next)
    (λ t. let there : put_edit edit (next ∷ edits) ≡ next ∷ put_edit edit edits = rw t refl in
    let a : sum_by f (next ∷ put_edit edit edits) ≡ f next + sum_by f (put_edit edit edits) =
    sum_by-cons f next (put_edit edit edits) in
    let b : sum_by f (put_edit edit edits) ≡ f edit + sum_by f edits = sum_put f edit edits in
    let d : sum_by f (next ∷ edits) ≡ f next + sum_by f edits = sum_by-cons f next edits in
    ap (sum_by f) there ∙ omega (arith, a, b, d))
    (λ g. let there : put_edit edit (next ∷ edits) ≡ edit ∷ next ∷ edits = rw g refl in
    ap (sum_by f) there ∙ sum_by-cons f edit (next ∷ edits))

pub sum_by_offset : (f : Replacement → ℕ) (edits : List Replacement) → sum_by f (by_offset edits) ≡ sum_by f edits
sum_by_offset f [] = refl
sum_by_offset f (edit ∷ edits) = sum_put f edit (by_offset edits)
    ∙ ap (λ n. f edit + n) (sum_by_offset f edits) ∙ sym (sum_by-cons f edit edits)

-- ---- the length

pub range_length : (source : List ℕ) (a b : ℕ) → a ≤ b → b ≤ length source → length (slice_range source a b) + a ≡ b
range_length source a b le within =
    let x : length (drop a source) ≡ length source - a = length-drop a source in
    let y = length-take (b - a) (drop a source) in
    omega (arith, x, y, le, within)

length_from : (source : List ℕ) (a : ℕ) (edits : List Replacement) → FitFrom (length source) a edits
    → length (text_from source a edits) + a + deleted edits ≡ length source + inserted edits
length_from source a [] h =
    let x : length (drop a source) ≡ length source - a = length-drop a source in omega (arith, x, h)
length_from source a (e ∷ es) h =
    let low : a ≤ e.span.offset = h.0 in
    let rest : end_of e ≤ length source = h.1 in
    let range : length (slice_range source a e.span.offset) + a ≡ e.span.offset =
    range_length source a e.span.offset low (omega (arith, rest)) in
    let more : length (text_from source (end_of e) es) + end_of e + deleted es ≡ length source + inserted es =
    length_from source (end_of e) es h.2 in
    let d : deleted (e ∷ es) ≡ e.span.len + deleted es = sum_by-cons (λ edit. edit.span.len) e es in
    let i : inserted (e ∷ es) ≡ length e.text + inserted es = sum_by-cons (λ edit. length edit.text) e es in
    let front : length (slice_range source a e.span.offset ++ e.text) ≡ length (slice_range source a e.span.offset)
    + length e.text = length-append (slice_range source a e.span.offset) e.text in
    let whole : length (text_from source a (e ∷ es)) ≡ length (slice_range source a e.span.offset ++ e.text)
    + length (text_from source (end_of e) es) =
    length-append (slice_range source a e.span.offset ++ e.text) (text_from source (end_of e) es) in
    omega (arith, range, more, d, i, front, whole)

pub lengths : (source : List ℕ) (edits : List Replacement) → edits_error (length source) edits ≡ None
    → length (applied source edits) + deleted edits ≡ length source + inserted edits
lengths source edits h =
    let n : length (applied source edits) + 0 + deleted (by_offset edits) ≡ length source + inserted (by_offset edits)
    = length_from source 0 (by_offset edits) (fit_unrefused (length source) edits h) in
    let d : deleted (by_offset edits) ≡ deleted edits = sum_by_offset (λ edit. edit.span.len) edits in
    let i : inserted (by_offset edits) ≡ inserted edits = sum_by_offset (λ edit. length edit.text) edits in
    omega (arith, n, d, i)

-- ---- bytes of lists that are made of others

get_left : (xs ys : List ℕ) (i : ℕ) → i < length xs → slice_get (xs ++ ys) i ≡ slice_get xs i
get_left [] ys i lt = absurd (omega (arith, lt))
get_left (x ∷ xs) ys zero lt = refl
get_left (x ∷ xs) ys (suc i) lt = get_left xs ys i (omega (arith, lt))

get_right : (xs ys : List ℕ) (i : ℕ) → slice_get (xs ++ ys) (length xs + i) ≡ slice_get ys i
get_right [] ys i = let e : 0 + i ≡ i = omega arith in ap (slice_get ys) e
get_right (x ∷ xs) ys i =
    let e : suc (length xs) + i ≡ suc (length xs + i) = omega arith in
    ap (slice_get (x ∷ (xs ++ ys))) e ∙ get_right xs ys i

get_drop : (n : ℕ) (xs : List ℕ) (i : ℕ) → slice_get (drop n xs) i ≡ slice_get xs (n + i)
get_drop zero xs i = let e : i ≡ 0 + i = omega arith in ap (slice_get xs) e
get_drop (suc n) [] i = refl
get_drop (suc n) (x ∷ xs) i =
    let e : suc (n + i) ≡ suc n + i = omega arith in get_drop n xs i ∙ ap (slice_get (x ∷ xs)) e

get_take : (n : ℕ) (xs : List ℕ) (i : ℕ) → i < n → slice_get (take n xs) i ≡ slice_get xs i
get_take zero xs i lt = absurd (omega (arith, lt))
get_take (suc n) [] i lt = refl
get_take (suc n) (x ∷ xs) zero lt = refl
get_take (suc n) (x ∷ xs) (suc i) lt = get_take n xs i (omega (arith, lt))

-- ---- where bytes stand

abbrev pub weight : (Replacement → ℕ) → ℕ → Replacement → ℕ
weight f k edit = cond (leb edit.span.offset k) (f edit) 0

-- edits after a place don't count
pub none_counts : (f : Replacement → ℕ) (n a k : ℕ) (edits : List Replacement) → FitFrom n a edits → k < a
    → sum_by (weight f k) edits ≡ 0
none_counts f n a k [] h lt = refl
none_counts f n a k (e ∷ es) h lt =
    let low : a ≤ e.span.offset = h.0 in
    let no : leb e.span.offset k ≡ false = lt-leb e.span.offset k (omega (arith, low, lt)) in
    let w : weight f k e ≡ 0 = rw no refl in
    let rest : sum_by (weight f k) es ≡ 0 = none_counts f n (end_of e) k es h.2 (omega (arith, low, lt)) in
    let s : sum_by (weight f k) (e ∷ es) ≡ weight f k e + sum_by (weight f k) es = sum_by-cons (weight f k) e es in
    omega (arith, w, rest, s)

-- one more edit that begins at or before a place counts, and one after it doesn't
pub counts : (f : Replacement → ℕ) (k : ℕ) (e : Replacement) (es : List Replacement) → e.span.offset ≤ k
    → sum_by (weight f k) (e ∷ es) ≡ f e + sum_by (weight f k) es
counts f k e es le =
    let yes : leb e.span.offset k ≡ true = le-leb e.span.offset k le in
    let w : weight f k e ≡ f e = rw yes refl in
    sum_by-cons (weight f k) e es ∙ ap (λ m. m + sum_by (weight f k) es) w

uncovered : (k : ℕ) (e : Replacement) (es : List Replacement) → is_covered k (e ∷ es) ≡ false → e.span.offset ≤ k
    → end_of e ≤ k
uncovered k e es h le =
    let x : ((leb e.span.offset k && ltb k (end_of e)) ≡ false) × (is_covered k es ≡ false) =
    or_parts (leb e.span.offset k && ltb k (end_of e)) (is_covered k es) h in
    let yes : leb e.span.offset k ≡ true = le-leb e.span.offset k le in
    ltb-false k (end_of e) (rw yes at x.0)

uncovered_rest : (k : ℕ) (e : Replacement) (es : List Replacement) → is_covered k (e ∷ es) ≡ false
    → is_covered k es ≡ false
uncovered_rest k e es h =
    let x : ((leb e.span.offset k && ltb k (end_of e)) ≡ false) × (is_covered k es ≡ false) =
    or_parts (leb e.span.offset k && ltb k (end_of e)) (is_covered k es) h in x.1

-- what is deleted before a place lies before it
deleted_within : (n a k : ℕ) (edits : List Replacement) → FitFrom n a edits → a ≤ k → is_covered k edits ≡ false
    → deleted_before k edits + a ≤ k
deleted_within n a k [] h le out = omega (arith, le)
deleted_within n a k (e ∷ es) h le out =
    let low : a ≤ e.span.offset = h.0 in
    by_cases {C = deleted_before k (e ∷ es) + a ≤ k} (leb e.span.offset k)
    (λ t. let at_or : e.span.offset ≤ k = leb-true e.span.offset k t in
    let end : end_of e ≤ k = uncovered k e es out at_or in
    let rest : deleted_before k es + end_of e ≤ k =
    deleted_within n (end_of e) k es h.2 end (uncovered_rest k e es out) in
    let c : deleted_before k (e ∷ es) ≡ e.span.len + deleted_before k es = counts (λ x. x.span.len) k e es at_or in
    omega (arith, low, rest, c))
    (λ f. let after : k < e.span.offset = leb-false e.span.offset k f in
    let c : deleted_before k (e ∷ es) ≡ 0 =
    none_counts (λ x. x.span.len) n e.span.offset k (e ∷ es) (omega arith, h.1, h.2) after in
    omega (arith, c, le))

place_from : (source : List ℕ) (a k p : ℕ) (edits : List Replacement) → FitFrom (length source) a edits → a ≤ k
    → is_covered k edits ≡ false → p + a + deleted_before k edits ≡ k + inserted_before k edits
    → slice_get (text_from source a edits) p ≡ slice_get source k
place_from source a k p [] h le out is =
    let e : a + p ≡ k = omega (arith, is) in get_drop a source p ∙ ap (slice_get source) e
place_from source a k p (e ∷ es) h le out is =
    let low : a ≤ e.span.offset = h.0 in
    let within : end_of e ≤ length source = h.1 in
    let front : List ℕ = slice_range source a e.span.offset in
    let range : length front + a ≡ e.span.offset = range_length source a e.span.offset low (omega (arith, within)) in
    let rest : List ℕ = text_from source (end_of e) es in
    by_cases {C = slice_get ((front ++ e.text) ++ rest) p ≡ slice_get source k} (leb e.span.offset k)
    (λ t. let at_or : e.span.offset ≤ k = leb-true e.span.offset k t in
    let end : end_of e ≤ k = uncovered k e es out at_or in
    let out' : is_covered k es ≡ false = uncovered_rest k e es out in
    let bound : deleted_before k es + end_of e ≤ k = deleted_within (length source) (end_of e) k es h.2 end out' in
    let d : deleted_before k (e ∷ es) ≡ e.span.len + deleted_before k es = counts (λ x. x.span.len) k e es at_or in
    let i : inserted_before k (e ∷ es) ≡ length e.text + inserted_before k es =
    counts (λ x. length x.text) k e es at_or in
    let q : ℕ = k + inserted_before k es - (end_of e + deleted_before k es) in
    let q_is : q + end_of e + deleted_before k es ≡ k + inserted_before k es = omega (arith, bound) in
    let l : length (front ++ e.text) ≡ length front + length e.text = length-append front e.text in
    let p_is : p ≡ length (front ++ e.text) + q = omega (arith, is, d, i, q_is, l, range) in
    ap (slice_get ((front ++ e.text) ++ rest)) p_is ∙ get_right (front ++ e.text) rest q
    ∙ place_from source (end_of e) k q es h.2 end out' q_is)
    (λ f. let after : k < e.span.offset = leb-false e.span.offset k f in
    let d : deleted_before k (e ∷ es) ≡ 0 =
    none_counts (λ x. x.span.len) (length source) e.span.offset k (e ∷ es) (omega arith, h.1, h.2) after in
    let i : inserted_before k (e ∷ es) ≡ 0 =
    none_counts (λ x. length x.text) (length source) e.span.offset k (e ∷ es) (omega arith, h.1, h.2) after in
    let p_is : a + p ≡ k = omega (arith, is, d, i) in
    let l : length (front ++ e.text) ≡ length front + length e.text = length-append front e.text in
    get_left (front ++ e.text) rest p (omega (arith, l, range, p_is, after))
    ∙ get_left front e.text p (omega (arith, range, p_is, after))
    ∙ get_take (e.span.offset - a) (drop a source) p (omega (arith, p_is, after))
    ∙ get_drop a source p ∙ ap (slice_get source) p_is)

pub outside : (source : List ℕ) (edits : List Replacement) (k : ℕ) → edits_error (length source) edits ≡ None
    → k < length source → is_covered k edits ≡ false
    → slice_get (applied source edits) (shifted_offset edits k) ≡ slice_get source k
outside source edits k h lt out =
    let sorted : List Replacement = by_offset edits in
    let fit : FitFrom (length source) 0 sorted = fit_unrefused (length source) edits h in
    let out' : is_covered k sorted ≡ false =
    any_by_offset (λ edit. leb edit.span.offset k && ltb k (end_of edit)) edits ∙ out in
    let bound : deleted_before k sorted + 0 ≤ k = deleted_within (length source) 0 k sorted fit (omega arith) out' in
    let d : deleted_before k sorted ≡ deleted_before k edits = sum_by_offset (weight (λ x. x.span.len) k) edits in
    let i : inserted_before k sorted ≡ inserted_before k edits = sum_by_offset (weight (λ x. length x.text) k) edits in
    place_from source 0 k (shifted_offset edits k) sorted fit (omega arith) out' (omega (arith, bound, d, i))

-- ---- in order

more_counts : (f : Replacement → ℕ) (j k : ℕ) (edits : List Replacement) → j ≤ k
    → sum_by (weight f j) edits ≤ sum_by (weight f k) edits
more_counts f j k [] le = omega arith
more_counts f j k (e ∷ es) le =
    let a : sum_by (weight f j) (e ∷ es) ≡ weight f j e + sum_by (weight f j) es = sum_by-cons (weight f j) e es in
    let b : sum_by (weight f k) (e ∷ es) ≡ weight f k e + sum_by (weight f k) es = sum_by-cons (weight f k) e es in
    let rest : sum_by (weight f j) es ≤ sum_by (weight f k) es = more_counts f j k es le in
    let w : weight f j e ≤ weight f k e =
    by_cases {C = weight f j e ≤ weight f k e} (leb e.span.offset j)
    (λ t. let u : leb e.span.offset k ≡ true = le-leb e.span.offset k (omega (arith, le, leb-true e.span.offset j t)) in
    rw (t, u) (omega arith))
    (λ g. rw g (omega arith)) in
    omega (arith, a, b, rest, w)

-- between two places that stay, no more is deleted than lies between them
between_within : (n a j k : ℕ) (edits : List Replacement) → FitFrom n a edits → j < k
    → is_covered j edits ≡ false → is_covered k edits ≡ false
    → deleted_before k edits + j + 1 ≤ k + deleted_before j edits
between_within n a j k [] h lt out out' = omega (arith, lt)
between_within n a j k (e ∷ es) h lt out out' =
    by_cases {C = deleted_before k (e ∷ es) + j + 1 ≤ k + deleted_before j (e ∷ es)} (leb e.span.offset j)
    (λ t. let at_or : e.span.offset ≤ j = leb-true e.span.offset j t in
    let rest : deleted_before k es + j + 1 ≤ k + deleted_before j es =
    between_within n (end_of e) j k es h.2 lt (uncovered_rest j e es out) (uncovered_rest k e es out') in
    let x : deleted_before j (e ∷ es) ≡ e.span.len + deleted_before j es = counts (λ x. x.span.len) j e es at_or in
    let y : deleted_before k (e ∷ es) ≡ e.span.len + deleted_before k es =
    counts (λ x. x.span.len) k e es (omega (arith, at_or, lt)) in
    omega (arith, rest, x, y))
    (λ f. let after : j < e.span.offset = leb-false e.span.offset j f in
    let none : deleted_before j (e ∷ es) ≡ 0 =
    none_counts (λ x. x.span.len) n e.span.offset j (e ∷ es) (omega arith, h.1, h.2) after in
    by_cases {C = deleted_before k (e ∷ es) + j + 1 ≤ k + deleted_before j (e ∷ es)} (leb e.span.offset k)
    (λ t. let at_or : e.span.offset ≤ k = leb-true e.span.offset k t in
    let bound : deleted_before k (e ∷ es) + e.span.offset ≤ k =
    deleted_within n e.span.offset k (e ∷ es) (omega arith, h.1, h.2) at_or out' in
    omega (arith, bound, none, after))
    (λ g. let after' : k < e.span.offset = leb-false e.span.offset k g in
    let none' : deleted_before k (e ∷ es) ≡ 0 =
    none_counts (λ x. x.span.len) n e.span.offset k (e ∷ es) (omega arith, h.1, h.2) after' in
    omega (arith, none, none', lt)))

pub order : (source : List ℕ) (edits : List Replacement) (j k : ℕ) → edits_error (length source) edits ≡ None
    → j < k → is_covered j edits ≡ false → is_covered k edits ≡ false → shifted_offset edits j < shifted_offset edits k
order source edits j k h lt out out' =
    let sorted : List Replacement = by_offset edits in
    let fit : FitFrom (length source) 0 sorted = fit_unrefused (length source) edits h in
    let covers : ℕ → Replacement → Bool = λ m edit. leb edit.span.offset m && ltb m (end_of edit) in
    let so : is_covered j sorted ≡ false = any_by_offset (covers j) edits ∙ out in
    let so' : is_covered k sorted ≡ false = any_by_offset (covers k) edits ∙ out' in
    let gap : deleted_before k sorted + j + 1 ≤ k + deleted_before j sorted =
    between_within (length source) 0 j k sorted fit lt so so' in
    let bound : deleted_before j sorted + 0 ≤ j = deleted_within (length source) 0 j sorted fit (omega arith) so in
    let more : inserted_before j edits ≤ inserted_before k edits =
    more_counts (λ x. length x.text) j k edits (omega (arith, lt)) in
    let d : deleted_before j sorted ≡ deleted_before j edits = sum_by_offset (weight (λ x. x.span.len) j) edits in
    let d' : deleted_before k sorted ≡ deleted_before k edits = sum_by_offset (weight (λ x. x.span.len) k) edits in
    omega (arith, gap, bound, more, d, d')
