-- Where the texts of edits stand in the applied text, and where each of its bytes is from.
use Rattle.std.proofs.Common.{ℕ, ◌+◌, ◌-◌, ◌<◌, ◌≤◌, ◌≡◌, ◌⊎◌, inl, inr, Bool, true, false, ltb, leb, ◌&&◌}
use Rattle.std.proofs.Common.{List, [], ◌∷◌, ◌++◌, length, take, drop, refl, sym, ap, subst, ◌∙◌, arith, length-append}
use Rattle.std.proofs.Math.Seq.{drop-append-add, drop-append_seam, take-append_seam}
use Rattle.std.specs.Prelude.{None, slice_range}
use Rattle.std.proofs.lemmas.Bool.{le-leb, lt-leb, le-ltb, ltb-false, ltb-true}
use Rattle.std.proofs.lemmas.List.{drop-append-le, length-drop}
use Rattle.std.proofs.lemmas.List.Sums.{sum_by-cons}
use Rattle.miette_lines.proofs.Cases.{by_cases}
use Rattle.miette_fixes.specs.laws.Places.{IsInserted, IsSourceByte, deleted, deleted_before, inserted, inserted_before}
use Rattle.miette_fixes.specs.laws.Places.{is_covered, edit_text_start}
use Rattle.miette_fixes.proofs.Moving.{counts, none_counts, range_length, sum_by_offset, weight}
use Rattle.miette_fixes.specs.rules.Edits.{Replacement, end_of}
use Rattle.miette_fixes.specs.rules.Applying.{applied, by_offset, edits_error, text_from}
use Rattle.miette_fixes.specs.views.Ordered.{FitFrom}
use Rattle.miette_fixes.proofs.Overlaps.{any_by_offset, fit_unrefused}

-- ---- the text of an edit

-- what is deleted by the edits before one lies before it
deleted_ahead : (n a : ℕ) (before : List Replacement) (edit : Replacement) (after : List Replacement)
    → FitFrom n a (before ++ edit ∷ after) → deleted before + a ≤ edit.span.offset
deleted_ahead n a [] edit after h = omega (arith, h.0)
deleted_ahead n a (e ∷ es) edit after h =
    let rest : deleted es + end_of e ≤ edit.span.offset = deleted_ahead n (end_of e) es edit after h.2 in
    let d : deleted (e ∷ es) ≡ e.span.len + deleted es = sum_by-cons (λ x. x.span.len) e es in
    omega (arith, h.0, rest, d)

text_stands : (source : List ℕ) (a p : ℕ) (before : List Replacement) (edit : Replacement) (after : List Replacement)
    → FitFrom (length source) a (before ++ edit ∷ after)
    → p + a + deleted before ≡ edit.span.offset + inserted before
    → slice_range (text_from source a (before ++ edit ∷ after)) p (p + length edit.text) ≡ edit.text
text_stands source a p [] edit after h is =
    let t : List ℕ = edit.text in
    let front : List ℕ = slice_range source a edit.span.offset in
    let rest : List ℕ = text_from source (end_of edit) after in
    let range : length front + a ≡ edit.span.offset =
    range_length source a edit.span.offset h.0 (omega (arith, h.1)) in
    let l : length (front ++ t) ≡ length front + length t = length-append front t in
    let p_is : p ≡ length front = omega (arith, is, range) in
    let n_is : p + length t - p ≡ length t = omega arith in
    ap (λ n. take n (drop p ((front ++ t) ++ rest))) n_is
    ∙ ap (λ n. take (length t) (drop n ((front ++ t) ++ rest))) p_is
    ∙ ap (take (length t)) (drop-append-le (length front) (front ++ t) rest (omega (arith, l)))
    ∙ ap (λ xs. take (length t) (xs ++ rest)) (drop-append_seam front t) ∙ take-append_seam t rest
text_stands source a p (e ∷ es) edit after h is =
    let t : List ℕ = edit.text in
    let front : List ℕ = slice_range source a e.span.offset in
    let rest : List ℕ = text_from source (end_of e) (es ++ edit ∷ after) in
    let range : length front + a ≡ e.span.offset = range_length source a e.span.offset h.0 (omega (arith, h.1)) in
    let l : length (front ++ e.text) ≡ length front + length e.text = length-append front e.text in
    let d : deleted (e ∷ es) ≡ e.span.len + deleted es = sum_by-cons (λ x. x.span.len) e es in
    let i : inserted (e ∷ es) ≡ length e.text + inserted es = sum_by-cons (λ x. length x.text) e es in
    let bound : deleted es + end_of e ≤ edit.span.offset =
    deleted_ahead (length source) (end_of e) es edit after h.2 in
    let q : ℕ = edit.span.offset + inserted es - (end_of e + deleted es) in
    let q_is : q + end_of e + deleted es ≡ edit.span.offset + inserted es = omega (arith, bound) in
    let p_is : p ≡ length (front ++ e.text) + q = omega (arith, is, d, i, q_is, l, range) in
    let n_is : p + length t - p ≡ q + length t - q = omega arith in
    ap (λ n. take n (drop p ((front ++ e.text) ++ rest))) n_is
    ∙ ap (λ n. take (q + length t - q) (drop n ((front ++ e.text) ++ rest))) p_is
    ∙ ap (take (q + length t - q)) (drop-append-add (front ++ e.text) rest q)
    ∙ text_stands source (end_of e) q es edit after h.2 q_is

pub texts : (source : List ℕ) (edits before : List Replacement) (edit : Replacement) (after : List Replacement)
    → edits_error (length source) edits ≡ None → by_offset edits ≡ before ++ edit ∷ after
    → slice_range (applied source edits) (edit_text_start before edit) (edit_text_start before edit + length edit.text)
    ≡ edit.text
texts source edits before edit after h is =
    let fit : FitFrom (length source) 0 (before ++ edit ∷ after) =
    subst (FitFrom (length source) 0) is (fit_unrefused (length source) edits h) in
    let bound : deleted before + 0 ≤ edit.span.offset = deleted_ahead (length source) 0 before edit after fit in
    let at : ℕ = edit_text_start before edit in
    ap (λ es. slice_range (text_from source 0 es) at (at + length edit.text)) is
    ∙ text_stands source 0 at before edit after fit (omega (arith, bound))

-- ---- where each byte is from

-- a byte of the text from a place on: one of the source ..
record Kept (source : List ℕ) (a : ℕ) (edits : List Replacement) (k : ℕ) : Type 0 where
  from : ℕ
  low : a ≤ from
  within : from < length source
  out : is_covered from edits ≡ false
  is : k + a + deleted_before from edits ≡ from + inserted_before from edits

-- .. or one of an edit's text
record Put (a : ℕ) (edits : List Replacement) (k : ℕ) : Type 0 where
  before : List Replacement
  edit : Replacement
  after : List Replacement
  order : edits ≡ before ++ edit ∷ after
  place : ℕ
  is : place + a + deleted before ≡ edit.span.offset + inserted before
  low : place ≤ k
  high : k < place + length edit.text

none_covers : (n a k : ℕ) (edits : List Replacement) → FitFrom n a edits → k < a → is_covered k edits ≡ false
none_covers n a k [] h lt = refl
none_covers n a k (e ∷ es) h lt =
    let no : leb e.span.offset k ≡ false = lt-leb e.span.offset k (omega (arith, h.0, lt)) in
    let rest : is_covered k es ≡ false = none_covers n (end_of e) k es h.2 (omega (arith, h.0, lt)) in
    rw no rest

-- an edit that ends at or before a place doesn't cover it
ended : (k : ℕ) (e : Replacement) (es : List Replacement) → end_of e ≤ k → is_covered k es ≡ false
    → is_covered k (e ∷ es) ≡ false
ended k e es le rest =
    let begun : leb e.span.offset k ≡ true = le-leb e.span.offset k (omega (arith, le)) in
    let over : ltb k (end_of e) ≡ false = le-ltb k (end_of e) le in
    rw (begun, over) rest

-- what lies after the first edit and its text
passed : (source : List ℕ) (a k q front : ℕ) (e : Replacement) (es : List Replacement) → front + a ≡ e.span.offset
    → k ≡ front + length e.text + q → Kept source (end_of e) es q ⊎ Put (end_of e) es q
    → Kept source a (e ∷ es) k ⊎ Put a (e ∷ es) k
passed source a k q front e es range k_is (inl x) =
    let at_or : e.span.offset ≤ x.from = omega (arith, x.low) in
    let d : deleted_before x.from (e ∷ es) ≡ e.span.len + deleted_before x.from es =
    counts (λ y. y.span.len) x.from e es at_or in
    let i : inserted_before x.from (e ∷ es) ≡ length e.text + inserted_before x.from es =
    counts (λ y. length y.text) x.from e es at_or in
    inl (record {
      from = x.from;
      low = omega (arith, range, x.low);
      within = x.within;
      out = ended x.from e es x.low x.out;
      is = omega (arith, x.is, d, i, range, k_is);
    })
passed source a k q front e es range k_is (inr y) =
    let d : deleted (e ∷ y.before) ≡ e.span.len + deleted y.before = sum_by-cons (λ x. x.span.len) e y.before in
    let i : inserted (e ∷ y.before) ≡ length e.text + inserted y.before =
    sum_by-cons (λ x. length x.text) e y.before in
    inr (record {
      before = e ∷ y.before;
      edit = y.edit;
      after = y.after;
      order = ap (λ r. e ∷ r) y.order;
      place = front + length e.text + y.place;
      is = omega (arith, y.is, d, i, range);
      low = omega (arith, y.low, k_is);
      high = omega (arith, y.high, k_is);
    })

each_from : (source : List ℕ) (a k : ℕ) (edits : List Replacement) → FitFrom (length source) a edits
    → k < length (text_from source a edits) → Kept source a edits k ⊎ Put a edits k
each_from source a k [] h lt =
    let x : length (drop a source) ≡ length source - a = length-drop a source in
    inl (record { from = a + k; low = omega arith; within = omega (arith, x, lt); out = refl; is = omega arith })
each_from source a k (e ∷ es) h lt =
    let front : List ℕ = slice_range source a e.span.offset in
    let rest : List ℕ = text_from source (end_of e) es in
    let range : length front + a ≡ e.span.offset = range_length source a e.span.offset h.0 (omega (arith, h.1)) in
    let l : length (front ++ e.text) ≡ length front + length e.text = length-append front e.text in
    let whole : length ((front ++ e.text) ++ rest) ≡ length (front ++ e.text) + length rest =
    length-append (front ++ e.text) rest in
    let fit : FitFrom (length source) e.span.offset (e ∷ es) = (omega arith, h.1, h.2) in
    by_cases {C = Kept source a (e ∷ es) k ⊎ Put a (e ∷ es) k} (ltb k (length front))
    (λ t. let early : a + k < e.span.offset = omega (arith, range, ltb-true k (length front) t) in
    let d : deleted_before (a + k) (e ∷ es) ≡ 0 =
    none_counts (λ x. x.span.len) (length source) e.span.offset (a + k) (e ∷ es) fit early in
    let i : inserted_before (a + k) (e ∷ es) ≡ 0 =
    none_counts (λ x. length x.text) (length source) e.span.offset (a + k) (e ∷ es) fit early in
    inl (record {
      from = a + k;
      low = omega arith;
      within = omega (arith, early, h.1);
      out = none_covers (length source) e.span.offset (a + k) (e ∷ es) fit early;
      is = omega (arith, d, i);
    }))
    (λ f. let low : length front ≤ k = ltb-false k (length front) f in
    by_cases {C = Kept source a (e ∷ es) k ⊎ Put a (e ∷ es) k} (ltb k (length front + length e.text))
    (λ t. inr (record {
      before = [];
      edit = e;
      after = es;
      order = refl;
      place = length front;
      is = omega (arith, range);
      low = low;
      high = ltb-true k (length front + length e.text) t;
    }))
    (λ g. let late : length front + length e.text ≤ k = ltb-false k (length front + length e.text) g in
    let q : ℕ = k - (length front + length e.text) in
    let q_is : k ≡ length front + length e.text + q = omega (arith, late) in
    passed source a k q (length front) e es range q_is
    (each_from source (end_of e) q es h.2 (omega (arith, lt, whole, l, q_is)))))

told : (source : List ℕ) (edits : List Replacement) (k : ℕ)
    → Kept source 0 (by_offset edits) k ⊎ Put 0 (by_offset edits) k → IsSourceByte source edits k ⊎ IsInserted edits k
told source edits k (inl x) =
    let d : deleted_before x.from (by_offset edits) ≡ deleted_before x.from edits =
    sum_by_offset (weight (λ y. y.span.len) x.from) edits in
    let i : inserted_before x.from (by_offset edits) ≡ inserted_before x.from edits =
    sum_by_offset (weight (λ y. length y.text) x.from) edits in
    let covers : Replacement → Bool = λ edit. leb edit.span.offset x.from && ltb x.from (end_of edit) in
    inl (record {
      from = x.from;
      within = x.within;
      stays = sym (any_by_offset covers edits) ∙ x.out;
      place = omega (arith, x.is, d, i);
    })
told source edits k (inr y) =
    let is : edit_text_start y.before y.edit ≡ y.place = omega (arith, y.is) in
    inr (record {
      before = y.before;
      edit = y.edit;
      after = y.after;
      order = y.order;
      low = omega (arith, is, y.low);
      high = omega (arith, is, y.high);
    })

pub whole : (source : List ℕ) (edits : List Replacement) (k : ℕ) → edits_error (length source) edits ≡ None
    → k < length (applied source edits) → IsSourceByte source edits k ⊎ IsInserted edits k
whole source edits k h lt =
    told source edits k (each_from source 0 k (by_offset edits) (fit_unrefused (length source) edits h) lt)
