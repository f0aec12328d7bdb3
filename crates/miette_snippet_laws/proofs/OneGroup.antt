-- Labels with their own numbers of context lines: each belongs to the one group that holds the data of its read.
use Rattle.std.proofs.Common.{ℕ, suc, ◌<◌, ◌≤◌, ◌≡◌, Bool, true, false, leb}
use Rattle.std.proofs.Common.{List, [], ◌∷◌, ◌&&◌, ◌||◌, length, map, refl, sym, ap, ◌∙◌, subst, arith}
use Rattle.std.proofs.lemmas.Bool.{le-leb, lt-leb, leb-true, leb-false, and_parts, and_from, and_right, or_right}
use Rattle.std.specs.List.{filter, list_any, AllByRecursion}
use Rattle.miette_protocol.specs.views.Meaning.{Label}
use Rattle.miette_protocol.specs.rules.Reading.{Span, Source, IsInBounds}
use Rattle.miette_labels.specs.rules.Around.{label_context}
use Rattle.miette_snippet_laws.specs.laws.Belonging.{holds, HasOneGroup}
use Rattle.miette_labels.specs.rules.Contexts.{contents, end_of_span}
use Rattle.miette_labels.specs.rules.Groups.{AreInBounds, joined_span, label_data_span, by_begin, merged_spans_from}
use Rattle.miette_labels.specs.rules.Groups.{merged_data_spans}
use Rattle.miette_lines.proofs.Cases.{by_cases}
use Rattle.miette_labels.proofs.SortedLabels.{IsAscending, by_begin_is, rises_lower, sorted_any, sorted_rises}
use Rattle.miette_protocol.proofs.Wholes.{start_before_span}
use Rattle.miette_labels.proofs.LabelEnds.{cut_is}

-- whether a place lies in a group's bytes or at their end
abbrev at_place : ℕ → Span → Bool
at_place o group = leb group.offset o && leb o (end_of_span group)

-- data in one of the spans don't begin before all of them
held_from : (from : ℕ) (part : Span) (spans : List Span) → IsAscending from spans → list_any (λ m. holds m part) spans
    ≡ true
    → from ≤ part.offset
held_from from part [] h any = cc
held_from from part (span ∷ spans) h any =
    by_cases {C = from ≤ part.offset} (holds span part)
    (λ t. omega (
      arith,
      h.0,
      leb-true span.offset part.offset
          (and_parts (leb span.offset part.offset) (leb (end_of_span part) (end_of_span span)) t).0,
    ))
    (λ f. omega (
      arith,
      h.0,
      held_from span.offset part spans h.1
          (sym (ap (λ b. b || list_any (λ m. holds m part) spans) f) ∙ any),
    ))

-- groups that all begin after a place, or after the beginning of data
none_at : (o : ℕ) (before : Span) (spans : List Span) → o < before.offset → IsAscending before.offset spans
    → filter (at_place o) (merged_spans_from before spans) ≡ []
none_at o before [] lt h = rw (lt-leb before.offset o lt) refl
none_at o before (span ∷ spans) lt h =
    by_cases {C = filter (at_place o) (merged_spans_from before (span ∷ spans)) ≡ []}
    (leb span.offset (end_of_span before))
    (λ t. rw t (none_at o (joined_span before span) spans lt
    (rises_lower (λ s. s.offset) before.offset span.offset spans h.0 h.1)))
    (λ f. rw (f, lt-leb before.offset o lt) (none_at o span spans (omega (arith, h.0)) h.1))

none_held : (part before : Span) (spans : List Span) → part.offset < before.offset → IsAscending before.offset spans
    → filter (λ g. holds g part) (merged_spans_from before spans) ≡ []
none_held part before [] lt h = rw (lt-leb before.offset part.offset lt) refl
none_held part before (span ∷ spans) lt h =
    by_cases {C = filter (λ g. holds g part) (merged_spans_from before (span ∷ spans)) ≡ []}
    (leb span.offset (end_of_span before))
    (λ t. rw t (none_held part (joined_span before span) spans lt
    (rises_lower (λ s. s.offset) before.offset span.offset spans h.0 h.1)))
    (λ f. rw (f, lt-leb before.offset part.offset lt) (none_held part span spans (omega (arith, h.0)) h.1))

-- what is in a span is in one joined to it
held_joined : (a b part : Span) → a.offset ≤ b.offset → (holds a part || holds b part) ≡ true
    → holds (joined_span a b) part ≡ true
held_joined a b part le h =
    by_cases {C = holds (joined_span a b) part ≡ true} (holds a part)
    (λ t. let p = and_parts (leb a.offset part.offset) (leb (end_of_span part) (end_of_span a)) t in
    and_from _ _ p.0 (le-leb (end_of_span part) (end_of_span (joined_span a b))
    (omega (arith, leb-true _ _ p.0, leb-true _ _ p.1))))
    (λ f. let t : holds b part ≡ true = sym (ap (λ x. x || holds b part) f) ∙ h in
    let p = and_parts (leb b.offset part.offset) (leb (end_of_span part) (end_of_span b)) t in
    and_from _ _ (le-leb a.offset part.offset (omega (arith, le, leb-true _ _ p.0)))
    (le-leb (end_of_span part) (end_of_span (joined_span a b)) (omega (arith, leb-true _ _ p.0, leb-true _ _ p.1))))

still_any : (x y z w : Bool) → (x || (y || z)) ≡ true → ((x || y) ≡ true → w ≡ true) → (w || z) ≡ true
still_any true y z w h k = ap (λ b. b || z) (k refl)
still_any false true z w h k = ap (λ b. b || z) (k refl)
still_any false false true true h k = refl
still_any false false true false h k = refl
still_any false false false w h k = cc

-- the groups of a place in data that are in one of the spans
record Same (o : ℕ) (part : Span) (groups : List Span) : Type 0 where
  pub own : filter (at_place o) groups ≡ filter (λ g. holds g part) groups
  pub one : length (filter (λ g. holds g part) groups) ≡ 1

-- the place is in a group that holds the data
at_held : (o : ℕ) (part group : Span) → part.offset ≤ o → o ≤ end_of_span part → holds group part ≡ true
    → at_place o group ≡ true
at_held o part group low high t =
    let p = and_parts (leb group.offset part.offset) (leb (end_of_span part) (end_of_span group)) t in
    and_from _ _ (le-leb group.offset o (omega (arith, low, leb-true _ _ p.0)))
    (le-leb o (end_of_span group) (omega (arith, high, leb-true _ _ p.1)))

-- a group in front that is the one, or isn't
in_front : (o : ℕ) (part group : Span) (groups : List Span) → at_place o group ≡ true → holds group part ≡ true
    → filter (at_place o) groups ≡ [] → filter (λ g. holds g part) groups ≡ [] → Same o part (group ∷ groups)
in_front o part group groups t u a b = record {
  own = rw (t, u) (ap (λ r. group ∷ r) (a ∙ sym b));
  one =
      rw u (ap (λ r. suc (length r)) b);
}

group_after : (o : ℕ) (part group : Span) (groups : List Span) → at_place o group ≡ false → holds group part ≡ false
    → Same o part groups → Same o part (group ∷ groups)
group_after o part group groups t u h = record { own = rw (t, u) h.own; one = rw u h.one }

alone : (b : Bool) → (b || false) ≡ true → b ≡ true
alone true e = refl
alone false e = e

same_from : (o : ℕ) (part before : Span) (spans : List Span) → part.offset ≤ o → o ≤ end_of_span part
    → IsAscending before.offset spans → list_any (λ m. holds m part) (before ∷ spans) ≡ true →
    Same o part (merged_spans_from before spans)
same_from o part before [] low high h any =
    let t : holds before part ≡ true = alone (holds before part) any in
    in_front o part before [] (at_held o part before low high t) t refl refl
same_from o part before (span ∷ spans) low high h any =
    by_cases {C = Same o part (merged_spans_from before (span ∷ spans))} (leb span.offset (end_of_span before))
    (λ t. rw t (same_from o part (joined_span before span) spans low high
    (rises_lower (λ s. s.offset) before.offset span.offset spans h.0 h.1)
    (still_any (holds before part) (holds span part) (list_any (λ m. holds m part) spans)
    (holds (joined_span before span) part) any (held_joined before span part h.0))))
    (λ f. let gap : end_of_span before < span.offset = leb-false span.offset (end_of_span before) f in
    rw f (by_cases {C = Same o part (before ∷ merged_spans_from span spans)} (holds before part)
    (λ t. let end : end_of_span part ≤ end_of_span before =
    leb-true _ _ (and_parts (leb before.offset part.offset) (leb (end_of_span part) (end_of_span before)) t).1 in
    in_front o part before (merged_spans_from span spans) (at_held o part before low high t) t
    (none_at o span spans (omega (arith, gap, end, high)) h.1)
    (none_held part span spans (omega (arith, gap, end, low, high)) h.1))
    (λ g. let rest : list_any (λ m. holds m part) (span ∷ spans) ≡ true =
    sym (ap (λ b. b || list_any (λ m. holds m part) (span ∷ spans)) g) ∙ any in
    let from : span.offset ≤ part.offset = held_from span.offset part (span ∷ spans) (omega arith, h.1) rest in
    group_after o part before (merged_spans_from span spans) (and_right (leb before.offset o)
    (leb o (end_of_span before))
    (lt-leb o (end_of_span before) (omega (arith, gap, from, low)))) g
    (same_from o part span spans low high h.1 rest))))

-- ---- in order

begin_ascends : (spans : List Span) → IsAscending 0 (by_begin spans)
begin_ascends spans = subst (λ (ss : List Span). IsAscending 0 ss) (by_begin_is spans)
    (sorted_rises (λ s. s.offset) spans)

begin_any : (p : Span → Bool) (spans : List Span) → list_any p (by_begin spans) ≡ list_any p spans
begin_any p spans = ap (list_any p) (sym (by_begin_is spans)) ∙ sorted_any (λ s. s.offset) p spans

same_joined : (o : ℕ) (part : Span) (spans : List Span) → part.offset ≤ o → o ≤ end_of_span part → IsAscending 0 spans
    → list_any (λ m. holds m part) spans ≡ true → Same o part (merged_data_spans spans)
same_joined o part [] low high h any = cc
same_joined o part (span ∷ spans) low high h any = same_from o part span spans low high h.1 any

-- ---- a label begins in the data of its read, or at their end

ends : (c : ℕ) (source : Source) (span : Span) → IsInBounds source.bytes span → span.offset
    ≤ end_of_span (contents c source span).span
ends c source span h = omega (arith, cut_is c source span h, h.begins)

-- ---- each label

held_self : (span : Span) → holds span span ≡ true
held_self span = and_from _ _ (le-leb span.offset span.offset (omega arith))
    (le-leb (end_of_span span) (end_of_span span) (omega arith))

-- each of some labels is in a list that has them all
each_one : (context : ℕ) (source : Source) (all labels : List Label) → AreInBounds source.bytes labels →
    ((part : Span) → list_any (λ m. holds m part) (map (label_data_span context source all) labels) ≡ true
    → list_any (λ m. holds m part) (map (label_data_span context source all) all) ≡ true) →
    AllByRecursion (HasOneGroup context source all) labels
each_one context source all [] h there = tt
each_one context source all (label ∷ labels) h there =
    let part : Span = label_data_span context source all label in
    let c : ℕ = label_context context all label in
    let spans : List Span = map (label_data_span context source all) all in
    let any : list_any (λ m. holds m part) spans ≡ true =
    there part (ap (λ b. b || list_any (λ m. holds m part) (map (label_data_span context source all) labels))
    (held_self part)) in
    let same : Same label.span.offset part (merged_data_spans (by_begin spans)) =
    same_joined label.span.offset part (by_begin spans) (start_before_span source.bytes label.span c)
    (ends c source label.span h.0) (begin_ascends spans) (begin_any (λ m. holds m part) spans ∙ any) in (
      record { one = same.one; own = same.own },
      each_one context source all labels h.1 (λ d e. there d
          (or_right (holds (label_data_span context source all label) d)
          (list_any (λ m. holds m d) (map (label_data_span context source all) labels)) e)),
    )

pub one_group : (context : ℕ) (source : Source) (labels : List Label) → AreInBounds source.bytes labels
    → AllByRecursion (HasOneGroup context source labels) labels
one_group context source labels h = each_one context source labels labels h (λ d e. e)
