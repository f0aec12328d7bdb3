-- Spans by offset are joined exactly where their lines touch, so groups show the maximal runs of the shown lines.
use Rattle.std.proofs.Common.{ℕ, zero, suc, ◌+◌, ◌-◌, ◌<◌, ◌≤◌, ◌≡◌, ◌⊎◌, inl, inr, min, max, Bool, true, false, leb}
use Rattle.std.proofs.Common.{List, [], ◌∷◌, ◌++◌, ◌≢◌, cond, eqb, length}
use Rattle.std.proofs.Common.{refl, sym, ap, ap₂, ◌∙◌, ⊎_elim, ◌&&◌, ◌||◌, arith, drop}
use Rattle.std.specs.Prelude.{is_some}
use Rattle.std.proofs.lemmas.Bool.{le-leb, lt-leb, leb-true, leb-false, cases_lt, and_right, or_parts, eq-eqb, ne_eqb}
use Rattle.std.proofs.lemmas.Bool.Decides.{nat_tests}
use Rattle.std.proofs.lemmas.List.Elements.{filter_agree}
use Rattle.std.specs.List.{range_with_len, filter, list_any}
use Rattle.miette_lines.specs.rules.Lists.{is_nil}
use Rattle.miette_lines.specs.rules.Lines.{lines_of, line_of}
use Rattle.miette_protocol.specs.views.Meaning.{Label}
use Rattle.miette_protocol.specs.rules.Reading.{Span, Source}
use Rattle.miette_protocol.specs.rules.Context.{first_line, last_line}
use Rattle.miette_labels.specs.rules.Answers.{NoneFails, next_answer}
use Rattle.miette_labels.specs.rules.Around.{has_own_context, label_context}
use Rattle.miette_labels.specs.rules.Contexts.{contents, end_of_span, lines_in}
use Rattle.miette_labels.specs.rules.Groups.{joined_span, joins_before, groups_from, groups_answered, spans_of}
use Rattle.miette_labels.specs.rules.Groups.{in_order}
use Rattle.miette_labels.specs.rules.Groups.{lines_of_groups}
use Rattle.miette_snippet_rules.specs.rules.Numbers.{onto_range, ranges}
use Rattle.miette_snippet_rules.specs.rules.Snippets.{is_in_context, shown_numbers, snippets}
use Rattle.miette_lines.proofs.Cases.{by_cases}
use Rattle.miette_lines.proofs.Cuts.{few_lines}
use Rattle.miette_lines.proofs.Places.{line_of_all, line_of_mono}
use Rattle.miette_protocol.proofs.Wholes.{count, first-le-last, first_mono, last_mono}
use Rattle.miette_labels.proofs.NoFailures.{later_none, next_none}
use Rattle.miette_labels.proofs.SortedLabels.{IsAscending, ordered_ascends, rises_lower}
use Rattle.miette_labels.proofs.OwnContexts.{none_around, order_any, order_nil}
use Rattle.miette_lines.proofs.Ranges.{filter-none, filter-front}
use Rattle.miette_protocol.proofs.Wholes.{first-lt}
use Rattle.miette_snippet_laws.proofs.ReadLines.{no_lines, none_in, read_numbers}

-- ---- runs of numbers

-- the list is empty or begins with something else
abbrev pub BeginsOtherThan : ℕ → List ℕ → Type 0
BeginsOtherThan x [] = Unit {0}
BeginsOtherThan x (y ∷ ys) = y ≢ x

alone : (k y : ℕ) (rs : List (List ℕ)) → y ≢ k + 1 → onto_range k (onto_range y rs) ≡ (k ∷ []) ∷ onto_range y rs
alone k y [] h = rw (ne_eqb y (k + 1) h) refl
alone k y ([] ∷ later) h = rw (ne_eqb y (k + 1) h) refl
alone k y ((next ∷ run) ∷ later) h =
    elim (eqb next (y + 1)) as (λ b. onto_range k (cond b ((y ∷ next ∷ run) ∷ later) ((y ∷ []) ∷ (next ∷ run) ∷ later))
    ≡ (k ∷ []) ∷ cond b ((y ∷ next ∷ run) ∷ later) ((y ∷ []) ∷ (next ∷ run) ∷ later))
    [ true ↦ rw (ne_eqb y (k + 1) h) refl | false ↦ rw (ne_eqb y (k + 1) h) refl ]

one : (k : ℕ) (ys : List ℕ) → BeginsOtherThan (k + 1) ys → ranges (k ∷ ys) ≡ (k ∷ []) ∷ ranges ys
one k [] h = refl
one k (y ∷ ys) h = alone k y (ranges ys) h

-- consecutive numbers, and then none that is the next one: a run of its own
pub runs-block : (from many : ℕ) (ys : List ℕ) → BeginsOtherThan (from + suc many) ys
    → ranges (range_with_len from (suc many) ++ ys) ≡ range_with_len from (suc many) ∷ ranges ys
runs-block from zero ys h = let e : from + 1 ≡ from + suc zero = omega arith in one from ys (rw e h)
runs-block from (suc many) ys h =
    let e : from + suc (suc many) ≡ from + 1 + suc many = omega arith in
    let rest : ranges (range_with_len (from + 1) (suc many) ++ ys) ≡ range_with_len (from + 1) (suc many) ∷ ranges ys =
    runs-block (from + 1) many ys (rw e at h) in
    ap (onto_range from) rest ∙ rw (eq-eqb (from + 1) (from + 1) refl) refl

-- what doesn't pass isn't first in a filter
pub begins-other : (q : ℕ → Bool) (x : ℕ) (xs : List ℕ) → q x ≡ false → BeginsOtherThan x (filter q xs)
begins-other q x [] h = tt
begins-other q x (y ∷ ys) h =
    by_cases {C = BeginsOtherThan x (filter q (y ∷ ys))} (q y)
    (λ t. rw t (λ e. let f : q y ≡ q x = ap q e in cc (f, t, h)))
    (λ f. rw f (begins-other q x ys h))

-- ---- spans whose lines touch

-- no line before the first line of the least offset is shown
none-below : (c : ℕ) (bytes : List ℕ) (from k : ℕ) (spans : List Span) → IsAscending from spans → k
    < line_of bytes from - c → list_any (is_in_context c bytes k) spans ≡ false
none-below c bytes from k [] h lt = refl
none-below c bytes from k (span ∷ spans) h lt =
    let lt' : k < line_of bytes span.offset - c = omega (arith, line_of_mono bytes from span.offset h.0, lt) in
    let no : leb (first_line bytes span c) k ≡ false = lt-leb (first_line bytes span c) k lt' in
    rw no (none-below c bytes span.offset k spans h.1 lt')

joined-last : (c : ℕ) (bytes : List ℕ) (a b : Span) → last_line bytes (joined_span a b) c
    ≡ max (last_line bytes a c) (last_line bytes b c)
joined-last c bytes a b =
    let j : Span = joined_span a b in
    ⊎_elim {C = last_line bytes j c ≡ max (last_line bytes a c) (last_line bytes b c)}
    (λ lt. omega (
      arith,
      last_mono bytes a b c (omega (arith, lt)),
      last_mono bytes j b c (omega (arith, lt)),
      last_mono bytes b j c (omega (arith, lt)),
    ))
    (λ ge. omega (
      arith,
      last_mono bytes b a c ge,
      last_mono bytes j a c (omega (arith, ge)),
      last_mono bytes a j c (omega (arith, ge)),
    ))
    (cases_lt (end_of_span a) (end_of_span b))

pub within : (a b x y k : ℕ) → a ≤ x → x ≤ b + 1 → ((leb a k && leb k b) || (leb x k && leb k y))
    ≡ (leb a k && leb k (max b y))
within a b x y k l m = grind (arith, nat_tests)

pub or_assoc : (x y z : Bool) → (x || (y || z)) ≡ ((x || y) || z)
or_assoc true y z = refl
or_assoc false y z = refl

-- The numbers from low to high, and after a gap those that pass q.
span_front : (low high all many rest : ℕ) (q : ℕ → Bool) → low ≤ high → low + many ≡ min (high + 1) all → all ≡ low
    + many + rest → ((k : ℕ) → k ≤ high + 1 → q k ≡ false) →
    filter (λ k. (leb low k && leb k high) || q k) (range_with_len 0 all) ≡ range_with_len low many
    ++ filter q (range_with_len 0 all)
span_front low high all many rest q le m whole none =
    rw whole (filter-front (λ k. (leb low k && leb k high) || q k) q low many rest
    (λ k a. let no : leb low k ≡ false = lt-leb low k a in rw (no, none k (omega arith)) refl)
    (λ k a b. let is : leb low k ≡ true = le-leb low k a in let is' : leb k high ≡ true = le-leb k high (omega arith) in
    rw (is, is') refl)
    (λ k a. none k (omega arith))
    (λ k a b. let no : (leb low k && leb k high) ≡ false =
    and_right (leb low k) (leb k high) (lt-leb k high (omega arith)) in rw no refl))

-- so they are a run of their own
pub span_run : (low high all : ℕ) (q : ℕ → Bool) → low ≤ high → low < all → ((k : ℕ) → k ≤ high + 1 → q k ≡ false) →
    ranges (filter (λ k. (leb low k && leb k high) || q k) (range_with_len 0 all))
    ≡ range_with_len low (min (high + 1) all - low) ∷ ranges (filter q (range_with_len 0 all))
span_run low high all q le lt none =
    let m : ℕ = min (high + 1) all - low - 1 in
    let e : suc m ≡ min (high + 1) all - low = omega arith in
    let other : BeginsOtherThan (low + suc m) (filter q (range_with_len 0 all)) =
    begins-other q (low + suc m) (range_with_len 0 all) (none (low + suc m) (omega arith)) in
    ap ranges (span_front low high all (suc m) (all - (low + suc m)) q le (omega arith) (omega arith) none)
    ∙ runs-block low m (filter q (range_with_len 0 all)) other
    ∙ ap (λ w. range_with_len low w ∷ ranges (filter q (range_with_len 0 all))) e

-- the numbers of the lines in the contexts of spans
abbrev shown : ℕ → List ℕ → List Span → List ℕ
shown c bytes spans = filter (λ k. list_any (is_in_context c bytes k) spans)
    (range_with_len 0 (length (lines_of bytes)))

-- The lines of a span, and after a gap those of others.
split : (c : ℕ) (source : Source) (s : Span) (q : ℕ → Bool) → 1 ≤ c → 0 < length source.bytes
    → ((k : ℕ) → k ≤ last_line source.bytes s c + 1 → q k ≡ false) →
    ranges (filter (λ k. is_in_context c source.bytes k s || q k) (range_with_len 0 (length (lines_of source.bytes))))
    ≡ lines_in source.bytes (contents c source s)
    ∷ ranges (filter q (range_with_len 0 (length (lines_of source.bytes))))
split c source s q one some none =
    span_run (first_line source.bytes s c) (last_line source.bytes s c) (length (lines_of source.bytes)) q
    (first-le-last source.bytes s c c) (first-lt c source.bytes s one some) none
    ∙ ap (λ xs. xs ∷ ranges (filter q (range_with_len 0 (length (lines_of source.bytes)))))
    (sym (read_numbers c source s one))

-- a span that joins shows, with those before it, what the joined span shows
same_shown : (c : ℕ) (bytes : List ℕ) (before span : Span) (k : ℕ) → before.offset ≤ span.offset
    → first_line bytes span c ≤ last_line bytes before c + 1 →
    (is_in_context c bytes k before || is_in_context c bytes k span) ≡ is_in_context c bytes k (joined_span before span)
same_shown c bytes before span k le touch =
    within (first_line bytes before c) (last_line bytes before c) (first_line bytes span c) (last_line bytes span c) k
    (first_mono bytes before span c le) touch
    ∙ ap (λ b. leb (first_line bytes before c) k && leb k b) (sym (joined-last c bytes before span))

merged : (c : ℕ) (source : Source) (before : Span) (fails : List Bool) (spans : List Span) → 1 ≤ c → 0
    < length source.bytes → NoneFails fails → IsAscending before.offset spans →
    lines_of_groups c source (groups_from c source before fails spans) ≡ ranges (shown c source.bytes (before ∷ spans))
merged c source before fails [] one some none h =
    sym (split c source before (λ k. false) one some (λ k a. refl)
    ∙ rw (filter-none (λ k. false) 0 (length (lines_of source.bytes)) (λ k a b. refl)) refl)
merged c source before fails (span ∷ spans) one some none h =
    let bytes : List ℕ = source.bytes in
    let sum : (contents c source before).line + (contents c source before).line_count
    ≡ min (last_line bytes before c + 1) (line_of bytes (length bytes)) = count source before c c one one in
    let next : next_answer fails ≡ false = next_none fails none in
    by_cases {C = lines_of_groups c source (groups_from c source before fails (span ∷ spans))
    ≡ ranges (shown c bytes (before ∷ span ∷ spans))} (joins_before c source before span)
    (λ t. let touch : first_line bytes span c ≤ last_line bytes before c + 1 = omega (arith, sum, leb-true _ _ t) in
    rw (t, next) (merged c source (joined_span before span) (drop 1 fails) spans one some (later_none fails none)
    (rises_lower (λ s. s.offset) before.offset span.offset spans h.0 h.1)
    ∙ ap ranges (filter_agree _ _ (λ k. sym (or_assoc (is_in_context c bytes k before) (is_in_context c bytes k span)
    (list_any (is_in_context c bytes k) spans)
    ∙ ap (λ b. b || list_any (is_in_context c bytes k) spans) (same_shown c bytes before span k h.0 touch)))
    (range_with_len 0 (length (lines_of bytes))))))
    (λ f. let gap : last_line bytes before c + 1 < first_line bytes span c =
    omega (arith, sum, leb-false _ _ f, line_of_all bytes span.offset, one) in
    rw f (ap (λ r. lines_in bytes (contents c source before) ∷ r) (merged c source span fails spans one some none h.1)
    ∙ sym (split c source before (λ k. list_any (is_in_context c bytes k) (span ∷ spans)) one some
    (λ k a. none-below c bytes span.offset k (span ∷ spans) (omega arith, h.1) (omega (arith, a, gap))))))

-- of spans in order of their offsets
ascending : (c : ℕ) (source : Source) (fails : List Bool) (spans : List Span) → 1 ≤ c → 0 < length source.bytes
    → NoneFails fails → IsAscending 0 spans →
    lines_of_groups c source (groups_answered c source fails spans) ≡ ranges (shown c source.bytes spans)
ascending c source fails [] one some none h =
    rw (filter-none (λ k. false) 0 (length (lines_of source.bytes)) (λ k a b. refl)) refl
ascending c source fails (span ∷ spans) one some none h = merged c source span fails spans one some none h.1

-- in a source without lines everything is joined
joined_empty : (c : ℕ) (source : Source) (before : Span) (fails : List Bool) (spans : List Span)
    → length (lines_of source.bytes) ≡ 0 → NoneFails fails →
    lines_of_groups c source (groups_from c source before fails spans) ≡ [] ∷ []
joined_empty c source before fails [] empty none =
    ap (λ r. r ∷ []) (none_in source.bytes (contents c source before) empty)
joined_empty c source before fails (span ∷ spans) empty none =
    let join : joins_before c source before span ≡ true =
    le-leb _ _ (omega (arith, empty, few_lines source.bytes span.offset)) in
    let next : next_answer fails ≡ false = next_none fails none in
    rw (join, next) (joined_empty c source (joined_span before span) (drop 1 fails) spans empty (later_none fails none))

grouped_empty : (c : ℕ) (source : Source) (fails : List Bool) (labels : List Label) → length (lines_of source.bytes) ≡ 0
    → NoneFails fails → is_nil labels ≡ false →
    lines_of_groups c source (groups_answered c source fails (spans_of labels)) ≡ [] ∷ []
grouped_empty c source fails [] empty none some = cc
grouped_empty c source fails (label ∷ labels) empty none some =
    joined_empty c source label.span fails (spans_of labels) empty none

-- ---- the snippets of labels

pub no_labels : (context : ℕ) (bytes : List ℕ) → snippets context bytes [] ≡ []
no_labels context [] = refl
no_labels context (byte ∷ bytes) = ap ranges (filter-none (λ k. false) 0 (length (lines_of (byte ∷ bytes)))
    (λ k a b. refl))

pub snippets_nowhere : (context : ℕ) (bytes : List ℕ) (labels : List Label) → 0 < length labels → length bytes ≡ 0
    → snippets context bytes labels ≡ [] ∷ []
snippets_nowhere context bytes [] some none = absurd (omega (arith, some))
snippets_nowhere context [] (label ∷ labels) some none = refl
snippets_nowhere context (byte ∷ bytes) (label ∷ labels) some none = absurd (omega (arith, none))

pub some_bytes : (context : ℕ) (bytes : List ℕ) (labels : List Label) → 0 < length bytes
    → snippets context bytes labels ≡ ranges (shown_numbers context bytes labels)
some_bytes context [] labels some = absurd (omega (arith, some))
some_bytes context (byte ∷ bytes) labels some = refl

pub none_or_some : (n : ℕ) → (n ≡ 0) ⊎ (0 < n)
none_or_some zero = inl refl
none_or_some (suc n) = inr (omega arith)

-- where no label has its own number of context lines
none_own : (c : ℕ) (bytes : List ℕ) (k : ℕ) (all labels : List Label) → has_own_context all ≡ false
    → has_own_context labels ≡ false →
    list_any (λ label. is_in_context (label_context c all label) bytes k label.span) labels
    ≡ list_any (λ label. is_in_context c bytes k label.span) labels
none_own c bytes k all [] e h = refl
none_own c bytes k all (label ∷ labels) e h =
    let both = or_parts (is_some label.context) (has_own_context labels) h in
    ap₂ (λ x y. x || y) (ap (λ n. is_in_context n bytes k label.span) (none_around c all label e both.0))
    (none_own c bytes k all labels e both.1)

any_span : (p : Span → Bool) (labels : List Label) → list_any p (spans_of labels) ≡ list_any (λ l. p l.span) labels
any_span p [] = refl
any_span p (label ∷ labels) = ap (λ b. p label.span || b) (any_span p labels)

shown_same : (c : ℕ) (bytes : List ℕ) (labels : List Label) → has_own_context labels ≡ false
    → shown c bytes (spans_of (in_order labels)) ≡ shown_numbers c bytes labels
shown_same c bytes labels own =
    filter_agree _ _ (λ k. any_span (is_in_context c bytes k) (in_order labels)
    ∙ order_any (λ l. is_in_context c bytes k l.span) labels ∙ sym (none_own c bytes k labels labels own own))
    (range_with_len 0 (length (lines_of bytes)))

runs_by : (c : ℕ) (source : Source) (fails : List Bool) (label : Label) (labels : List Label) → 1 ≤ c → NoneFails fails
    → has_own_context (label ∷ labels) ≡ false → (length source.bytes ≡ 0) ⊎ (0 < length source.bytes) →
    lines_of_groups c source (groups_answered c source fails (spans_of (in_order (label ∷ labels))))
    ≡ snippets c source.bytes (label ∷ labels)
runs_by c source fails label labels one none own (inl empty) =
    grouped_empty c source fails (in_order (label ∷ labels)) (ap length (no_lines 0 source.bytes empty)) none
    (order_nil (label ∷ labels))
    ∙ sym (snippets_nowhere c source.bytes (label ∷ labels) (omega arith) empty)
runs_by c source fails label labels one none own (inr some) =
    ascending c source fails (spans_of (in_order (label ∷ labels))) one some none (ordered_ascends (label ∷ labels))
    ∙ ap ranges (shown_same c source.bytes (label ∷ labels) own)
    ∙ sym (some_bytes c source.bytes (label ∷ labels) some)

-- Where no read fails, labels that are joined by offset show exactly the maximal runs of the shown lines.
pub groups_are_runs : (c : ℕ) (source : Source) (fails : List Bool) (label : Label) (labels : List Label) → 1 ≤ c
    → NoneFails fails → has_own_context (label ∷ labels) ≡ false →
    lines_of_groups c source (groups_answered c source fails (spans_of (in_order (label ∷ labels))))
    ≡ snippets c source.bytes (label ∷ labels)
groups_are_runs c source fails label labels one none own =
    runs_by c source fails label labels one none own (none_or_some (length source.bytes))
