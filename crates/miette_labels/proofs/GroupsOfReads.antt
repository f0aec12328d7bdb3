-- Stretches of labels that were read: collected, by where they begin, joined, and read again.
use Rattle.std.proofs.Common.{ℕ, zero, suc, ◌+◌, ◌<◌, ◌≤◌, ◌≡◌, ◌≢◌, max, Bool, true, false, cond, leb, List, []}
use Rattle.std.proofs.Common.{◌∷◌, ◌++◌, ◌&&◌, length, map, take, drop, get_or, Option, Some, None, refl, sym, ap, ap₂}
use Rattle.std.proofs.Common.{◌∙◌, subst, arith, All}
use Rattle.std.specs.Prelude.{is_some, unwrap_or, MatchOption}
use Rattle.std.specs.Option.{option_map}
use Rattle.std.specs.List.{AllByRecursion}
use Rattle.std.specs.List.Sorted.{IsNonDecreasingBy, IsStableByKey}
use Rattle.std.specs.Ordering.{nat_cmp}
use Rattle.std.proofs.lemmas.List.{map-append, take_all, take_more, drop_all}
use Rattle.std.proofs.lemmas.List.Elements.{All-from_recursion, All-nil, All-push, All-tail}
use Rattle.std.proofs.lemmas.Bool.{or_parts}
use Rattle.miette_protocol.specs.views.Meaning.{Label}
use Rattle.miette_protocol.specs.rules.Reading.{Span, Source, Contents, IsInBounds}
use Rattle.miette_protocol.proofs.Wholes.{start_before_span, end_within}
use Rattle.miette_labels.specs.declared.groups.LabelGroup.{LabelGroup}
use Rattle.miette_labels.specs.declared.reading.ReadLabel.{ReadLabel}
use Rattle.miette_labels.specs.rules.Around.{has_own_context, label_context}
use Rattle.miette_labels.specs.rules.Contexts.{contents, end_of_span}
use Rattle.miette_labels.specs.views.ProgramLabels.{label_at}
use Rattle.miette_labels.specs.rules.Groups.{in_order, spans_of, joined_span, label_data_span, by_begin}
use Rattle.miette_labels.specs.rules.Groups.{merged_spans_from, merged_data_spans, own_groups, groups_answered}
use Rattle.miette_labels.specs.rules.Groups.{groups_of}
use Rattle.miette_labels.specs.rules.Groups.{some_fails}
use Rattle.miette_labels.specs.views.Reads.{IsRead, AreContents, AreGroups, IsGroupsResult}
use Rattle.miette_lines.proofs.Cases.{by_cases}
use Rattle.miette_labels.proofs.NoFailures.{none_unread}
use Rattle.miette_labels.proofs.GroupsSoFar.{joined_accepted}
use Rattle.miette_labels.proofs.OwnContexts.{own_ordered, none_around}
use Rattle.miette_labels.proofs.RefusedLabel.{read_of}
use Rattle.miette_labels.proofs.SortedLabels.{IsAscending, Rises, by_begin_is, non_decreasing, ordered_ascends, sort_is}
use Rattle.miette_labels.proofs.SortedLabels.{sorted_each}
use Rattle.miette_labels.specs.steps.Reads.{AreJoined}

-- ---- whether some label has its own number

-- none has
pub own_nowhere : (labels : List Label) (i : ℕ) → length labels ≤ i → has_own_context (drop i labels)
    ≡ has_own_context labels → false
    ≡ has_own_context labels
own_nowhere labels i le h = sym (ap has_own_context (drop_all i labels le)) ∙ h

-- ---- stretches

abbrev pub stretches_read : List ReadLabel → List Span
stretches_read reads = map (λ read. read.contents.span) reads

pub sort_begins : (xs ys : List Span) → IsNonDecreasingBy (λ s. s.offset) ys
    → IsStableByKey (λ s. s.offset) nat_cmp xs ys → ys ≡ by_begin xs
sort_begins xs ys up stable = sort_is (λ s. s.offset) xs ys up stable ∙ by_begin_is xs

-- ---- read again

pub record AreReadTo (source : Source) (spans : List Span) (i : ℕ) (groups : List LabelGroup) : Type 0 where
  pub are : map (λ group. group.span) groups ≡ take i spans
  pub contents_are : All (λ group. AreContents 0 source group.span group.contents) groups

pub read_more : (source : Source) (spans : List Span) (i : ℕ) (groups more : List LabelGroup) (span : Span)
    (held : Contents)
    → AreReadTo source spans i groups → i < length spans → span ≡ get_or spans i span → IsInBounds source.bytes span →
    held ≡ contents 0 source span → more ≡ groups ++ record { span = span; contents = held } ∷ []
    → AreReadTo source spans (i + 1) more
read_more source spans i groups more span held h lt is accepted e m =
    let own : LabelGroup = record { span = span; contents = held } in
    subst (λ (gs : List LabelGroup). AreReadTo source spans (i + 1) gs) (sym m)
    (record {
      are = map-append (λ (g : LabelGroup). g.span) groups (own ∷ []) ∙ ap₂ (λ xs x. xs ++ x ∷ []) h.are is
          ∙ sym (take_more spans i span lt);
      contents_are = All-push (λ (g : LabelGroup). AreContents 0 source g.span g.contents) groups own h.contents_are
          (record { accepted = accepted; is = e });
    })

pub none_read : (source : Source) (spans : List Span) (groups : List LabelGroup) → groups ≡ []
    → AreReadTo source spans 0 groups
none_read source spans groups e =
    subst (λ (gs : List LabelGroup). AreReadTo source spans 0 gs) (sym e)
    (record { are = refl; contents_are = All-nil (λ (g : LabelGroup). AreContents 0 source g.span g.contents) })

pub all_read : (source : Source) (spans : List Span) (i : ℕ) (groups : List LabelGroup) → length spans ≤ i
    → AreReadTo source spans i groups → (map (λ group. group.span) groups ≡ spans)
    × All (λ group. AreContents 0 source group.span group.contents) groups
all_read source spans i groups past h = (h.are ∙ take_all i spans past, h.contents_are)

-- ---- the spans of groups are accepted

from_accepted : (bytes : List ℕ) (before : Span) (spans : List Span) → IsInBounds bytes before
    → AllByRecursion (IsInBounds bytes) spans → AllByRecursion (IsInBounds bytes) (merged_spans_from before spans)
from_accepted bytes before [] own h = (own, tt)
from_accepted bytes before (span ∷ spans) own h =
    by_cases {C = AllByRecursion (IsInBounds bytes) (merged_spans_from before (span ∷ spans))}
    (leb span.offset (end_of_span before))
    (λ t. rw t (from_accepted bytes (joined_span before span) spans (joined_accepted bytes before span own h.0) h.1))
    (λ f. rw f (own, from_accepted bytes span spans h.0 h.1))

stretches_accepted : (bytes : List ℕ) (spans : List Span) → AllByRecursion (IsInBounds bytes) spans
    → AllByRecursion (IsInBounds bytes) (merged_data_spans spans)
stretches_accepted bytes [] h = tt
stretches_accepted bytes (span ∷ spans) h = from_accepted bytes span spans h.0 h.1

read_accepted : (bytes : List ℕ) (reads : List ReadLabel) → All (λ read. IsInBounds bytes read.contents.span) reads
    → AllByRecursion (IsInBounds bytes) (stretches_read reads)
read_accepted bytes [] h = tt
read_accepted bytes (r ∷ rs) h = (h 0 r (omega arith), read_accepted bytes rs (λ k d lt. h (suc k) d (omega arith)))

pub groups_accepted : (bytes : List ℕ) (reads : List ReadLabel) (spans : List Span)
    → All (λ read. IsInBounds bytes read.contents.span) reads → spans
    ≡ merged_data_spans (by_begin (stretches_read reads)) → All (IsInBounds bytes) spans
groups_accepted bytes reads spans h e =
    subst (λ (ss : List Span). All (IsInBounds bytes) ss) (sym e)
    (All-from_recursion (IsInBounds bytes) (merged_data_spans (by_begin (stretches_read reads)))
    (stretches_accepted bytes (by_begin (stretches_read reads))
    (subst (λ (ss : List Span). AllByRecursion (IsInBounds bytes) ss) (by_begin_is (stretches_read reads))
    (sorted_each (λ s. s.offset) (IsInBounds bytes) (stretches_read reads) (read_accepted bytes reads h)))))

-- the data of a read lie in the source
contents_accepted : (c : ℕ) (source : Source) (span : Span) → IsInBounds source.bytes span
    → IsInBounds source.bytes (contents c source span).span
contents_accepted c source span h =
    let from = start_before_span source.bytes span c in
    record {
      begins = omega (arith, h.begins, from);
      ends = omega (arith, h.begins, from, end_within source.bytes span c);
    }

pub reads_accepted : (context : ℕ) (source : Source) (labels : List Label) (reads : List ReadLabel)
    → All (IsRead context source labels) reads → All (λ read. IsInBounds source.bytes read.contents.span) reads
reads_accepted context source labels reads h = λ k d lt.
    let r : ReadLabel = get_or reads k d in
    let own : IsRead context source labels r = h k d lt in
    let l : Label = label_at labels r.index in
    subst (λ (c : Contents). IsInBounds source.bytes c.span) (sym own.contents_are)
    (contents_accepted (label_context context labels l) source l.span
    (subst (λ (s : Span). IsInBounds source.bytes s) own.span own.accepted))

-- ---- groups of labels

reads_stretched : (context : ℕ) (source : Source) (labels : List Label) (reads : List ReadLabel)
    → All (IsRead context source labels) reads → stretches_read reads
    ≡ map (label_data_span context source labels) (map (read_of labels) reads)
reads_stretched context source labels [] h = refl
reads_stretched context source labels (r ∷ rs) h =
    let own : IsRead context source labels r = h 0 r (omega arith) in
    ap₂ (λ x xs. x ∷ xs) (ap (λ (c : Contents). c.span) own.contents_are)
    (reads_stretched context source labels rs (All-tail (IsRead context source labels) r rs h))

-- as the definition takes them
pub stretched : (context : ℕ) (source : Source) (labels : List Label) (reads : List ReadLabel)
    → map (read_of labels) reads ≡ in_order labels → All (IsRead context source labels) reads →
    merged_data_spans (by_begin (stretches_read reads)) ≡ own_groups context source (in_order labels)
stretched context source labels reads order h =
    ap (λ ss. merged_data_spans (by_begin ss)) (reads_stretched context source labels reads h
    ∙ ap (map (label_data_span context source labels)) order)
    ∙ ap (λ own. merged_data_spans (by_begin (map (λ l. (contents
    (unwrap_or l.context (cond own (max 1 context) context)) source l.span).span) (in_order labels))))
    (sym (own_ordered labels))

some_first : (spans : List Span) → spans ≢ [] → some_fails (true ∷ []) spans ≡ true
some_first [] h = absurd (h refl)
some_first (span ∷ spans) h = refl

-- what `own_groups` says
abbrev pub AreOwn : {V : Type 0} → (V → List LabelGroup) → Source → List Span → Option V → Type 0
AreOwn items source spans r = MatchOption r ((source.always_reads ≡ false) × (spans ≢ []))
    (λ v. (map (λ group. group.span) (items v) ≡ spans) × All (λ group. AreContents 0 source group.span group.contents)
    (items v))

own_grouped : {V : Type 0} (items : V → List LabelGroup) (context : ℕ) (source : Source) (ls : List Label)
    (r : Option V)
    → has_own_context ls ≡ true → AreOwn items source (own_groups context source ls) r
    → IsGroupsResult context source ls (option_map items r)
own_grouped items context source ls None own h =
    let groups : groups_of context source (true ∷ []) ls ≡ own_groups context source ls =
    ap (λ b. cond b (own_groups context source ls) (groups_answered context source (true ∷ []) (spans_of ls))) own in
    record {
      fails = true ∷ [];
      always = h.0;
      unread = ap₂ (λ b ss. b && some_fails (true ∷ []) ss) own groups ∙ some_first (own_groups context source ls) h.1;
    }
own_grouped items context source ls (Some v) own h = record {
  fails = [];
  always = λ a. tt;
  are = h.0 ∙ sym (ap (λ b. cond b (own_groups context source ls) (groups_answered context source [] (spans_of ls)))
      own);
  read = none_unread context source [] ls tt;
  contents_are = subst (λ (c : ℕ). All (λ group. AreContents c source group.span group.contents) (items v))
      (sym (ap (λ b. cond b 0 context) own)) h.1;
}

pub grouped_own : {V : Type 0} (items : V → List LabelGroup) (context : ℕ) (source : Source) (labels : List Label)
    (reads : List ReadLabel) (own : Bool) (r : Option V) → map (read_of labels) reads ≡ in_order labels →
    All (IsRead context source labels) reads → own ≡ has_own_context labels → own ≡ true
    → AreOwn items source (merged_data_spans (by_begin (stretches_read reads))) r
    → IsGroupsResult context source (in_order labels) (option_map items r)
grouped_own items context source labels reads own r order h which t given =
    own_grouped items context source (in_order labels) r (own_ordered labels ∙ sym which ∙ t)
    (subst (λ (ss : List Span). AreOwn items source ss r) (stretched context source labels reads order h) given)

-- ---- where no label has its own number

none_at : (labels : List Label) (i : ℕ) → has_own_context labels ≡ false → i < length labels
    → is_some (label_at labels i).context ≡ false
none_at [] i f lt = absurd (omega (arith, lt))
none_at (l ∷ ls) zero f lt = (or_parts (is_some l.context) (has_own_context ls) f).0
none_at (l ∷ ls) (suc i) f lt = none_at ls i (or_parts (is_some l.context) (has_own_context ls) f).1 (omega (arith, lt))

pub all_contents : (context : ℕ) (source : Source) (labels : List Label) (reads : List ReadLabel) (own : Bool) → own
    ≡ has_own_context labels → own ≡ false → All (IsRead context source labels) reads →
    All (λ label. AreContents context source label.span label.contents) reads
all_contents context source labels reads own which f h = λ k d lt.
    let r : ReadLabel = get_or reads k d in
    let mine : IsRead context source labels r = h k d lt in
    let l : Label = label_at labels r.index in
    let none : has_own_context labels ≡ false = sym which ∙ f in
    record {
      accepted = mine.accepted;
      is = mine.contents_are ∙ ap (λ c. contents c source l.span)
          (none_around context labels l none (none_at labels r.index none mine.inside))
          ∙ ap (contents context source) (sym mine.span);
    }

spans_same : (context : ℕ) (source : Source) (labels : List Label) (reads : List ReadLabel)
    → All (IsRead context source labels) reads → map (λ r. r.span) reads ≡ spans_of (map (read_of labels) reads)
spans_same context source labels [] h = refl
spans_same context source labels (r ∷ rs) h =
    let own : IsRead context source labels r = h 0 r (omega arith) in
    ap₂ (λ x xs. x ∷ xs) own.span (spans_same context source labels rs (All-tail (IsRead context source labels) r rs h))

-- labels that were read in order come by offset
reads_mapped : (from : ℕ) (reads : List ReadLabel) → IsAscending from (map (λ r. r.span) reads)
    → Rises (λ r. r.span.offset) from reads
reads_mapped from [] h = tt
reads_mapped from (r ∷ rs) h = (h.0, reads_mapped r.span.offset rs h.1)

pub reads_ascend : (context : ℕ) (source : Source) (labels : List Label) (reads : List ReadLabel)
    → map (read_of labels) reads ≡ in_order labels → All (IsRead context source labels) reads
    → Rises (λ r. r.span.offset) 0 reads
reads_ascend context source labels reads e h =
    reads_mapped 0 reads (subst (λ (ss : List Span). IsAscending 0 ss)
    (sym (spans_same context source labels reads h ∙ ap spans_of e)) (ordered_ascends labels))

pub reads_rise : (context : ℕ) (source : Source) (labels : List Label) (reads : List ReadLabel)
    → map (read_of labels) reads ≡ in_order labels → All (IsRead context source labels) reads
    → IsNonDecreasingBy (λ r. r.span.offset) reads
reads_rise context source labels reads e h =
    non_decreasing (λ r. r.span.offset) 0 reads (reads_ascend context source labels reads e h)

pub grouped_joined : (context : ℕ) (source : Source) (labels : List Label) (reads : List ReadLabel) (own : Bool)
    (groups : List LabelGroup) → map (read_of labels) reads ≡ in_order labels → All (IsRead context source labels) reads
    →
    own ≡ has_own_context labels → own ≡ false → AreJoined context source (map (λ r. r.span) reads) groups
    → AreGroups context source (in_order labels) groups
grouped_joined context source labels reads own groups order h which f g =
    let ls : List Label = in_order labels in
    let none : has_own_context ls ≡ false = own_ordered labels ∙ sym which ∙ f in
    record {
      fails = g.fails;
      always = g.always;
      are = g.are ∙ ap (groups_answered context source g.fails)
          (spans_same context source labels reads h ∙ ap spans_of order)
          ∙ sym (ap (λ b. cond b (own_groups context source ls) (groups_answered context source g.fails (spans_of ls)))
          none);
      read = ap (λ b. b && some_fails g.fails (groups_of context source g.fails ls)) none;
      contents_are = subst (λ (c : ℕ). All (λ group. AreContents c source group.span group.contents) groups)
          (sym (ap (λ b. cond b 0 context) none)) g.contents_are;
    }

-- groups that there are
pub are_grouped : (context : ℕ) (source : Source) (labels : List Label) (r : Option (List LabelGroup))
    (groups got : List LabelGroup) → IsGroupsResult context source labels r → r ≡ Some groups → got ≡ groups
    → AreGroups context source labels got
are_grouped context source labels r groups got h is e =
    subst (λ (gs : List LabelGroup). AreGroups context source labels gs) (sym e)
    (subst (λ (o : Option (List LabelGroup)). IsGroupsResult context source labels o) is h)
