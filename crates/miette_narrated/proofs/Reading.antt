-- Labels that were read, as they are told; groups of them; and what a refused one says.
use Rattle.std.proofs.Common.{ℕ, suc, ◌+◌, ◌<◌, ◌≤◌, ◌≡◌, Bool, true, false, leb, min, max, ◌&&◌, ◌||◌, List, [], ◌∷◌}
use Rattle.std.proofs.Common.{◌++◌, map, length, drop, get_or, All, Option, Some, None, refl, sym, ap, ap₂, subst, ◌∙◌}
use Rattle.std.proofs.Common.{append_assoc, append-nil, arith, add-one}
use Rattle.std.specs.Prelude.{slice_get, unwrap_or}
use Rattle.std.specs.Option.{option_map_or}
use Rattle.std.specs.List.{list_all}
use Rattle.std.proofs.Math.Seq.{drop-cons}
use Rattle.std.proofs.lemmas.Bool.{leb-true, leb-false, and_parts}
use Rattle.miette_protocol.specs.views.Meaning.{Label}
use Rattle.miette_protocol.specs.rules.Reading.{Span, Source, IsInBounds, contents_of, is_in_bounds}
use Rattle.miette_labels.specs.declared.placed.PlacedLabel.{PlacedLabel}
use Rattle.miette_labels.specs.declared.groups.LabelGroup.{LabelGroup}
use Rattle.miette_labels.specs.declared.reading.ReadLabel.{ReadLabel}
use Rattle.miette_labels.specs.declared.reading.RefusalReason.{RefusalReason}
use Rattle.miette_labels.specs.declared.reading.ReadLabels.{ReadLabels}
use Rattle.miette_labels.specs.declared.reading.ReadLabels.TheVariants as reads
use Rattle.miette_labels.specs.rules.Answers.{NoneFails}
use Rattle.miette_labels.specs.rules.Contexts.{contents, end_of_span}
use Rattle.miette_labels.specs.rules.Around.{has_own_context, label_context, group_context}
use Rattle.miette_labels.specs.rules.Groups.{put_label, in_order, first_refusal, AreInBounds, groups_of, some_fails}
use Rattle.miette_labels.specs.rules.Groups as groups
use Rattle.miette_labels.specs.views.Placing.{LabelPlacement, placement_of, place_label, placements_from}
use Rattle.miette_labels.specs.views.Reads.{IsRead, AreRead, AreContents, AreGroups, IsGroupsResult, IsUnread}
use Rattle.miette_lines.proofs.Cases.{by_cases}
use Rattle.miette_labels.proofs.OwnContexts.{order_all}
use Rattle.miette_labels.proofs.RefusedLabel.{all_accepted, read_of}
use Rattle.miette_narrated.specs.rules.Labels.{LabelRange, label_range}
use Rattle.miette_narrated.specs.steps.Conversions.{range_of, ranges_of}
use Rattle.miette_narrated.specs.rules.Snippets.{snippet, snippets_of}
use Rattle.miette_tree.specs.rules.Reads.{accepts}
use Rattle.miette_narrated.specs.steps.LabelSweep.{BeginsFrom, AreOrdered}
use Rattle.miette_narrated.specs.steps.AppendedParts.{AppendsNarratedSnippets}
use Rattle.std.proofs.lemmas.List.{drop_all}
use Rattle.std.proofs.lemmas.List.Elements.{All-tail, All-head}
use Rattle.miette_lines.specs.rules.Lists.{is_nil}

-- where a read's data end cuts a label as the source's end does
abbrev pub Reaches : Type 0
Reaches = (source : Source) → (span : Span) → (before after : ℕ) → IsInBounds source.bytes span →
    min (span.offset + span.len) (length source.bytes)
    ≡ min (span.offset + span.len) ((contents_of source span before after).span.offset
    + (contents_of source span before after).span.len)

text_there : (o : Option Label) → option_map_or (λ label. label.text) o None
    ≡ (unwrap_or o (record {
      text = None;
      span = record { offset = 0; len = 0 };
      primary = false;
      context =
          None;
    })).text
text_there None = refl
text_there (Some label) = refl

-- a label with its text, where it lies in a source
abbrev range_placed : LabelPlacement → LabelRange
range_placed p = record { start = p.start; after = p.after; text = p.text }

told_one : (context : ℕ) (source : Source) (labels : List Label) (i : ℕ) (r : ReadLabel) → Reaches
    → IsRead context source labels r →
    range_placed (place_label None [] i labels r) ≡ label_range (length source.bytes) (read_of labels r)
told_one context source labels i r law h =
    let l = read_of labels r in
    let n = length source.bytes in
    let around = label_context context labels l in
    let ends : end_of_span r.contents.span ≡ end_of_span (contents around source r.span).span =
    ap (λ c. end_of_span c.span) (h.contents_are ∙ ap (contents around source) (sym h.span)) in
    let cut : min (end_of_span r.span) (end_of_span r.contents.span) ≡ min (end_of_span r.span) n =
    ap (min (end_of_span r.span)) ends ∙ sym (law source r.span around around h.accepted) in
    ap₂ (λ e t. the r.span.offset (max r.span.offset e) t) cut (text_there (slice_get labels r.index))
    ∙ ap (λ s. the s.offset (max s.offset (min (end_of_span s) n)) l.text) h.span where
      the : ℕ → ℕ → Option (List ℕ) → LabelRange
      the a b t = record { start = a; after = b; text = t }

told_reads : (context : ℕ) (source : Source) (labels : List Label) (i : ℕ) (rs : List ReadLabel) → Reaches
    → All (IsRead context source labels) rs →
    map range_placed (placements_from None [] i labels rs) ≡ map (label_range (length source.bytes))
    (map (read_of labels) rs)
told_reads context source labels i [] law h = refl
told_reads context source labels i (r ∷ rs) law h =
    ap₂ (λ x xs. x ∷ xs) (told_one context source labels i r law (All-head (IsRead context source labels) r rs h))
    (told_reads context source labels (i + 1) rs law (All-tail (IsRead context source labels) r rs h))

range_twice : (ps : List PlacedLabel) → ranges_of ps ≡ map range_placed (map placement_of ps)
range_twice [] = refl
range_twice (p ∷ ps) = ap (λ rs. range_of p ∷ rs) (range_twice ps)

pub told_in_order : (context : ℕ) (source : Source) (labels : List Label) (rs : List ReadLabel) (ps : List PlacedLabel)
    → Reaches → All (IsRead context source labels) rs → map (read_of labels) rs ≡ in_order labels →
    map placement_of ps ≡ placements_from None [] 0 labels rs →
    ranges_of ps ≡ map (label_range (length source.bytes)) (in_order labels)
told_in_order context source labels rs ps law h order e =
    range_twice ps ∙ ap (map range_placed) e ∙ told_reads context source labels 0 rs law h
    ∙ ap (map (label_range (length source.bytes))) order

-- ---- their order

abbrev Rises : ℕ → List Label → Type 0
Rises from [] = Unit {0}
Rises from (l ∷ ls) = (from ≤ l.span.offset) × Rises l.span.offset ls

put_rises : (from : ℕ) (l : Label) (ls : List Label) → from ≤ l.span.offset → Rises from ls
    → Rises from (put_label l ls)
put_rises from l [] le h = (le, tt)
put_rises from l (m ∷ ls) le h =
    by_cases {C = Rises from (put_label l (m ∷ ls))} (leb l.span.offset m.span.offset)
    (λ t. rw t (le, (leb-true l.span.offset m.span.offset t, h.1)))
    (λ f. rw f (h.0, put_rises m.span.offset l ls (omega (arith, leb-false l.span.offset m.span.offset f)) h.1))

order_rises : (ls : List Label) → Rises 0 (in_order ls)
order_rises [] = tt
order_rises (l ∷ ls) = put_rises 0 l (in_order ls) (omega arith) (order_rises ls)

ordered_reads : (context : ℕ) (source : Source) (labels : List Label) (i from : ℕ) (rs : List ReadLabel)
    (ps : List PlacedLabel) → All (IsRead context source labels) rs → Rises from (map (read_of labels) rs) →
    map placement_of ps ≡ placements_from None [] i labels rs → AreOrdered ps × BeginsFrom from ps
ordered_reads context source labels i from [] [] h up e = (tt, tt)
ordered_reads context source labels i from [] (p ∷ ps) h up e = absurd (cc)
ordered_reads context source labels i from (r ∷ rs) [] h up e = absurd (cc)
ordered_reads context source labels i from (r ∷ rs) (p ∷ ps) h up e =
    let start : r.span.offset ≡ (read_of labels r).span.offset =
    ap (λ s. s.offset) (All-head (IsRead context source labels) r rs h).span in
    let first : placement_of p ≡ place_label None [] i labels r = ap (λ xs. get_or xs 0 (placement_of p)) e in
    let from_is : p.start ≡ r.span.offset = ap (λ (x : LabelPlacement). x.start) first in
    let after_is : p.after ≡ max r.span.offset (min (end_of_span r.span) (end_of_span r.contents.span)) =
    ap (λ (x : LabelPlacement). x.after) first in
    let more = ordered_reads context source labels (i + 1) r.span.offset rs ps
    (All-tail (IsRead context source labels) r rs h)
    (subst (λ k. Rises k (map (read_of labels) rs)) (sym start) up.1) (ap (drop 1) e) in (
      (omega (arith, from_is, after_is), subst (λ (k : ℕ). BeginsFrom k ps) (sym from_is) more.1, more.0),
      omega (arith, start, from_is, up.0),
    )

pub placed_ordered : (context : ℕ) (source : Source) (labels : List Label) (rs : List ReadLabel) (ps : List PlacedLabel)
    → All (IsRead context source labels) rs → map (read_of labels) rs ≡ in_order labels →
    map placement_of ps ≡ placements_from None [] 0 labels rs → AreOrdered ps
placed_ordered context source labels rs ps h order e =
    (ordered_reads context source labels 0 0 rs ps h (subst (λ (ls : List Label). Rises 0 ls) (sym order)
    (order_rises labels)) e).0

-- ---- groups, one after the other

pub groups_more : (handlers : ℕ) (source : Source) (labels : List LabelRange) (ls : List Label) (gs : List LabelGroup)
    (i : ℕ) (d : LabelGroup) (out new goal : List ℕ) → AreGroups handlers source ls gs → i < length gs → d
    ≡ get_or gs i d →
    new ≡ out ++ snippet labels d.contents → out ++ snippets_of (group_context handlers ls) source labels
    (map (λ g. g.span) (drop i gs)) ≡ goal →
    new ++ snippets_of (group_context handlers ls) source labels (map (λ g. g.span) (drop (i + 1) gs)) ≡ goal
groups_more handlers source labels ls gs i d out new goal are lt is e h =
    let context : ℕ = group_context handlers ls in
    let later = snippets_of context source labels (map (λ g. g.span) (drop (suc i) gs)) in
    let contents_are : d.contents ≡ contents context source d.span =
    (subst (λ (g : LabelGroup). AreContents context source g.span g.contents) (sym is) (are.contents_are i d lt)).is in
    let left : drop i gs ≡ d ∷ drop (suc i) gs = drop-cons gs i d lt ∙ ap (λ x. x ∷ drop (suc i) gs) (sym is) in
    ap (λ k. new ++ snippets_of context source labels (map (λ g. g.span) (drop k gs))) (add-one i)
    ∙ ap (λ o. o ++ later) (e ∙ ap (λ c. out ++ snippet labels c) contents_are)
    ∙ append_assoc out (snippet labels (contents context source d.span)) later
    ∙ ap (λ xs. out ++ snippets_of context source labels (map (λ g. g.span) xs)) (sym left) ∙ h

pub groups_end : (context : ℕ) (source : Source) (labels : List LabelRange) (gs : List LabelGroup) (i : ℕ)
    (out goal : List ℕ) → length gs ≤ i →
    out ++ snippets_of context source labels (map (λ g. g.span) (drop i gs)) ≡ goal → out ≡ goal
groups_end context source labels gs i out goal le h =
    sym (append-nil out) ∙ ap (λ xs. out ++ snippets_of context source labels (map (λ g. g.span) xs))
    (sym (drop_all i gs le)) ∙ h

pub snippets_told : (context : ℕ) (source : Source) (labels : List Label) (rs : List ReadLabel) (ps : List PlacedLabel)
    (gs : List LabelGroup) (old new : List ℕ) → Reaches → All (IsRead context source labels) rs →
    map (read_of labels) rs ≡ in_order labels → map placement_of ps ≡ placements_from None [] 0 labels rs
    → AreGroups context source (in_order labels) gs →
    new ≡ old ++ snippets_of (group_context context (in_order labels)) source (ranges_of ps)
    (map (λ g. g.span) gs) → AppendsNarratedSnippets context (Some source) labels old new
snippets_told context source labels rs ps gs old new law h order e are text =
    let fails = are.fails in
    record {
      fails = fails;
      possible = record {
        accepted = subst (λ (ls : List Label). AreInBounds source.bytes ls) order
            (all_accepted context source labels rs h);
        always = are.always;
      };
      appended = text ∙ ap₂ (λ ts ss. old ++ snippets_of (group_context context (in_order labels)) source ts ss)
          (told_in_order context source labels rs ps law h order e) are.are;
    }

-- ---- a group that can't be read

own_some : (labels : List Label) → has_own_context (in_order labels) ≡ true → is_nil labels ≡ false
own_some [] h = cc
own_some (l ∷ ls) h = refl

not_all : (a n r : Bool) → n ≡ false → r ≡ false → (a && (n || r)) ≡ false
not_all true n r e f = ap₂ (λ x y. x || y) e f
not_all false n r e f = refl

pub unread_group : (context : ℕ) (source : Source) (labels : List Label) (r : Option (List LabelGroup))
    → IsGroupsResult context source (in_order labels) r → r ≡ None → accepts (Some source) labels ≡ false
unread_group context source labels r h is =
    let none : IsUnread context source (in_order labels) =
    subst (λ (o : Option (List LabelGroup)). IsGroupsResult context source (in_order labels) o) is h in
    let own = and_parts (has_own_context (in_order labels)) (some_fails none.fails
    (groups_of context source none.fails (in_order labels))) none.unread in
    not_all (list_all (λ l. is_in_bounds source.bytes l.span) labels) (is_nil labels) source.always_reads
    (own_some labels own.0) none.always

-- ---- a refused label

accepts_all : (bytes : List ℕ) (fails : List Bool) (ls : List Label) → NoneFails fails
    → list_all (λ l. is_in_bounds bytes l.span) ls ≡ true → first_refusal bytes fails ls ≡ None
accepts_all bytes fails [] none all = refl
accepts_all bytes [] (l ∷ ls) none all =
    let p = and_parts (is_in_bounds bytes l.span) (list_all (λ m. is_in_bounds bytes m.span) ls) all in
    rw p.0 (accepts_all bytes [] ls tt p.1)
accepts_all bytes (f ∷ fails) (l ∷ ls) none all =
    let p = and_parts (is_in_bounds bytes l.span) (list_all (λ m. is_in_bounds bytes m.span) ls) all in
    rw (none.0, p.0) (accepts_all bytes fails ls none.1 p.1)

never_both : {X : Type 0} (o : Option X) (x : X) → o ≡ None → o ≡ Some x → ⊥
never_both o x e f = cc

not_both : (b c : Bool) → (b ≡ true → c ≡ true → ⊥) → (b && c) ≡ false
not_both true true h = absurd (h refl refl)
not_both true false h = refl
not_both false c h = refl

refused_nil : (bytes : List ℕ) (fails : List Bool) (r : groups.Refusal) (ls : List Label)
    → first_refusal bytes fails (in_order ls) ≡ Some r → is_nil ls ≡ true → ⊥
refused_nil bytes fails r [] e n = cc
refused_nil bytes fails r (l ∷ ls) e n = cc

reads_or_nil : (b c : Bool) → (b || c) ≡ true → (b ≡ true → ⊥) → c ≡ true
reads_or_nil true c e f = absurd (f refl)
reads_or_nil false c e f = e

refused_label : (context : ℕ) (source : Source) (labels : List Label) (index : ℕ) (reason : RefusalReason)
    → AreRead context source labels (in_order labels) (reads.Refused index reason) → accepts (Some source) labels
    ≡ false
refused_label context source labels index reason h =
    not_both (list_all (λ l. is_in_bounds source.bytes l.span) labels) (is_nil labels || source.always_reads)
    (λ all reads. never_both _ _ (accepts_all source.bytes h.0 (in_order labels)
    (h.1 (reads_or_nil (is_nil labels) source.always_reads reads (refused_nil source.bytes h.0 _ labels h.2)))
    (order_all (λ l. is_in_bounds source.bytes l.span) labels ∙ all)) h.2)

pub refused_read : (context : ℕ) (source : Source) (labels order : List Label) (r : ReadLabels) (index : ℕ)
    (reason : RefusalReason) → AreRead context source labels order r → r ≡ reads.Refused index reason → order
    ≡ in_order labels →
    accepts (Some source) labels ≡ false
refused_read context source labels order r index reason h is sorted =
    refused_label context source labels index reason
    (subst (λ (x : ReadLabels). AreRead context source labels (in_order labels) x) is
    (subst (λ (ls : List Label). AreRead context source labels ls r) sorted h))
