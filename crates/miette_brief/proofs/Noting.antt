-- Labels one after the other: their rows, and whether they are accepted.
use Rattle.std.proofs.Common.{ℕ, suc, zero, ◌+◌, ◌≡◌, ◌<◌, ◌≤◌, List, [], ◌∷◌, ◌++◌, length, get_or, map, drop, add-one}
use Rattle.std.proofs.Common.{Bool, true, false, ◌&&◌, ◌||◌, nat_le, Option, Some, None, refl, sym, ap, ap₂, subst, ◌∙◌}
use Rattle.std.proofs.Common.{arith}
use Rattle.std.specs.List.{list_all}
use Rattle.std.proofs.Math.Seq.{drop-cons}
use Rattle.std.proofs.lemmas.Bool.{and_parts, leb-true}
use Rattle.std.proofs.lemmas.List.{drop_all}
use Rattle.std.proofs.Math.Bool.{and-false}
use Rattle.miette_protocol.specs.rules.Reading.{Source, Span, IsInBounds, is_in_bounds}
use Rattle.miette_protocol.specs.views.Meaning.{Label}
use Rattle.miette_labels.specs.rules.Contexts.{end_of_span}
use Rattle.miette_brief.specs.rules.Rows.{brief_rows_text}
use Rattle.miette_brief.specs.rules.Locations.{label_location}
use Rattle.miette_brief.specs.rules.Report.{note_rows_of, note_rows}
use Rattle.miette_brief.proofs.Putting.{rows_more}
use Rattle.miette_brief.specs.rules.PossibleAnswers.{HasAccepted}
use Rattle.miette_brief.specs.steps.Reads.{IsRefusedRead, IsReadAt}
use Rattle.miette_lines.specs.rules.Lists.{is_nil}
use Rattle.miette_tree.specs.rules.Reads.{accepts}
use Rattle.miette_labels.specs.declared.order.OrderedLabel.{OrderedLabel}

-- what stands for a turn where there is none
abbrev pub no_turn : OrderedLabel
no_turn = record { index = 0; offset = 0 }

-- the test of a span says whether it is accepted

pub true_accepted : (bytes : List ℕ) (span : Span) → is_in_bounds bytes span ≡ true → IsInBounds bytes span
true_accepted bytes span h =
    let p = and_parts (nat_le span.offset (length bytes)) (nat_le (end_of_span span) (length bytes + 1)) h in
    record {
      begins = leb-true span.offset (length bytes) p.0;
      ends =
          leb-true (end_of_span span) (length bytes + 1) p.1;
    }

-- ---- acceptance

-- labels are accepted where the first is and the others are
pub one_accepted : (source : Option Source) (label : Label) (labels : List Label) → IsReadAt source label.span
    → HasAccepted source labels → HasAccepted source (label ∷ labels)
one_accepted None label labels h more = tt
one_accepted (Some source) label labels h more = (h, more)

pub none_accepted : (source : Option Source) → HasAccepted source []
none_accepted None = tt
none_accepted (Some source) = tt

-- the labels from a place of a list on, from the next place on
pub accepted_more : {X : Type 0} (label : X → Label) (source : Option Source) (xs : List X) (i : ℕ) (d : X)
    (here : Label) (goal : List Label) → i < length xs → here ≡ label (get_or xs i d)
    → IsReadAt source here.span → (HasAccepted source (map label (drop i xs)) → HasAccepted source goal)
    → HasAccepted source (map label (drop (i + 1) xs)) → HasAccepted source goal
accepted_more label source xs i d here goal lt is h f more =
    let later : HasAccepted source (map label (drop (suc i) xs)) =
    subst (λ k. HasAccepted source (map label (drop k xs))) (add-one i) more in
    let read : IsReadAt source (label (get_or xs i d)).span = subst (λ (l : Label). IsReadAt source l.span) is h in
    let all : HasAccepted source (map label (get_or xs i d ∷ drop (suc i) xs)) =
    one_accepted source (label (get_or xs i d)) (map label (drop (suc i) xs)) read later in
    f (subst (λ ys. HasAccepted source (map label ys)) (sym (drop-cons xs i d lt)) all)

pub accepted_end : {X : Type 0} (label : X → Label) (source : Option Source) (xs : List X) (i : ℕ) (goal : List Label)
    → length xs ≤ i
    → (HasAccepted source (map label (drop i xs)) → HasAccepted source goal) → HasAccepted source goal
accepted_end label source xs i goal le f = f (subst (λ ys. HasAccepted source (map label ys)) (sym (drop_all i xs le))
    (none_accepted source))

-- ---- refusals

all_or : (p q rest nil reads : Bool) → (p ≡ true → reads ≡ false) → nil ≡ false → ((p && q) && (nil || reads)) ≡ false
all_or true q rest nil reads h n = ap₂ (λ x y. q && (x || y)) n (h refl) ∙ and-false q
all_or false q rest nil reads h n = refl

some_false : (p q r : Bool) → (q && r) ≡ false → ((p && q) && r) ≡ false
some_false true q r h = h
some_false false q r h = refl

pub first_refused : (source : Option Source) (label : Label) (labels : List Label) → IsRefusedRead source label.span
    → accepts source (label ∷ labels) ≡ false
first_refused None label labels h = absurd h
first_refused (Some source) label labels h =
    all_or (is_in_bounds source.bytes label.span) (list_all (λ l. is_in_bounds source.bytes l.span) labels) true false
    source.always_reads
    (λ e. h (true_accepted source.bytes label.span e)) refl

later_refused : (source : Option Source) (label : Label) (labels : List Label) → accepts source labels ≡ false
    → (is_nil labels ≡ false) → accepts source (label ∷ labels) ≡ false
later_refused None label labels h n = h
later_refused (Some source) label labels h n =
    some_false (is_in_bounds source.bytes label.span) (list_all (λ l. is_in_bounds source.bytes l.span) labels)
    source.always_reads
    (ap (λ b. list_all (λ l. is_in_bounds source.bytes l.span) labels && (b || source.always_reads)) (sym n) ∙ h)

refused_at : {X : Type 0} (label : X → Label) (source : Option Source) (xs : List X) (i : ℕ) (d : X) → i < length xs
    → IsRefusedRead source (label (get_or xs i d)).span → accepts source (map label xs) ≡ false
refused_at label source [] i d lt h = absurd (omega arith)
refused_at label source (x ∷ xs) zero d lt h = first_refused source (label x) (map label xs) h
refused_at label source (x ∷ []) (suc i) d lt h = absurd (omega arith)
refused_at label source (x ∷ (y ∷ ys)) (suc i) d lt h =
    later_refused source (label x) (map label (y ∷ ys)) (refused_at label source (y ∷ ys) i d (omega arith) h) refl

-- a label of a list that is refused
pub some_refused : {X : Type 0} (label : X → Label) (source : Option Source) (xs : List X) (i : ℕ) (d : X)
    (here : Label) → i < length xs → here ≡ label (get_or xs i d)
    → IsRefusedRead source here.span → accepts source (map label xs) ≡ false
some_refused label source xs i d here lt is h = refused_at label source xs i d lt
    (subst (λ (l : Label). IsRefusedRead source l.span) is h)

-- ---- rows

-- the row of one label more is written
pub notes_more : {X : Type 0} (label : X → Label) (source : Option Source) (xs : List X) (i : ℕ) (d : X) (here : Label)
    (out new goal : List ℕ) → i < length xs → here ≡ label (get_or xs i d)
    → new ≡ out ++ brief_rows_text (note_rows_of (label_location source here.span) here.text) → out
    ++ brief_rows_text (note_rows source (map label (drop i xs))) ≡ goal
    → new ++ brief_rows_text (note_rows source (map label (drop (i + 1) xs))) ≡ goal
notes_more label source xs i d here out new goal lt is e h =
    rows_more (λ x. note_rows_of (label_location source (label x).span) (label x).text)
    (λ ys. note_rows source (map label ys)) xs i d (get_or xs i d) out new goal (λ x more. refl) lt refl
    (e ∙ ap (λ l. out ++ brief_rows_text (note_rows_of (label_location source l.span) l.text)) is) h
