-- The first label that passes a test, in one list and in those of several sources; labels by offset.
use Rattle.std.proofs.Common.{◌≡◌, ℕ, zero, suc, ◌+◌, ◌<◌, ◌≤◌, Bool, true, false, cond, List, [], ◌∷◌, ◌++◌, length}
use Rattle.std.proofs.Common.{get_or, Option, Some, None, refl, sym, ap, ◌∙◌, arith, append_assoc, append-nil}
use Rattle.std.specs.Prelude.{not, nat_lt, option_map, position}
use Rattle.std.specs.List.{AllByRecursion, position_or_len, prefix_len, remove}
use Rattle.std.specs.List.Sorted.{IsNonDecreasingBy, IsStableByKey}
use Rattle.std.specs.Ordering.{nat_cmp}
use Rattle.std.proofs.lemmas.Bool.{ltb-false}
use Rattle.std.proofs.lemmas.List.{map-append}
use Rattle.std.proofs.lemmas.List.Quantifiers.{position-Some}
use Rattle.miette_labels.specs.rules.Groups.{in_order}
use Rattle.miette_labels.proofs.SortedLabels.{sort_is, sorted_mapped}
use Rattle.miette_protocol.specs.views.Meaning.{Label}
use Rattle.miette_tree.specs.rules.Diagnosis.{Section}
use Rattle.miette_sarif.specs.declared.labels.SourceLabels.{SourceLabels as GroupHere}
use Rattle.miette_sarif.specs.rules.Findings.{SarifLocation, SnapshotValue}
use Rattle.miette_sarif.specs.rules.Marks.{SourceLabels, PrimaryPick, further_groups, marks_in, marks_of, pick_label}
use Rattle.miette_sarif.specs.rules.Marks.{picked_or}
use Rattle.miette_sarif.specs.views.Grouped.{group_of, groups_in, labels_in}
use denote.Ref.{Bor}

-- ---- in one list

at_place : (test : Label → Bool) (xs : List (Bor Label)) (at : ℕ) (d : Bor Label) → at < length xs
    → test (get_or xs at d).now ≡ true → ((k : ℕ) → k < at → test (get_or xs k d).now ≡ false)
    → pick_label test (labels_in xs) ≡ Some ((get_or xs at d).now, labels_in (remove xs at))
at_place test [] at d l h g = absurd (omega (arith, l))
at_place test (x ∷ xs) zero d l h g = rw h refl
at_place test (x ∷ xs) (suc at) d l h g =
    let no : test x.now ≡ false = g 0 (omega arith) in
    rw no (ap (option_map (λ (found : Label × List Label). (found.0, x.now ∷ found.1)))
    (at_place test xs at d (omega (arith, l)) h (λ k lt. g (suc k) (omega (arith, lt)))))

pub found_label : (test : Label → Bool) (xs : List (Bor Label)) (at : ℕ) (d : Bor Label)
    → Some at ≡ position (λ x. test x.now) xs
    → pick_label test (labels_in xs) ≡ Some ((get_or xs at d).now, labels_in (remove xs at))
found_label test xs at d e =
    let found = position-Some (λ (x : Bor Label). test x.now) xs at d (sym e) in
    at_place test xs at d found.0 found.1 found.2

one_fails : (test : Label → Bool) (x : Bor Label) (xs : List (Bor Label)) (b : Bool) → test x.now ≡ b
    → suc (length xs) ≤ cond (not b) (1 + prefix_len (λ (y : Bor Label). not (test y.now)) xs) 0
    → (length xs ≤ prefix_len (λ (y : Bor Label). not (test y.now)) xs → pick_label test (labels_in xs) ≡ None)
    → pick_label test (labels_in (x ∷ xs)) ≡ None
one_fails test x xs true e l f = absurd (omega arith)
one_fails test x xs false e l f =
    rw e (ap (option_map (λ (found : Label × List Label). (found.0, x.now ∷ found.1))) (f (omega arith)))

all_fail : (test : Label → Bool) (xs : List (Bor Label))
    → length xs ≤ prefix_len (λ (y : Bor Label). not (test y.now)) xs → pick_label test (labels_in xs) ≡ None
all_fail test [] h = refl
all_fail test (x ∷ xs) h = one_fails test x xs (test x.now) refl h (all_fail test xs)

none_found : (test : Label → Bool) (xs : List (Bor Label)) (b : Bool)
    → nat_lt (position_or_len (λ (y : Bor Label). test y.now) xs) (length xs) ≡ b
    → None ≡ cond b (Some (position_or_len (λ (y : Bor Label). test y.now) xs)) None
    → pick_label test (labels_in xs) ≡ None
none_found test xs true f g = cc
none_found test xs false f g =
    all_fail test xs (ltb-false (position_or_len (λ (y : Bor Label). test y.now) xs) (length xs) f)

pub no_label : (test : Label → Bool) (xs : List (Bor Label)) → None ≡ position (λ x. test x.now) xs
    → pick_label test (labels_in xs) ≡ None
no_label test xs e =
    none_found test xs (nat_lt (position_or_len (λ (y : Bor Label). test y.now) xs) (length xs)) refl e

-- ---- in those of several sources

-- what is picked after some groups
abbrev pub after_groups : List SourceLabels → Option PrimaryPick → Option PrimaryPick
after_groups gs found = option_map (λ it. record { mark = it.mark; others = gs ++ it.others }) found

pub after_none : (found : Option PrimaryPick) → after_groups [] found ≡ found
after_none None = refl
after_none (Some it) = refl

pub after_one : (gs : List SourceLabels) (g : SourceLabels) (hs : List SourceLabels) (found : Option PrimaryPick)
    → after_groups gs (picked_or None g hs found) ≡ after_groups (gs ++ g ∷ []) found
after_one gs g hs None = refl
after_one gs g hs (Some it) =
    let made : List SourceLabels → Option PrimaryPick = λ others. Some (record { mark = it.mark; others = others }) in
    ap made (sym (append_assoc gs (g ∷ []) it.others))

-- ---- by offset

each_is : (xs : List (Bor Label)) → AllByRecursion (λ x. x.now.span.offset ≡ x.now.span.offset) xs
each_is [] = tt
each_is (x ∷ xs) = (refl, each_is xs)

pub sorted_labels : (xs ys : List (Bor Label)) → IsNonDecreasingBy (λ l. l.now.span.offset) ys
    → IsStableByKey (λ l. l.now.span.offset) nat_cmp xs ys → labels_in ys ≡ in_order (labels_in xs)
sorted_labels xs ys up stable =
    let key : Bor Label → ℕ = λ l. l.now.span.offset in
    let now : Bor Label → Label = λ l. l.now in
    ap labels_in (sort_is key xs ys up stable) ∙ sorted_mapped key now xs (each_is xs)

-- ---- where no source is left

no_groups : (its : List SnapshotValue) → further_groups its [] ≡ []
no_groups [] = refl
no_groups (it ∷ its) = refl

pub groups_end : (gs all : List SourceLabels) (its : List SnapshotValue) (ss : List Section) → ss ≡ []
    → gs ++ further_groups its ss ≡ all → gs ≡ all
groups_end gs all its ss e h =
    sym (append-nil gs) ∙ ap (λ l. gs ++ l) (sym (no_groups its)) ∙ ap (λ l. gs ++ further_groups its l) (sym e) ∙ h

-- ---- marks of one more group

marks_more : (gs : List SourceLabels) (g : SourceLabels) → marks_of (gs ++ g ∷ []) ≡ marks_of gs ++ marks_in g
marks_more [] g = append-nil (marks_in g)
marks_more (h ∷ hs) g =
    ap (λ l. marks_in h ++ l) (marks_more hs g) ∙ sym (append_assoc (marks_in h) (marks_of hs) (marks_in g))

pub marks_pushed : (old now new : List SarifLocation) (xs : List GroupHere) (x : GroupHere)
    → now ≡ old ++ marks_of (groups_in xs) → new ≡ now ++ marks_in (group_of x)
    → new ≡ old ++ marks_of (groups_in (xs ++ x ∷ []))
marks_pushed old now new xs x e f =
    f ∙ ap (λ l. l ++ marks_in (group_of x)) e ∙ append_assoc old (marks_of (groups_in xs)) (marks_in (group_of x))
    ∙ ap (λ l. old ++ l) (sym (marks_more (groups_in xs) (group_of x)))
    ∙ ap (λ gs. old ++ marks_of gs) (sym (map-append group_of xs (x ∷ [])))
