-- A label that is taken out of its group, and a group out of which one was taken.
use Rattle.std.proofs.Common.{◌≡◌, ℕ, zero, suc, ◌<◌, Bool, List, [], ◌∷◌, ◌++◌, length, get_or, take, drop}
use Rattle.std.proofs.Common.{set, Option, Some, None, refl, sym, ap, ◌∙◌, arith, subst, drop-cons}
use Rattle.std.specs.Prelude.{option_map, position}
use Rattle.std.specs.List.{remove}
use Rattle.std.proofs.lemmas.List.{map-append}
use Rattle.miette_protocol.specs.views.Meaning.{Label}
use Rattle.miette_sarif.specs.declared.labels.SourceLabels.{SourceLabels as GroupHere}
use Rattle.miette_sarif.specs.rules.Findings.{SarifLocation, SnapshotValue}
use Rattle.miette_sarif.specs.rules.Marks.{SourceLabels, PrimaryPick, mark_over, pick, pick_in, pick_label, pick_over}
use Rattle.miette_sarif.specs.rules.Marks.{picked_or}
use Rattle.miette_sarif.specs.views.Grouped.{group_of, groups_in, labels_in}
use Rattle.miette_sarif.proofs.Picks.{after_groups, found_label, no_label}
use denote.Ref.{Bor}

abbrev with_labels : Option SnapshotValue → List Label → SourceLabels
with_labels over labels = record { over = over; labels = labels }

abbrev picked_from : SnapshotValue → (Label × List Label) → SarifLocation × SourceLabels
picked_from it found = (mark_over (Some it) found.0, with_labels (Some it) found.1)

pub group_taken : (test : Label → Bool) (over : Option SnapshotValue) (it : SnapshotValue) (xs ys : List (Bor Label))
    (at : ℕ) (x : Bor Label) (mark : SarifLocation) → over ≡ Some it → Some at ≡ position (λ l. test l.now) xs
    → x ≡ get_or xs at x → ys ≡ remove xs at → mark ≡ mark_over (Some it) x.now
    → pick_over test over (labels_in xs) ≡ Some (mark, with_labels over (labels_in ys))
group_taken test over it xs ys at x mark e found value rest is =
    let pair : Bor Label → List (Bor Label) → Option (Label × List Label) = λ y ls. Some (y.now, labels_in ls) in
    let whole : SarifLocation → Option SnapshotValue → Option (SarifLocation × SourceLabels) =
    λ m o. Some (m, with_labels o (labels_in ys)) in
    let picked : pick_label test (labels_in xs) ≡ Some (x.now, labels_in ys) =
    found_label test xs at x found ∙ ap (λ y. pair y (remove xs at)) (sym value) ∙ ap (pair x) (sym rest) in
    ap (λ o. pick_over test o (labels_in xs)) e ∙ ap (option_map (picked_from it)) picked
    ∙ ap (λ m. whole m (Some it)) (sym is) ∙ ap (whole mark) (sym e)

pub nothing_taken : (test : Label → Bool) (over : Option SnapshotValue) (xs : List (Bor Label))
    → None ≡ position (λ l. test l.now) xs → pick_over test over (labels_in xs) ≡ None
nothing_taken test None xs e = refl
nothing_taken test (Some it) xs e = ap (option_map (picked_from it)) (no_label test xs e)

set_is : {A : Type 0} (xs : List A) (i : ℕ) (x : A) → i < length xs → set xs i x ≡ take i xs ++ x ∷ drop (suc i) xs
set_is [] i x h = absurd (omega (arith, h))
set_is (y ∷ ys) zero x h = refl
set_is (y ∷ ys) (suc i) x h = ap (λ l. y ∷ l) (set_is ys i x (omega (arith, h)))

pub first_taken : (test : Label → Bool) (gs now : List GroupHere) (i : ℕ) (g h : GroupHere) (mark : SarifLocation)
    → pick test (groups_in gs) ≡ after_groups (groups_in (take i gs)) (pick test (groups_in (drop i gs)))
    → now ≡ gs → i < length gs → g ≡ get_or now i g → pick_in test (group_of g) ≡ Some (mark, group_of h)
    → pick test (groups_in gs) ≡ Some (record { mark = mark; others = groups_in (set now i h) })
first_taken test gs now i g h mark picked same within is found =
    let made : List SourceLabels → Option PrimaryPick = λ others. Some (record { mark = mark; others = others }) in
    let later : List GroupHere = drop (suc i) now in
    let inside : i < length now = subst (λ l. i < length l) (sym same) within in
    let here : drop i now ≡ g ∷ later = drop-cons now i g inside ∙ ap (λ x. x ∷ later) (sym is) in
    let step : pick test (groups_in (drop i now)) ≡ made (group_of h ∷ groups_in later) =
    ap (λ l. pick test (groups_in l)) here
    ∙ ap (λ o. picked_or o (group_of g) (groups_in later) (pick test (groups_in later))) found in
    let others : groups_in (take i now) ++ group_of h ∷ groups_in later ≡ groups_in (set now i h) =
    sym (map-append group_of (take i now) (h ∷ later)) ∙ ap groups_in (sym (set_is now i h inside)) in
    picked ∙ ap (λ l. after_groups (groups_in (take i l)) (pick test (groups_in (drop i l)))) (sym same)
    ∙ ap (after_groups (groups_in (take i now))) step ∙ ap made others
