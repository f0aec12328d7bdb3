-- What holds of each mark of a finding, and of marks that say nothing, holds of the mark of each label.
use Rattle.std.proofs.Common.{◌≡◌, ℕ, Bool, true, false, List, [], ◌∷◌, Option, Some, None, refl}
use Rattle.std.specs.Prelude.{◌&&◌, IfSome, if◌then◌else◌, is_none, nat_le, option_map}
use Rattle.std.specs.List.{AllByRecursion}
use Rattle.std.proofs.lemmas.Bool.{and_parts, not-false}
use Rattle.miette_lines.specs.rules.Lists.{is_nil}
use Rattle.miette_labels.specs.rules.Groups.{in_order, put_label}
use Rattle.miette_protocol.specs.views.Meaning.{Label}
use Rattle.miette_sarif.specs.rules.Findings.{SarifLocation, SnapshotValue}
use Rattle.miette_sarif.specs.rules.Marks.{SourceLabels, PrimaryPick, first_picked, mark_over, says_something}
use Rattle.miette_sarif.specs.rules.Marks.{marks_from, marks_in, marks_of, other_marks, pick, pick_in, pick_label}
use Rattle.miette_sarif.specs.rules.Marks.{pick_over, picked_or, primary_in, primary_mark}
use Rattle.miette_sarif.proofs.Lists.{all_split}

-- of the mark of a label, and of those of a group
abbrev pub Says : (SarifLocation → Type 0) → Option SnapshotValue → Label → Type 0
Says P over l = P (mark_over over l)

abbrev pub GroupSays : (SarifLocation → Type 0) → SourceLabels → Type 0
GroupSays P g = AllByRecursion (Says P g.over) g.labels

-- it holds of marks that say nothing
abbrev pub HoldsOfNone : (SarifLocation → Type 0) → Type 0
HoldsOfNone P = (m : SarifLocation) → says_something m ≡ false → P m

-- ---- marks of labels

nil_is : (xs : List ℕ) → is_nil xs ≡ true → xs ≡ []
nil_is [] e = refl
nil_is (x ∷ xs) e = cc

pub untold_text : (m : SarifLocation) → says_something m ≡ false → m.text ≡ []
untold_text m e =
    nil_is m.text (and_parts (is_none m.place) (is_nil m.text) (not-false (is_none m.place && is_nil m.text) e)).1

pub untold_place : (m : SarifLocation) → says_something m ≡ false → is_none m.place ≡ true
untold_place m e = (and_parts (is_none m.place) (is_nil m.text) (not-false (is_none m.place && is_nil m.text) e)).0

mark_says : (P : SarifLocation → Type 0) (over : Option SnapshotValue) (l : Label) (later : List SarifLocation)
    (ls : List Label) (b : Bool)
    → says_something (mark_over over l) ≡ b → HoldsOfNone P → (AllByRecursion P later → AllByRecursion (Says P over) ls)
    → AllByRecursion P (if b then mark_over over l ∷ later else later) → AllByRecursion (Says P over) (l ∷ ls)
mark_says P over l later ls true e quiet f h = (h.0, f h.1)
mark_says P over l later ls false e quiet f h = (quiet (mark_over over l) e, f h)

marks_say : (P : SarifLocation → Type 0) (over : Option SnapshotValue) (ls : List Label) → HoldsOfNone P
    → AllByRecursion P (marks_from over ls) → AllByRecursion (Says P over) ls
marks_say P over [] quiet h = tt
marks_say P over (l ∷ ls) quiet h =
    mark_says P over l (marks_from over ls) ls (says_something (mark_over over l)) refl quiet
    (marks_say P over ls quiet) h

pub groups_say : (P : SarifLocation → Type 0) (gs : List SourceLabels) → HoldsOfNone P → AllByRecursion P (marks_of gs)
    → AllByRecursion (GroupSays P) gs
groups_say P [] quiet h = tt
groups_say P (g ∷ gs) quiet h =
    let parts = all_split P (marks_in g) (marks_of gs) h in
    (marks_say P g.over g.labels quiet parts.0, groups_say P gs quiet parts.1)

-- ---- the label that is picked, and the others

abbrev LabelsBy : (SarifLocation → Type 0) → Option SnapshotValue → List Label → Label × List Label → Type 0
LabelsBy P over ls found =
    Says P over found.0 → AllByRecursion (Says P over) found.1 → AllByRecursion (Says P over) ls

label_by : (P : SarifLocation → Type 0) (over : Option SnapshotValue) (l : Label) (ls : List Label) (b : Bool)
    (o : Option (Label × List Label)) → IfSome o (LabelsBy P over ls)
    → IfSome (if b then Some (l, ls) else option_map (λ found. (found.0, l ∷ found.1)) o) (LabelsBy P over (l ∷ ls))
label_by P over l ls true o h = λ first rest. (first, rest)
label_by P over l ls false None h = tt
label_by P over l ls false (Some found) h = λ first rest. (rest.0, h first rest.1)

labels_by : (P : SarifLocation → Type 0) (over : Option SnapshotValue) (test : Label → Bool) (ls : List Label)
    → IfSome (pick_label test ls) (LabelsBy P over ls)
labels_by P over test [] = tt
labels_by P over test (l ∷ ls) =
    label_by P over l ls (test l) (pick_label test ls) (labels_by P over test ls)

abbrev GroupBy : (SarifLocation → Type 0) → Option SnapshotValue → List Label → SarifLocation × SourceLabels → Type 0
GroupBy P over ls found = P found.0 → GroupSays P found.1 → AllByRecursion (Says P over) ls

over_by : (P : SarifLocation → Type 0) (it : SnapshotValue) (ls : List Label) (o : Option (Label × List Label))
    → IfSome o (LabelsBy P (Some it) ls)
    → IfSome (option_map (λ found. (mark_over (Some it) found.0, record { over = Some it; labels = found.1 })) o)
    (GroupBy P (Some it) ls)
over_by P it ls None h = tt
over_by P it ls (Some found) h = h

group_by : (P : SarifLocation → Type 0) (test : Label → Bool) (over : Option SnapshotValue) (ls : List Label)
    → IfSome (pick_over test over ls) (GroupBy P over ls)
group_by P test None ls = tt
group_by P test (Some it) ls = over_by P it ls (pick_label test ls) (labels_by P (Some it) test ls)

abbrev GroupsBy : (SarifLocation → Type 0) → List SourceLabels → PrimaryPick → Type 0
GroupsBy P gs it = P it.mark → AllByRecursion (GroupSays P) it.others → AllByRecursion (GroupSays P) gs

picked_by : (P : SarifLocation → Type 0) (g : SourceLabels) (gs : List SourceLabels)
    (first : Option (SarifLocation × SourceLabels)) (later : Option PrimaryPick)
    → IfSome first (GroupBy P g.over g.labels) → IfSome later (GroupsBy P gs)
    → IfSome (picked_or first g gs later) (GroupsBy P (g ∷ gs))
picked_by P g gs None None h f = tt
picked_by P g gs None (Some it) h f = λ first rest. (rest.0, f first rest.1)
picked_by P g gs (Some found) later h f = λ first rest. (h first rest.0, rest.1)

groups_by : (P : SarifLocation → Type 0) (test : Label → Bool) (gs : List SourceLabels)
    → IfSome (pick test gs) (GroupsBy P gs)
groups_by P test [] = tt
groups_by P test (g ∷ gs) =
    picked_by P g gs (pick_in test g) (pick test gs) (group_by P test g.over g.labels) (groups_by P test gs)

either_by : (Q : PrimaryPick → Type 0) (first later : Option PrimaryPick) → IfSome first Q → IfSome later Q
    → IfSome (first_picked first later) Q
either_by Q None later h g = g
either_by Q (Some it) later h g = h

primary_says : (P : SarifLocation → Type 0) (over : Option SnapshotValue) (gs : List SourceLabels)
    (o : Option PrimaryPick)
    → IfSome o (GroupsBy P gs) → HoldsOfNone P → IfSome (primary_mark o over) P → AllByRecursion P (other_marks o gs)
    → AllByRecursion (GroupSays P) gs
primary_says P over gs None f quiet h g = groups_say P gs quiet g
primary_says P over gs (Some it) f quiet h g = f h (groups_say P it.others quiet g)

-- of the primary mark and the other ones of groups, so of the labels of each group
pub all_groups_say : (P : SarifLocation → Type 0) (over : Option SnapshotValue) (gs : List SourceLabels) → HoldsOfNone P
    → IfSome (primary_mark (primary_in gs) over) P → AllByRecursion P (other_marks (primary_in gs) gs)
    → AllByRecursion (GroupSays P) gs
all_groups_say P over gs quiet h g =
    let found = either_by (GroupsBy P gs) (pick (λ l. l.primary) gs) (pick (λ l. true) gs)
    (groups_by P (λ l. l.primary) gs) (groups_by P (λ l. true) gs) in
    primary_says P over gs (primary_in gs) found quiet h g

-- ---- labels by offset, over all sources

put_says : (K : Label → Type 0) (l next : Label) (ls : List Label) (b : Bool)
    → (AllByRecursion K (put_label l ls) → AllByRecursion K (l ∷ ls))
    → AllByRecursion K (if b then l ∷ next ∷ ls else next ∷ put_label l ls) → AllByRecursion K (l ∷ next ∷ ls)
put_says K l next ls true f h = h
put_says K l next ls false f h = let rest = f h.1 in (rest.0, (h.0, rest.1))

one_put : (K : Label → Type 0) (l : Label) (ls : List Label) → AllByRecursion K (put_label l ls)
    → AllByRecursion K (l ∷ ls)
one_put K l [] h = h
one_put K l (next ∷ ls) h =
    put_says K l next ls (nat_le l.span.offset next.span.offset) (one_put K l ls) h

pub order_says : (K : Label → Type 0) (ls : List Label) → AllByRecursion K (in_order ls) → AllByRecursion K ls
order_says K [] h = tt
order_says K (l ∷ ls) h = let put = one_put K l (in_order ls) h in (put.0, order_says K ls put.1)
