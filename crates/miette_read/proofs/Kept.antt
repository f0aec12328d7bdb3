-- Each row that is told is kept in the report.
use Rattle.std.proofs.Common.{◌≡◌, ◌⊎◌, ℕ, zero, suc, ◌+◌, List, [], ◌∷◌, ◌++◌, Option, Some, None, Bool, true}
use Rattle.std.proofs.Common.{false, arith, map, filter, codes, refl, sym, ap, subst, ◌∙◌, inl, inr}
use Rattle.std.proofs.Common.{append_assoc, append-nil}
use Rattle.std.specs.Prelude.{◌&&◌, ◌||◌, if◌then◌else◌, decimal}
use Rattle.std.specs.List.{Any, Contains, flat_map, fold, list_any}
use Rattle.std.proofs.lemmas.Bool.{eq-eqb}
use Rattle.miette_protocol.specs.rules.Reading.{Source}
use Rattle.miette_fixes.specs.rules.Edits.{FixModel}
use Rattle.miette_tree.specs.rules.Diagnosis.{plain_diagnosis}
use Rattle.miette_tree.specs.rules.DiagnosticParts.{given_labels}
use Rattle.miette_tree.specs.rules.Tree.{Trees, single_report, texts, trees, with_all_snippets, with_cause, with_fixes}
use Rattle.miette_tree.specs.rules.Tree.{with_related}
use Rattle.miette_read.specs.rules.Kept.{IsInLabel, IsInSection, IsKept, IsPart, IsPartOf}
use Rattle.miette_read.specs.rules.Places.{ToolLocation, ByteRange, Annotation, join_rows, tool_location_text}
use Rattle.miette_read.specs.rules.Places.{row_after, text_after}
use Rattle.miette_read.specs.rules.SuggestedFixes.{Suggestion}
use Rattle.miette_read.specs.rules.Reports.{MessageParts, advice_of, further_files, is_listed, label_of, labels_in}
use Rattle.miette_read.specs.rules.Reports.{main_fixes, maybe_source, meaning_with, report_tree, sections_from}
use Rattle.miette_read.specs.rules.Reports.{some_labels}
use Rattle.miette_read.specs.rules.AnnotationLabels.{FileLabel, LabelLists, file_range, has_no_rows, is_label_around}
use Rattle.miette_read.specs.rules.AnnotationLabels.{is_label_at, main_file_name}
use Rattle.miette_read.specs.rules.AnnotationLabels.{with_labeled, maybe_text}
use Rattle.miette_read.specs.rules.AnnotationLabels.{with_new_label, no_label_lists, label_lists, with_located}
use Rattle.miette_read.specs.rules.AnnotationLabels.{with_annotation}
use Rattle.miette_read.specs.rules.AnnotationLabels.{with_annotation_at, with_more_rows, with_row, with_rows, with_text}
use Rattle.miette_read.proofs.Accepted.{AllFit, given_some, nth, settled_fits}
use Rattle.miette_read.proofs.Holding.{Has, Is, has_after, has_any, has_by, has_each, has_it, has_map, has_more}
use Rattle.miette_read.proofs.ReportsRead.{either}
use Rattle.miette_read.proofs.RowLists.{row_stays, row_there, rows_stay, rows_there}

-- ---- parts of texts

part_self : (row : List ℕ) → IsPart row row
part_self row = ([], [], sym (append-nil row))

part_before : (row text more : List ℕ) → IsPart row text → IsPart row (text ++ more)
part_before row text more h = (
  h.0,
  h.1 ++ more,
  ap (λ t. t ++ more) h.2 ∙ append_assoc h.0 (row ++ h.1) more ∙ ap (λ t. h.0 ++ t) (append_assoc row h.1 more),
)

part_after : (row front text : List ℕ) → IsPart row text → IsPart row (front ++ text)
part_after row front text h =
    (front ++ h.0, h.1, ap (λ t. front ++ t) h.2 ∙ sym (append_assoc front h.0 (row ++ h.1)))

-- a row after a text begins with a line feed
part_next : (row text : List ℕ) → IsPart row (row_after text row)
part_next row text = part_after row text (10 ∷ row) (part_after row (10 ∷ []) row (part_self row))

part_kept : (row text : List ℕ) (rows : List (List ℕ)) → IsPart row text → IsPart row (fold row_after text rows)
part_kept row text [] h = h
part_kept row text (r ∷ rs) h = part_kept row (row_after text r) rs (part_before row text (10 ∷ r) h)

part_among : (row text : List ℕ) (rows : List (List ℕ)) → Has (Is row) rows → IsPart row (fold row_after text rows)
part_among row text [] h = absurd h
part_among row text (r ∷ rs) (inl is) =
    part_kept row (row_after text r) rs
    (subst (λ (k : List ℕ). IsPart row (row_after text k)) (sym is) (part_next row text))
part_among row text (r ∷ rs) (inr h) = part_among row (row_after text r) rs h

part_joined : (row : List ℕ) (rows : List (List ℕ)) → Has (Is row) rows → IsPartOf row (join_rows rows)
part_joined row [] h = absurd h
part_joined row (r ∷ rs) (inl is) =
    part_kept row r rs (subst (λ (k : List ℕ). IsPart row k) (sym is) (part_self row))
part_joined row (r ∷ rs) (inr h) = part_among row r rs h

part_told : (row : List ℕ) (o : Option (List ℕ)) → IsPartOf row o → IsPart row (text_after o)
part_told row None h = absurd h
part_told row (Some text) h = part_after row (codes ": ") text h

part_placed : (row : List ℕ) (p : ToolLocation) (rows : List (List ℕ)) → Has (Is row) rows
    → IsPart row (tool_location_text p rows)
part_placed row p rows h =
    part_after row ((p.name ++ (codes ":" ++ decimal p.line)) ++ (codes ":" ++ decimal p.column))
    (text_after (join_rows rows)) (part_told row (join_rows rows) (part_joined row rows h))

some_rows : (row : List ℕ) (rows : List (List ℕ)) → Has (Is row) rows → has_no_rows rows ≡ false
some_rows row [] h = absurd h
some_rows row (r ∷ rs) h = refl

-- ---- a row is held where it is one of a label's, or a part of a text

abbrev IsOf : List ℕ → FileLabel → Type 0
IsOf row m = Has (Is row) m.rows

abbrev IsHeld : List ℕ → LabelLists → Type 0
IsHeld row done = Has (IsOf row) done.marks ⊎ Has (IsPart row) done.texts

-- what is held stays

text_stays : (row : List ℕ) (done : LabelLists) (text : List ℕ) → IsHeld row done → IsHeld row (with_text done text)
text_stays row done text (inl m) = inl m
text_stays row done text (inr t) = inr (row_stays (IsPart row) done.texts text t)

maybe_stays : (row : List ℕ) (done : LabelLists) (o : Option (List ℕ)) → IsHeld row done
    → IsHeld row (maybe_text done o)
maybe_stays row done None h = h
maybe_stays row done (Some text) h = text_stays row done text h

again_stays : (row name : List ℕ) (s : ByteRange) (t : Annotation) (m : FileLabel) → IsOf row m
    → IsOf row (with_more_rows name s t m)
again_stays row name s t m h = either (IsOf row) (is_label_at name s m) _ m (rows_stay (Is row) m.rows t.rows h) h

all_again_stay : (row name : List ℕ) (s : ByteRange) (t : Annotation) (done : LabelLists) → IsHeld row done
    → IsHeld row (record done { marks = map (with_more_rows name s t) done.marks })
all_again_stay row name s t done (inl m) =
    inl (has_map (IsOf row) (IsOf row) (with_more_rows name s t) (again_stays row name s t) done.marks m)
all_again_stay row name s t done (inr text) = inr text

newly_stays : (row : List ℕ) (done : LabelLists) (name : List ℕ) (source : Source) (s : ByteRange) (t : Annotation)
    → IsHeld row done → IsHeld row (with_new_label done name source s t)
newly_stays row done name source s t (inl m) = inl (has_more (IsOf row) done.marks _ m)
newly_stays row done name source s t (inr text) = inr text

marked_stays : (row : List ℕ) (done : LabelLists) (name : List ℕ) (source : Source) (s : ByteRange) (t : Annotation)
    → IsHeld row done → IsHeld row (with_labeled done name source s t)
marked_stays row done name source s t h =
    either (IsHeld row) (list_any (is_label_at name s) done.marks) _ _ (all_again_stay row name s t done h)
    (either (IsHeld row) (has_no_rows t.rows && list_any (is_label_around name s) done.marks) done
    (with_new_label done name source s t) h (newly_stays row done name source s t h))

at_stays : (row : List ℕ) (done : LabelLists) (t : Annotation) (p : ToolLocation) (f : Option (Source × ByteRange))
    → IsHeld row done
    → IsHeld row (with_located done t p f)
at_stays row done t p None h = text_stays row done (tool_location_text p t.rows) h
at_stays row done t p (Some f) h = marked_stays row done p.name f.0 f.1 t h

with_stays : (files : List ℕ → Option Source) (row : List ℕ) (done : LabelLists) (t : Annotation)
    (p : Option ToolLocation)
    → IsHeld row done → IsHeld row (with_annotation_at files done t p)
with_stays files row done t None h = maybe_stays row done (join_rows t.rows) h
with_stays files row done t (Some p) h = at_stays row done t p (file_range files p) h

all_stay : (files : List ℕ → Option Source) (row : List ℕ) (ts : List Annotation) (done : LabelLists) → IsHeld row done
    → IsHeld row (fold (with_annotation files) done ts)
all_stay files row [] done h = h
all_stay files row (t ∷ ts) done h =
    all_stay files row ts (with_annotation files done t) (with_stays files row done t t.place h)

-- what is told is held

text_held : (row : List ℕ) (done : LabelLists) (text : List ℕ) → IsPart row text → IsHeld row (with_text done text)
text_held row done text h =
    inr (has_each (Is text) (IsPart row) (λ k is. subst (λ (l : List ℕ). IsPart row l) (sym is) h)
    (with_row done.texts text) (row_there done.texts text))

maybe_held : (row : List ℕ) (done : LabelLists) (o : Option (List ℕ)) → IsPartOf row o → IsHeld row (maybe_text done o)
maybe_held row done None h = absurd h
maybe_held row done (Some text) h = text_held row done text h

again_by : (row : List ℕ) (t : Annotation) (m : FileLabel) (b : Bool) → b ≡ true → Has (Is row) t.rows
    → IsOf row (if b then record m {
      primary = m.primary || (t.primary && t.own);
      rows = with_rows m.rows t.rows;
    } else m)
again_by row t m true e h = rows_there row m.rows t.rows h
again_by row t m false e h = cc

newly_held : (row : List ℕ) (done : LabelLists) (name : List ℕ) (source : Source) (s : ByteRange) (t : Annotation)
    → Has (Is row) t.rows → IsHeld row (with_new_label done name source s t)
newly_held row done name source s t h = inl (has_after (IsOf row) done.marks (_ ∷ [])
    (inl (rows_there row [] t.rows h)))

beside_held : (row : List ℕ) (done : LabelLists) (name : List ℕ) (source : Source) (s : ByteRange) (t : Annotation)
    → Has (Is row) t.rows
    → IsHeld row (if has_no_rows t.rows && list_any (is_label_around name s) done.marks then done
    else with_new_label done name source s t)
beside_held row done name source s t h =
    subst (λ (b : Bool). IsHeld row (if b && list_any (is_label_around name s) done.marks then done
    else with_new_label done name source s t)) (sym (some_rows row t.rows h))
    (newly_held row done name source s t h)

marked_by : (row : List ℕ) (done : LabelLists) (name : List ℕ) (source : Source) (s : ByteRange) (t : Annotation)
    (b : Bool)
    → list_any (is_label_at name s) done.marks ≡ b → Has (Is row) t.rows
    → IsHeld row (if b then record done { marks = map (with_more_rows name s t) done.marks }
    else (if has_no_rows t.rows && list_any (is_label_around name s) done.marks then done
    else with_new_label done name source s t))
marked_by row done name source s t true e h =
    inl (has_map (λ (m : FileLabel). is_label_at name s m ≡ true) (IsOf row) (with_more_rows name s t)
    (λ m is. again_by row t m (is_label_at name s m) is h) done.marks (has_by (is_label_at name s) done.marks e))
marked_by row done name source s t false e h = beside_held row done name source s t h

at_held : (row : List ℕ) (done : LabelLists) (t : Annotation) (p : ToolLocation) (f : Option (Source × ByteRange))
    → Has (Is row) t.rows → IsHeld row (with_located done t p f)
at_held row done t p None h = text_held row done (tool_location_text p t.rows) (part_placed row p t.rows h)
at_held row done t p (Some f) h = marked_by row done p.name f.0 f.1 t (list_any (is_label_at p.name f.1) done.marks)
    refl h

with_held : (files : List ℕ → Option Source) (row : List ℕ) (done : LabelLists) (t : Annotation)
    (p : Option ToolLocation)
    → Has (Is row) t.rows → IsHeld row (with_annotation_at files done t p)
with_held files row done t None h = maybe_held row done (join_rows t.rows) (part_joined row t.rows h)
with_held files row done t (Some p) h = at_held row done t p (file_range files p) h

told_held : (files : List ℕ → Option Source) (row : List ℕ) (ts : List Annotation) (done : LabelLists)
    → Has (λ t. Has (Is row) t.rows) ts → IsHeld row (fold (with_annotation files) done ts)
told_held files row [] done h = absurd h
told_held files row (t ∷ ts) done (inl here) =
    all_stay files row ts (with_annotation files done t) (with_held files row done t t.place here)
told_held files row (t ∷ ts) done (inr h) = told_held files row ts (with_annotation files done t) h

-- ---- what is held is kept

abbrev IsOn : List ℕ → ℕ → FileLabel → Type 0
IsOn row n m = IsOf row m × (m.list ≡ n)

-- a label that holds it, by the number of its list, whose file is there
placed : (files : List ℕ → Option Source) (ss : List Source) (row : List ℕ) (ms : List FileLabel) → AllFit files ss ms
    → Has (IsOf row) ms → (n : ℕ) × (s : Source) × (nth ss n ≡ Some s) × Has (IsOn row n) ms
placed files ss row [] is_in_scope h = absurd h
placed files ss row (m ∷ ms) is_in_scope (inl here) = let f = is_in_scope.0 in (m.list, f.0, f.2, inl (here, refl))
placed files ss row (m ∷ ms) is_in_scope (inr h) =
    let there = placed files ss row ms is_in_scope.1 h in (there.0, there.1, there.2, inr there.3)

listed_by : (row : List ℕ) (m : FileLabel) (ms : List FileLabel) (b : Bool) → b ≡ true → IsOf row m
    → Has (IsInLabel row) (map label_of (if b then m ∷ ms else ms))
listed_by row m ms true e h = inl (part_joined row m.rows h)
listed_by row m ms false e h = cc

listed : (row : List ℕ) (n : ℕ) (ms : List FileLabel) → Has (IsOn row n) ms → Has (IsInLabel row) (labels_in ms n)
listed row n [] h = absurd h
listed row n (m ∷ ms) (inl here) =
    listed_by row m (filter (is_listed n) ms) (is_listed n m) (eq-eqb m.list n here.1) here.0
listed row n (m ∷ ms) (inr h) =
    let rest = listed row n ms h in
    let kept = filter (is_listed n) ms in
    either (λ l. Has (IsInLabel row) (map label_of l)) (is_listed n m) (m ∷ kept) kept (inr rest) rest

sectioned : (row : List ℕ) (ms : List FileLabel) (k : ℕ) (ss : List Source) (j n : ℕ) (s : Source) → nth ss j ≡ Some s
    → n ≡ k + j → Has (IsInLabel row) (labels_in ms n) → Has (IsInSection row) (sections_from ms k ss)
sectioned row ms k [] j n s is e h = cc
sectioned row ms k (x ∷ xs) zero n s is e h =
    let same : n ≡ k = omega (arith, e) in
    inl (has_any (IsInLabel row) (labels_in ms k) (subst (λ (i : ℕ). Has (IsInLabel row) (labels_in ms i)) same h))
sectioned row ms k (x ∷ xs) (suc j) n s is e h =
    let next : n ≡ (k + 1) + j = omega (arith, e) in inr (sectioned row ms (k + 1) xs j n s is next h)

-- in the labels of the first list, or in those of a further one
abbrev IsLabelled : List ℕ → List FileLabel → List Source → Type 0
IsLabelled row ms ss =
    Any (IsInLabel row) (given_labels (some_labels (labels_in ms 0)))
    ⊎ Any (IsInSection row) (sections_from ms 1 (further_files ss))

labelled : (row : List ℕ) (ms : List FileLabel) (ss : List Source) (n : ℕ) (s : Source) → nth ss n ≡ Some s
    → Has (IsOn row n) ms → IsLabelled row ms ss
labelled row ms ss zero s is h =
    inl (subst (Any (IsInLabel row)) (sym (given_some (labels_in ms 0)))
    (has_any (IsInLabel row) (labels_in ms 0) (listed row 0 ms h)))
labelled row ms [] (suc j) s is h = cc
labelled row ms (x ∷ xs) (suc j) s is h =
    let number : suc j ≡ 1 + j = omega arith in
    inr (has_any (IsInSection row) (sections_from ms 1 xs)
    (sectioned row ms 1 xs j (suc j) s is number (listed row (suc j) ms h)))

kept_by : (row : List ℕ) (said : MessageParts) (ms : List FileLabel) (ss : List Source) (ts : List (List ℕ))
    (more : Trees)
    (fixes : List FixModel) → IsLabelled row ms ss ⊎ Any (IsPart row) ts
    → IsKept (with_related more (with_fixes fixes (with_all_snippets (sections_from ms 1 (further_files ss))
    (with_cause (texts ts) (maybe_source ss (single_report (plain_diagnosis (meaning_with said ms)))))))) row
kept_by row said ms [] ts more fixes (inl (inl label)) = inl label
kept_by row said ms [] ts more fixes (inl (inr section)) = inr (inl section)
kept_by row said ms [] ts more fixes (inr text) = inr (inr text)
kept_by row said ms (s ∷ ss) ts more fixes (inl (inl label)) = inl label
kept_by row said ms (s ∷ ss) ts more fixes (inl (inr section)) = inr (inl section)
kept_by row said ms (s ∷ ss) ts more fixes (inr text) = inr (inr text)

held_kept : (files : List ℕ → Option Source) (row : List ℕ) (done : LabelLists) → AllFit files done.files done.marks
    → IsHeld row done → IsLabelled row done.marks done.files ⊎ Any (IsPart row) done.texts
held_kept files row done is_in_scope (inl m) =
    let it = placed files done.files row done.marks is_in_scope m in
    inl (labelled row done.marks done.files it.0 it.1 it.2 it.3)
held_kept files row done is_in_scope (inr text) = inr (has_any (IsPart row) done.texts text)

pub report_keeps : (files : List ℕ → Option Source) (said : MessageParts) (ts : List Annotation)
    (offers : List Suggestion) (t : Annotation)
    (row : List ℕ) → Contains ts t → Contains t.rows row → IsKept (report_tree said (label_lists files ts) offers) row
report_keeps files said ts offers t row told here =
    let done = label_lists files ts in
    let rows = has_it (Is row) t.rows row here refl in
    let among = has_it (λ (k : Annotation). Has (Is row) k.rows) ts t told rows in
    kept_by row said done.marks done.files done.texts (trees (flat_map (advice_of (main_file_name done.marks)) offers))
    (flat_map (main_fixes (main_file_name done.marks)) offers)
    (held_kept files row done (settled_fits files ts no_label_lists tt)
    (told_held files row ts no_label_lists among))
