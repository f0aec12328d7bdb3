-- What is told at a place is shown, or is a cause text.
use Rattle.std.proofs.Common.{◌≡◌, ◌⊎◌, ℕ, ◌+◌, ◌-◌, ◌≤◌, List, [], ◌∷◌, Option, Some, None, Bool}
use Rattle.std.proofs.Common.{true, false, IfSome, arith, length, map, refl, sym, subst, ◌∙◌, inl, inr}
use Rattle.std.specs.Prelude.{◌&&◌, if◌then◌else◌}
use Rattle.std.specs.List.{AllByRecursion, Any, Contains, fold, list_any}
use Rattle.std.proofs.lemmas.Bool.{and_from, and_parts, eqb-true, leb-true, or_left, or_right}
use Rattle.std.proofs.lemmas.Option.{same_Some}
use Rattle.std.proofs.lemmas.Slice.Eq.{bytes_eq-Decides}
use Rattle.miette_protocol.specs.rules.Reading.{Source}
use Rattle.miette_read.specs.rules.Places.{ToolLocation, ByteRange, Annotation, join_rows, tool_location_text}
use Rattle.miette_read.specs.rules.SuggestedFixes.{Suggestion}
use Rattle.miette_read.specs.rules.Reports.{MessageParts, label_of, report_tree, sections_from}
use Rattle.miette_read.specs.rules.AnnotationLabels.{FileLabel, LabelLists, first_accepting, file_range, has_no_rows}
use Rattle.miette_read.specs.rules.AnnotationLabels.{is_label_around, is_label_at}
use Rattle.miette_read.specs.rules.AnnotationLabels.{accepts_label, maybe_text}
use Rattle.miette_read.specs.rules.AnnotationLabels.{new_label, with_new_label, no_label_lists, label_lists}
use Rattle.miette_read.specs.rules.AnnotationLabels.{with_located}
use Rattle.miette_read.specs.rules.AnnotationLabels.{with_annotation}
use Rattle.miette_read.specs.rules.AnnotationLabels.{with_annotation_at, with_more_rows, with_rows}
use Rattle.miette_read.proofs.Accepted.{AllFit, nth, settled_fits}
use Rattle.miette_read.proofs.ReportsRead.{either}
use Rattle.miette_tree.specs.rules.Diagnosis.{Section}
use Rattle.miette_tree.specs.rules.Tree.{cause_of, causes_of, trees}
use Rattle.miette_read.specs.laws.Shown.{IsRowIn, IsAnnotationShown, IsShownBy, IsShownIn}
use Rattle.miette_read.proofs.Holding.{Has, Is, all_each, has_after, has_any, has_by, has_it, has_map, has_more}
use Rattle.miette_read.proofs.Holding.{it_is_there}
use Rattle.miette_read.proofs.Made.{all_advice, all_fixes, listed, lists_made, sectioned}
use Rattle.miette_read.proofs.RowLists.{all_rows_there, row_stays, row_there, rows_stay}
use Rattle.miette_read.proofs.KeptRows.{row_joined}
use Rattle.miette_read.proofs.KeptSteps.{again, all_keep, place_is, retold}

-- ---- a mark that shows what is told

module _ (name : List ℕ) (s : ByteRange) (t : Annotation) where
  -- over just these bytes, or around them where nothing is said there
  abbrev IsMarkOf : FileLabel → Type 0
  IsMarkOf m =
      (m.stretch.start ≡ s.start) × (m.stretch.end ≡ s.end) × AllByRecursion (λ row. Has (Is row) m.rows) t.rows
      × (t.primary ≡ true → t.own ≡ true → m.primary ≡ true)

  abbrev IsMarkAround : FileLabel → Type 0
  IsMarkAround m = (t.rows ≡ []) × (m.stretch.start ≤ s.start) × (s.end ≤ m.stretch.end)

  abbrev Shows : FileLabel → Type 0
  Shows m = (m.name ≡ name) × (IsMarkOf m ⊎ IsMarkAround m)

  again_shows : (again_name : List ℕ) (again_s : ByteRange) (u : Annotation) (m : FileLabel) → Shows m
      → Shows (with_more_rows again_name again_s u m)
  again_shows again_name again_s u m h =
      either Shows (is_label_at again_name again_s m) (retold u m) m (
        h.0,
        elim h.1 [
          | inl of ↦
              inl (
                of.0,
                of.1,
                all_each (λ row. Has (Is row) m.rows) (λ row. Has (Is row) (with_rows m.rows u.rows))
                    (λ row there. rows_stay (Is row) m.rows u.rows there) t.rows of.2,
                (λ p o. or_left _ _ (of.3 p o)),
              )
          | inr around ↦ inr around
        ],
      ) h

  abbrev ShowsIn : LabelLists → Type 0
  ShowsIn done = Has Shows done.marks

  shows_stays : (files : List ℕ → Option Source) (ts : List Annotation) (done : LabelLists)
      → AllFit files done.files done.marks → ShowsIn done → ShowsIn (fold (with_annotation files) done ts)
  shows_stays files ts done is_in_scope h =
      all_keep files ShowsIn (λ done text h. h)
      (λ done again_name again_s u h.
      has_map Shows Shows (with_more_rows again_name again_s u) (again_shows again_name again_s u) done.marks h)
      (λ done new_name source new_s u is_in_scope is h. has_more Shows done.marks _ h) ts done is_in_scope h

  -- ---- where it is told

  again_by : (m : FileLabel) (b : Bool) → b ≡ true → is_label_at name s m ≡ true
      → Shows (if b then retold t m else m)
  again_by m false e at = cc
  again_by m true e at =
      let parts = and_parts _ _ at in
      let ends = and_parts _ _ parts.1 in (
        (bytes_eq-Decides m.name name).0 parts.0,
        inl (
          eqb-true m.stretch.start s.start ends.0,
          eqb-true m.stretch.end s.end ends.1,
          all_rows_there m.rows t.rows,
          (λ p o. or_right _ _ (and_from _ _ p o)),
        ),
      )

  all_again_show : (ms : List FileLabel) → list_any (is_label_at name s) ms ≡ true
      → Has Shows (map (with_more_rows name s t) ms)
  all_again_show ms e =
      has_map (λ (m : FileLabel). is_label_at name s m ≡ true) Shows (with_more_rows name s t)
      (λ m at. again_by m (is_label_at name s m) at at) ms (has_by (is_label_at name s) ms e)

  nothing_said : (rows : List (List ℕ)) → has_no_rows rows ≡ true → rows ≡ []
  nothing_said [] e = refl
  nothing_said (r ∷ rs) e = cc

  around_each : (ms : List FileLabel) → t.rows ≡ [] → Has (λ (m : FileLabel). is_label_around name s m ≡ true) ms
      → Has Shows ms
  around_each [] none h = absurd h
  around_each (m ∷ ms) none (inl at) =
      let parts = and_parts _ _ at in
      let ends = and_parts _ _ parts.1 in
      inl (
        (bytes_eq-Decides m.name name).0 parts.0,
        inr (none, leb-true m.stretch.start s.start ends.0, leb-true s.end m.stretch.end ends.1),
      )
  around_each (m ∷ ms) none (inr h) = inr (around_each ms none h)

  around_shows : (ms : List FileLabel) → (has_no_rows t.rows && list_any (is_label_around name s) ms) ≡ true
      → Has Shows ms
  around_shows ms e =
      let parts = and_parts _ _ e in
      around_each ms (nothing_said t.rows parts.0) (has_by (is_label_around name s) ms parts.1)

  newly_shows : (done : LabelLists) (source : Source) → Has Shows (with_new_label done name source s t).marks
  newly_shows done source =
      let n = first_accepting (accepts_label done.marks name source.bytes s t.own) 0 (length done.files) in
      has_after Shows done.marks (new_label (length done.files) name s t n ∷ [])
      (inl (refl, inl (refl, refl, all_rows_there [] t.rows, (λ p o. and_from _ _ p (or_left _ _ o)))))

  beside_by : (done : LabelLists) (source : Source) (b : Bool)
      → (has_no_rows t.rows && list_any (is_label_around name s) done.marks) ≡ b
      → ShowsIn (if b then done else with_new_label done name source s t)
  beside_by done source true e = around_shows done.marks e
  beside_by done source false e = newly_shows done source

  marked_by : (done : LabelLists) (source : Source) (b : Bool) → list_any (is_label_at name s) done.marks ≡ b
      → ShowsIn (if b then again done name s t
      else (if has_no_rows t.rows && list_any (is_label_around name s) done.marks then done
      else with_new_label done name source s t))
  marked_by done source true e = all_again_show done.marks e
  marked_by done source false e =
      beside_by done source (has_no_rows t.rows && list_any (is_label_around name s) done.marks) refl

  -- ---- its label

  shows_label : (m : FileLabel) → Shows m → IsShownBy s t (label_of m)
  shows_label m h =
      elim h.1 [
        | inl of ↦
            (let len : m.stretch.end - m.stretch.start ≡ s.end - s.start = omega (arith, of.0, of.1) in
            inl (
              of.0,
              len,
              all_each (λ row. Has (Is row) m.rows) (λ row. IsRowIn row (join_rows m.rows))
                  (λ row. row_joined row m.rows) t.rows of.2,
              of.3,
            ))
        | inr around ↦
            (let ends : s.end ≤ m.stretch.start + (m.stretch.end - m.stretch.start) = omega (arith, around.2) in
            inr (around.0, around.1, ends))
      ]

  placed : (files : List ℕ → Option Source) (source : Source) → files name ≡ Some source → (ss : List Source)
      (ms : List FileLabel) → AllFit files ss ms → Has Shows ms
      → (n : ℕ) × (nth ss n ≡ Some source) × Has (λ (m : FileLabel). Shows m × (m.list ≡ n)) ms
  placed files source is ss [] is_in_scope h = absurd h
  placed files source is ss (m ∷ ms) is_in_scope (inl here) =
      let f = is_in_scope.0 in
      let same : f.0 ≡ source =
      same_Some f.0 source (sym (subst (λ k. files k ≡ Some f.0) here.0 f.1) ∙ is) in
      (m.list, subst (λ (k : Source). nth ss m.list ≡ Some k) same f.2, inl (here, refl))
  placed files source is ss (m ∷ ms) is_in_scope (inr h) =
      let there = placed files source is ss ms is_in_scope.1 h in (there.0, there.1, inr there.2)

-- ---- one that is told at a place that is found

member_value : (files : List ℕ → Option Source) (done : LabelLists) (t : Annotation) (p : ToolLocation)
    (it : Source × ByteRange)
    → file_range files p ≡ Some it
    → Has (Shows p.name it.1 t) (with_located done t p (file_range files p)).marks
member_value files done t p it e =
    subst (λ (o : Option (Source × ByteRange)). Has (Shows p.name it.1 t) (with_located done t p o).marks) (sym e)
    (marked_by p.name it.1 t done it.0 (list_any (is_label_at p.name it.1) done.marks) refl)

found_with : (files : List ℕ → Option Source) (done : LabelLists) (t : Annotation) (p : ToolLocation)
    (it : Source × ByteRange)
    → t.place ≡ Some p → file_range files p ≡ Some it
    → Has (Shows p.name it.1 t) (with_annotation files done t).marks
found_with files done t p it place e =
    subst (λ (o : Option ToolLocation). Has (Shows p.name it.1 t) (with_annotation_at files done t o).marks) (sym place)
    (member_value files done t p it e)

-- each time that it is told
found_among : (files : List ℕ → Option Source) (t : Annotation) (p : ToolLocation) (it : Source × ByteRange)
    → t.place ≡ Some p → file_range files p ≡ Some it → (ts : List Annotation) (done : LabelLists)
    → AllFit files done.files done.marks → Has (Is t) ts
    → Has (Shows p.name it.1 t) (fold (with_annotation files) done ts).marks
found_among files t p it place e [] done is_in_scope h = absurd h
found_among files t p it place e (u ∷ us) done is_in_scope (inl is) =
    shows_stays p.name it.1 t files us (with_annotation files done u) (settled_fits files (u ∷ []) done is_in_scope)
    (subst (λ (k : Annotation). Has (Shows p.name it.1 t) (with_annotation files done k).marks) (sym is)
    (found_with files done t p it place e))
found_among files t p it place e (u ∷ us) done is_in_scope (inr h) =
    found_among files t p it place e us (with_annotation files done u) (settled_fits files (u ∷ []) done is_in_scope) h

pub place_shown : (files : List ℕ → Option Source) (said : MessageParts) (told : List Annotation)
    (offers : List Suggestion) (t : Annotation)
    (p : ToolLocation) (it : Source × ByteRange) → Contains told t → t.place ≡ Some p → file_range files p ≡ Some it
    → IsAnnotationShown it t (report_tree said (label_lists files told) offers)
place_shown files said told offers t p it there place e =
    let is : files p.name ≡ Some it.0 =
    subst (λ (o : Option (Source × ByteRange)). IfSome o (λ k. files p.name ≡ Some k.0)) e (place_is files p) in
    let done = label_lists files told in
    let is_in_scope = settled_fits files told no_label_lists tt in
    let shows = found_among files t p it place e told no_label_lists tt (has_it (Is t) told t there refl) in
    let at = placed p.name it.1 t files it.0 is done.files done.marks is_in_scope shows in
    let labels =
    listed (Shows p.name it.1 t) (IsShownBy it.1 t) (shows_label p.name it.1 t) at.0 done.marks at.2 in
    let same : at.0 ≡ 0 + at.0 = omega arith in
    subst (λ (lists : List Section). Any (IsShownIn it.0 it.1 t) lists)
    (sym (lists_made said done (all_fixes done offers) (trees (all_advice done offers)) done.files))
    (has_any (IsShownIn it.0 it.1 t) (sections_from done.marks 0 done.files)
    (sectioned (IsShownBy it.1 t) it.0 done.marks at.0 labels 0 done.files at.0 at.1 same))

-- ---- one that is told at no place, or at one that isn't found

text_stays : (text : List ℕ) (files : List ℕ → Option Source) (ts : List Annotation) (done : LabelLists)
    → AllFit files done.files done.marks → Has (Is text) done.texts
    → Has (Is text) (fold (with_annotation files) done ts).texts
text_stays text files ts done is_in_scope h =
    all_keep files (λ done. Has (Is text) done.texts) (λ done new h. row_stays (Is text) done.texts new h)
    (λ done name s t h. h) (λ done name source s t is_in_scope is h. h) ts done is_in_scope h

text_among : (text : List ℕ) (files : List ℕ → Option Source) (t : Annotation)
    → ((done : LabelLists) → Has (Is text) (with_annotation files done t).texts)
    → (ts : List Annotation) (done : LabelLists)
    → AllFit files done.files done.marks → Has (Is t) ts → Has (Is text) (fold (with_annotation files) done ts).texts
text_among text files t each [] done is_in_scope h = absurd h
text_among text files t each (u ∷ us) done is_in_scope (inl is) =
    text_stays text files us (with_annotation files done u) (settled_fits files (u ∷ []) done is_in_scope)
    (subst (λ (k : Annotation). Has (Is text) (with_annotation files done k).texts) (sym is) (each done))
text_among text files t each (u ∷ us) done is_in_scope (inr h) =
    text_among text files t each us (with_annotation files done u) (settled_fits files (u ∷ []) done is_in_scope) h

text_caused : (text : List ℕ) (files : List ℕ → Option Source) (said : MessageParts) (told : List Annotation)
    (offers : List Suggestion)
    (t : Annotation) → Contains told t → ((done : LabelLists) → Has (Is text) (with_annotation files done t).texts)
    → Contains (causes_of (cause_of (report_tree said (label_lists files told) offers))) text
text_caused text files said told offers t there each =
    it_is_there (label_lists files told).texts text
    (text_among text files t each told no_label_lists tt (has_it (Is t) told t there refl))

missed_with : (files : List ℕ → Option Source) (t : Annotation) (p : ToolLocation) → t.place ≡ Some p
    → file_range files p ≡ None
    → (done : LabelLists) → Has (Is (tool_location_text p t.rows)) (with_annotation files done t).texts
missed_with files t p place e done =
    subst (λ (o : Option ToolLocation). Has (Is (tool_location_text p t.rows))
    (with_annotation_at files done t o).texts) (sym place)
    (subst (λ (o : Option (Source × ByteRange)). Has (Is (tool_location_text p t.rows)) (with_located done t p o).texts)
    (sym e)
    (row_there done.texts (tool_location_text p t.rows)))

pub missed_caused : (files : List ℕ → Option Source) (said : MessageParts) (told : List Annotation)
    (offers : List Suggestion) (t : Annotation)
    (p : ToolLocation) → Contains told t → t.place ≡ Some p → file_range files p ≡ None
    → Contains (causes_of (cause_of (report_tree said (label_lists files told) offers))) (tool_location_text p t.rows)
missed_caused files said told offers t p there place e =
    text_caused (tool_location_text p t.rows) files said told offers t there (missed_with files t p place e)

alone_with : (files : List ℕ → Option Source) (t : Annotation) (text : List ℕ) → t.place ≡ None → join_rows t.rows
    ≡ Some text
    → (done : LabelLists) → Has (Is text) (with_annotation files done t).texts
alone_with files t text place e done =
    subst (λ (o : Option ToolLocation). Has (Is text) (with_annotation_at files done t o).texts) (sym place)
    (subst (λ (o : Option (List ℕ)). Has (Is text) (maybe_text done o).texts) (sym e) (row_there done.texts text))

pub placeless_caused : (files : List ℕ → Option Source) (said : MessageParts) (told : List Annotation)
    (offers : List Suggestion)
    (t : Annotation) (text : List ℕ) → Contains told t → t.place ≡ None → join_rows t.rows ≡ Some text
    → Contains (causes_of (cause_of (report_tree said (label_lists files told) offers))) text
placeless_caused files said told offers t text there place e =
    text_caused text files said told offers t there (alone_with files t text place e)
