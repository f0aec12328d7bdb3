-- The reports of a log always read, over files that do, their labels are accepted, and what is told is kept.
use Rattle.std.proofs.Common.{◌≡◌, ℕ, List, [], ◌∷◌, ◌++◌, Option, Some, None, All, IfSome, Bool, true, false, codes}
use Rattle.std.proofs.Common.{ap, find, map, option_map, refl, subst, sym}
use Rattle.std.specs.Prelude.{if◌then◌else◌, is_some, option_and_then}
use Rattle.std.specs.List.{AllByRecursion, Contains, filter_map, flat_map, fold, list_all}
use Rattle.std.proofs.lemmas.Bool.{and_from}
use Rattle.std.proofs.lemmas.List.Elements.{All-nil, All-append}
use Rattle.serde_json.specs.Data.{Data}
use Rattle.miette_fixes.specs.rules.Edits.{FixModel}
use Rattle.miette_protocol.specs.rules.Reading.{Source}
use Rattle.miette_tree.specs.rules.Reads.{AlwaysReads, accepts, reports_pass, report_in_bounds}
use Rattle.miette_tree.specs.rules.Tree.{Tree, tree, trees, with_fixes, with_source}
use Rattle.miette_read.specs.rules.Kept.{IsKept}
use Rattle.miette_read.specs.rules.Members.{member_objects}
use Rattle.miette_read.specs.rules.Places.{ToolLocation, ByteRange, Annotation, join_rows, tool_location_text}
use Rattle.miette_read.specs.rules.SuggestedFixes.{FileEdit, Suggestion}
use Rattle.miette_read.specs.rules.Reports.{MessageParts, advice, advice_of, first_edits_of_others, report_tree}
use Rattle.miette_read.specs.rules.AnnotationLabels.{LabelLists, file_range, maybe_text, no_label_lists, label_lists}
use Rattle.miette_read.specs.rules.AnnotationLabels.{with_located}
use Rattle.miette_read.specs.rules.AnnotationLabels.{with_annotation, with_annotation_at, with_row, with_text}
use Rattle.miette_read.proofs.Accepted.{report_accepts}
use Rattle.miette_read.proofs.Holding.{all_made, all_more}
use Rattle.miette_read.proofs.Kept.{report_keeps}
use Rattle.miette_read.proofs.ReportsRead.{EditReads, EditsRead, FilesRead, OfferReads, OffersRead, Reads}
use Rattle.miette_read.proofs.ReportsRead.{each_holds, either, found_reads, place_reads, report_reads}
use Rattle.miette_read_sarif.specs.rules.Counting.{results_of}
use Rattle.miette_read_sarif.specs.rules.Logs.{run_context_of, has_sarif_runs, notification_tree, result_tree}
use Rattle.miette_read_sarif.specs.rules.Logs.{run_trees, sarif_trees}
use Rattle.miette_read_sarif.specs.rules.Notices.{notification_parts, tool_notifications}
use Rattle.miette_read_sarif.specs.rules.Proposals.{SuggestionDraft, all_drafted_edits, suggestion_drafts, drafted_edit}
use Rattle.miette_read_sarif.specs.rules.Proposals.{drafts_help}
use Rattle.miette_read_sarif.specs.rules.Proposals.{is_found as is_here}
use Rattle.miette_read_sarif.specs.rules.Proposals.{suggestion_of_found, found_suggestion, suggestion_with_message}
use Rattle.miette_read_sarif.specs.rules.Proposals.{found_suggestions}
use Rattle.miette_read_sarif.specs.rules.Results.{RunContext, result_context, unlocated_text, result_parts}
use Rattle.miette_read_sarif.specs.rules.Wholes.{FileAnnotations, all_annotations, file_named, fixes_over, found_file}
use Rattle.miette_read_sarif.specs.rules.Wholes.{is_found}
use Rattle.miette_read_sarif.specs.rules.Wholes.{is_of, is_other, is_there, file_name_annotation}
use Rattle.miette_read_sarif.specs.rules.Wholes.{notification_file_annotations, other_suggestion}
use Rattle.miette_read_sarif.specs.rules.Wholes.{own_suggestion, annotated_file, result_file_annotations}
use Rattle.miette_read_sarif.specs.rules.Wholes.{file_annotations_tree, tree_over}
use Rattle.miette_read_sarif.specs.rules.Wholes.{own_whole_file}

-- ---- proposals

edit_reads : (files : List ℕ → Option Source) → FilesRead files → (e : ToolLocation × List ℕ)
    → IfSome (drafted_edit files e) EditReads
edit_reads files h e = found_reads e.0.name e.1 (file_range files e.0) (place_reads files h e.0)

offer_from : (words : List ℕ) (o : Option (List FileEdit)) → IfSome o EditsRead
    → IfSome (option_map (suggestion_of_found words) o) OfferReads
offer_from words None h = tt
offer_from words (Some es) h = h

offer_reads : (files : List ℕ → Option Source) → FilesRead files → (words : List ℕ) (es : List (ToolLocation × List ℕ))
    → IfSome (suggestion_with_message files words es) OfferReads
offer_reads files h words [] = tt
offer_reads files h words (e ∷ es) =
    offer_from words (all_drafted_edits files (e ∷ es)) (either (λ o. IfSome o EditsRead)
    (list_all (is_here files) (e ∷ es))
    (Some (filter_map (drafted_edit files) (e ∷ es))) None
    (all_made EditReads (drafted_edit files) (edit_reads files h) (e ∷ es)) tt)

offers_read : (files : List ℕ → Option Source) → FilesRead files → (ds : List SuggestionDraft)
    → OffersRead (found_suggestions files ds)
offers_read files h ds = all_made OfferReads (found_suggestion files) (λ d. offer_reads files h d.words d.edits) ds

-- ---- a file as a whole

with_file : (name : List ℕ) (o : Option Source) → IfSome o Reads
    → IfSome {T = List ℕ × Source} (option_map (λ (source : Source). (name, source)) o) (λ file. Reads file.1)
with_file name None h = tt
with_file name (Some source) h = h

named_reads : (files : List ℕ → Option Source) → FilesRead files → (o : Option (List ℕ))
    → IfSome (option_and_then (file_named files) o) (λ file. Reads file.1)
named_reads files h None = tt
named_reads files h (Some name) = with_file name (files name) (h name)

over_reads : (fixes : List FixModel) (source : Source) (t : Tree) → AlwaysReads t → Reads source
    → AlwaysReads (with_fixes fixes (with_source source t))
over_reads fixes source (tree m None c r) h own = (own, h.1, h.2, h.3)
over_reads fixes source (tree m (Some before) c r) h own = (h.0, h.1, h.2, h.3)

others_read : (files : List ℕ → Option Source) → FilesRead files → (name : List ℕ) (ds : List SuggestionDraft)
    → OffersRead (filter_map (other_suggestion files name) ds)
others_read files h name ds =
    all_made OfferReads (other_suggestion files name)
    (λ d. either (λ o. IfSome o OfferReads) (is_of name d) None (found_suggestion files d) tt
    (offer_reads files h d.words d.edits)) ds

tree_reads : (files : List ℕ → Option Source) → FilesRead files → (says : MessageParts) (told : List Annotation)
    (ds : List SuggestionDraft)
    (o : Option (List ℕ × Source)) → IfSome o (λ file. Reads file.1) → AlwaysReads (tree_over files says told ds o)
tree_reads files h says told ds None own =
    report_reads files h says told (found_suggestions files ds) (offers_read files h ds)
tree_reads files h says told ds (Some file) own =
    let first_edits_of_others = filter_map (other_suggestion files file.0) ds in
    over_reads (fixes_over file.0 (filter_map (own_suggestion files file.0) ds)) file.1
    (report_tree says (label_lists files told) first_edits_of_others)
    (report_reads files h says told first_edits_of_others (others_read files h file.0 ds)) own

telling_reads : (files : List ℕ → Option Source) → FilesRead files → (says : MessageParts) (k : FileAnnotations)
    (ds : List SuggestionDraft)
    → AlwaysReads (file_annotations_tree files says k ds)
telling_reads files h says k ds =
    tree_reads files h says (all_annotations files k) ds (option_and_then (file_named files) (own_whole_file files k))
    (named_reads files h (own_whole_file files k))

-- ---- where no place is found there is no label

abbrev pub IsUnmarked : LabelLists → Type 0
IsUnmarked done = (ts : List (List ℕ)) × (done ≡ record { marks = []; files = []; texts = ts })

text_unmarked : (done : LabelLists) (text : List ℕ) → IsUnmarked done → IsUnmarked (with_text done text)
text_unmarked done text h = (with_row h.0 text, ap (λ (it : LabelLists). with_text it text) h.1)

maybe_unmarked : (done : LabelLists) (o : Option (List ℕ)) → IsUnmarked done → IsUnmarked (maybe_text done o)
maybe_unmarked done None h = h
maybe_unmarked done (Some text) h = text_unmarked done text h

at_unmarked : (done : LabelLists) (t : Annotation) (p : ToolLocation) (o : Option (Source × ByteRange)) → is_some o
    ≡ false
    → IsUnmarked done → IsUnmarked (with_located done t p o)
at_unmarked done t p None e h = text_unmarked done (tool_location_text p t.rows) h
at_unmarked done t p (Some found) e h = cc

with_unmarked : (files : List ℕ → Option Source) (done : LabelLists) (t : Annotation) (p : Option ToolLocation)
    → is_some (option_and_then (file_range files) p) ≡ false → IsUnmarked done
    → IsUnmarked (with_annotation_at files done t p)
with_unmarked files done t None e h = maybe_unmarked done (join_rows t.rows) h
with_unmarked files done t (Some p) e h = at_unmarked done t p (file_range files p) e h

abbrev AreLost : (List ℕ → Option Source) → List Annotation → Type 0
AreLost files ts = AllByRecursion (λ t. is_found files t ≡ false) ts

all_unmarked : (files : List ℕ → Option Source) (ts : List Annotation) (done : LabelLists) → AreLost files ts
    → IsUnmarked done
    → IsUnmarked (fold (with_annotation files) done ts)
all_unmarked files [] done lost h = h
all_unmarked files (t ∷ ts) done lost h =
    all_unmarked files ts (with_annotation files done t) lost.1 (with_unmarked files done t t.place lost.0 h)

placed_by : (files : List ℕ → Option Source) (p : Option ToolLocation)
    → is_some (option_and_then (file_range files) p) ≡ true
    → is_some (option_map (λ (it : ToolLocation). it.name) p) ≡ false → ⊥
placed_by files None e f = cc
placed_by files (Some p) e f = cc

lost_by : (files : List ℕ → Option Source) (t : Annotation) (ts : List Annotation) (b : Bool) → is_found files t ≡ b
    → is_some (option_and_then annotated_file (if b then Some t else find (is_found files) ts)) ≡ false
    → (is_found files t ≡ false) × (is_some (option_and_then annotated_file (find (is_found files) ts)) ≡ false)
lost_by files t ts true e h = absurd (placed_by files t.place e h)
lost_by files t ts false e h = (e, h)

all_lost : (files : List ℕ → Option Source) (ts : List Annotation)
    → is_some (option_and_then annotated_file (find (is_found files) ts)) ≡ false → AreLost files ts
all_lost files [] h = tt
all_lost files (t ∷ ts) h =
    let parts = lost_by files t ts (is_found files t) refl h in (parts.0, all_lost files ts parts.1)

others_lost : (files : List ℕ → Option Source) (main : Option (List ℕ)) (names : List (List ℕ))
    → AreLost files (flat_map (file_name_annotation main) names)
others_lost files main [] = tt
others_lost files main (name ∷ names) =
    all_more (λ (t : Annotation). is_found files t ≡ false) (file_name_annotation main name)
    (flat_map (file_name_annotation main) names)
    (either (AreLost files) (is_other main name) (unlocated_text (Some name) true ∷ []) [] (refl, tt) tt)
    (others_lost files main names)

pub none_marked : (files : List ℕ → Option Source) (k : FileAnnotations) → is_some (found_file files k) ≡ false
    → IsUnmarked (label_lists files (all_annotations files k))
none_marked files k none =
    let main = found_file files k in
    all_unmarked files (all_annotations files k) no_label_lists
    (all_more (λ (t : Annotation). is_found files t ≡ false) k.told (flat_map (file_name_annotation main) k.bares)
    (all_lost files k.told none) (others_lost files main k.bares)) ([], refl)

-- ---- labels are accepted

advice_accepts : (inherited : Option Source) (offer : Suggestion) (es : List FileEdit) (more : List Tree)
    → reports_pass accepts inherited (trees more) ≡ true
    → reports_pass accepts inherited (trees (map (advice offer) es ++ more)) ≡ true
advice_accepts inherited offer [] more h = h
advice_accepts inherited offer (e ∷ es) more h = advice_accepts inherited offer es more h

advices_accept : (inherited : Option Source) (main : Option (List ℕ)) (os : List Suggestion)
    → reports_pass accepts inherited (trees (flat_map (advice_of main) os)) ≡ true
advices_accept inherited main [] = refl
advices_accept inherited main (o ∷ os) =
    advice_accepts inherited o (first_edits_of_others main o.edits) (flat_map (advice_of main) os)
    (advices_accept inherited main os)

over_accepts : (fixes : List FixModel) (source : Source) (says : MessageParts) (done : LabelLists)
    (offers : List Suggestion)
    → IsUnmarked done
    → report_in_bounds (with_fixes fixes (with_source source (report_tree says done offers))) ≡ true
over_accepts fixes source says done offers h =
    subst (λ (it : LabelLists).
    report_in_bounds (with_fixes fixes (with_source source (report_tree says it offers))) ≡ true) (sym h.1)
    (and_from _ _ (and_from true _ refl (advices_accept (Some source) None offers)) refl)

tree_accepts : (files : List ℕ → Option Source) → FilesRead files → (says : MessageParts) (told : List Annotation)
    (ds : List SuggestionDraft)
    (o : Option (List ℕ × Source)) → IsUnmarked (label_lists files told)
    → report_in_bounds (tree_over files says told ds o) ≡ true
tree_accepts files h says told ds None none = report_accepts files h says told (found_suggestions files ds)
tree_accepts files h says told ds (Some file) none =
    over_accepts (fixes_over file.0 (filter_map (own_suggestion files file.0) ds)) file.1 says (label_lists files told)
    (filter_map (other_suggestion files file.0) ds) none

accepts_by : (files : List ℕ → Option Source) → FilesRead files → (says : MessageParts) (k : FileAnnotations)
    (ds : List SuggestionDraft)
    (b : Bool) → is_some (found_file files k) ≡ b
    → report_in_bounds (tree_over files says (all_annotations files k) ds (option_and_then (file_named files)
    (if b then None else find (is_there files) k.wholes))) ≡ true
accepts_by files h says k ds true e =
    report_accepts files h says (all_annotations files k) (found_suggestions files ds)
accepts_by files h says k ds false e =
    tree_accepts files h says (all_annotations files k) ds
    (option_and_then (file_named files) (find (is_there files) k.wholes)) (none_marked files k e)

telling_accepts : (files : List ℕ → Option Source) → FilesRead files → (says : MessageParts) (k : FileAnnotations)
    (ds : List SuggestionDraft)
    → report_in_bounds (file_annotations_tree files says k ds) ≡ true
telling_accepts files h says k ds = accepts_by files h says k ds (is_some (found_file files k)) refl

-- ---- what is told is kept

tree_keeps : (files : List ℕ → Option Source) (says : MessageParts) (told : List Annotation) (ds : List SuggestionDraft)
    (o : Option (List ℕ × Source)) (t : Annotation) (row : List ℕ) → Contains told t → Contains t.rows row
    → IsKept (tree_over files says told ds o) row
tree_keeps files says told ds None t row = report_keeps files says told (found_suggestions files ds) t row
tree_keeps files says told ds (Some file) t row =
    report_keeps files says told (filter_map (other_suggestion files file.0) ds) t row

telling_keeps : (files : List ℕ → Option Source) (says : MessageParts) (k : FileAnnotations) (ds : List SuggestionDraft)
    (t : Annotation)
    (row : List ℕ) → Contains (all_annotations files k) t → Contains t.rows row
    → IsKept (file_annotations_tree files says k ds) row
telling_keeps files says k ds =
    tree_keeps files says (all_annotations files k) ds (option_and_then (file_named files) (own_whole_file files k))

-- ---- the reports

module _ (holds : Tree → Type 0) (files : List ℕ → Option Source)
    (notices : (run n : Data) → holds (notification_tree (run_context_of files run) n))
    (each : (run r : Data) → holds (result_tree (run_context_of files run) r)) where
  run_holds : (run : Data) → All holds (run_trees files run)
  run_holds run =
      All-append holds (map (notification_tree (run_context_of files run)) (tool_notifications run))
      (map (result_tree (run_context_of files run)) (results_of run))
      (each_holds holds (notification_tree (run_context_of files run)) (notices run) (tool_notifications run))
      (each_holds holds (result_tree (run_context_of files run)) (each run) (results_of run))

  runs_hold : (runs : List Data) → All holds (flat_map (run_trees files) runs)
  runs_hold [] = All-nil holds
  runs_hold (run ∷ runs) =
      All-append holds (run_trees files run) (flat_map (run_trees files) runs) (run_holds run) (runs_hold runs)

  log_holds : (d : Data) → IfSome (sarif_trees files d) (All holds)
  log_holds d =
      either (λ o. IfSome o (All holds)) (has_sarif_runs d)
      (Some (flat_map (run_trees files) (member_objects (codes "runs") d))) None
      (runs_hold (member_objects (codes "runs") d)) tt

pub sarif_reads : (files : List ℕ → Option Source) → FilesRead files → (d : Data)
    → IfSome (sarif_trees files d) (All AlwaysReads)
sarif_reads files h =
    log_holds AlwaysReads files
    (λ run n. telling_reads files h (notification_parts n) (notification_file_annotations (run_context_of files run) n)
    [])
    (λ run r. (let g = result_context (run_context_of files run) r in
    let drafts = suggestion_drafts g r in
    telling_reads files h (result_parts g (drafts_help files drafts) r) (result_file_annotations g r) drafts))

pub sarif_accepts : (files : List ℕ → Option Source) → FilesRead files → (d : Data)
    → IfSome (sarif_trees files d) (All (λ tree. report_in_bounds tree ≡ true))
sarif_accepts files h =
    log_holds (λ tree. report_in_bounds tree ≡ true) files
    (λ run n. telling_accepts files h (notification_parts n) (notification_file_annotations (run_context_of files run)
    n) [])
    (λ run r. (let g = result_context (run_context_of files run) r in
    let drafts = suggestion_drafts g r in
    telling_accepts files h (result_parts g (drafts_help files drafts) r) (result_file_annotations g r) drafts))

pub sarif_keeps : (context : RunContext) (r : Data) (t : Annotation) (row : List ℕ) → let g
    = result_context context r in
    Contains (all_annotations g.files (result_file_annotations g r)) t → Contains t.rows row
    → IsKept (result_tree context r) row
sarif_keeps context r =
    let g = result_context context r in
    telling_keeps g.files (result_parts g (drafts_help g.files (suggestion_drafts g r)) r) (result_file_annotations g r)
    (suggestion_drafts g r)

pub notices_keep : (g : RunContext) (n : Data) (t : Annotation) (row : List ℕ)
    → Contains (all_annotations g.files (notification_file_annotations g n)) t → Contains t.rows row
    → IsKept (notification_tree g n) row
notices_keep g n = telling_keeps g.files (notification_parts n) (notification_file_annotations g n) []
