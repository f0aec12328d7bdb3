-- Reports of what is told always read, over files that do.
use Rattle.std.proofs.Common.{◌≡◌, ℕ, ◌+◌, List, [], ◌∷◌, ◌++◌, Option, Some, None, Bool, true, false, All, IfSome, map}
use Rattle.std.proofs.Common.{option_map}
use Rattle.std.specs.Prelude.{⊤, ◌&&◌, ◌||◌, if◌then◌else◌, option_and_then}
use Rattle.std.specs.List.{AllByRecursion, flat_map, fold, list_any}
use Rattle.std.proofs.lemmas.List.Elements.{All-nil, All-cons}
use Rattle.miette_fixes.specs.rules.Edits.{FixModel}
use Rattle.miette_protocol.specs.rules.Reading.{Source}
use Rattle.miette_tree.specs.rules.Diagnosis.{Diagnosis, Section}
use Rattle.miette_tree.specs.rules.Reads.{AllAlwaysRead, AlwaysReads}
use Rattle.miette_tree.specs.rules.Tree.{Tree, tree, Trees, single_report, texts, trees, with_all_snippets}
use Rattle.miette_tree.specs.rules.Tree.{with_cause, with_fixes, with_related}
use Rattle.miette_read.specs.rules.Places.{ToolLocation, ByteRange, Annotation, is_within, join_rows}
use Rattle.miette_read.specs.rules.SuggestedFixes.{FileEdit, Suggestion, edit_found, is_in}
use Rattle.miette_read.specs.rules.Reports.{MessageParts, advice, advice_of, further_files, is_main, main_fixes}
use Rattle.miette_read.specs.rules.Reports.{maybe_source}
use Rattle.miette_read.specs.rules.Reports.{first_edits_of_others, report_tree, sections_from, annotated_tree}
use Rattle.miette_read.specs.rules.Reports.{with_other}
use Rattle.miette_read.specs.rules.AnnotationLabels.{FileLabel, LabelLists, file_range, has_no_rows, is_label_around}
use Rattle.miette_read.specs.rules.AnnotationLabels.{is_label_at, main_file_name}
use Rattle.miette_read.specs.rules.AnnotationLabels.{with_labeled, maybe_text, with_new_label, no_label_lists}
use Rattle.miette_read.specs.rules.AnnotationLabels.{label_lists, with_located}
use Rattle.miette_read.specs.rules.AnnotationLabels.{with_annotation, with_annotation_at, range_within}

abbrev pub Reads : Source → Type 0
Reads s = s.always_reads ≡ true

-- each file that is found always reads
abbrev pub FilesRead : (List ℕ → Option Source) → Type 0
FilesRead files = (name : List ℕ) → IfSome (files name) Reads

pub either : {A : Type 0} (P : A → Type 0) (b : Bool) (x y : A) → P x → P y → P (if b then x else y)
either P true x y p q = p
either P false x y p q = q

-- what holds of each tree that is made holds of all
pub each_holds : {A : Type 0} (holds : Tree → Type 0) (made : A → Tree) → ((x : A) → holds (made x)) → (xs : List A)
    → All holds (map made xs)
each_holds holds made each [] = All-nil holds
each_holds holds made each (x ∷ xs) =
    All-cons holds (made x) (map made xs) (each x) (each_holds holds made each xs)

-- ---- places

within_reads : (o : Option Source) (s : Option ByteRange) → IfSome o Reads
    → IfSome (option_and_then (λ source. range_within source s) o) (λ f. Reads f.0)
within_reads None s h = tt
within_reads (Some x) None h = tt
within_reads (Some x) (Some s) h =
    either (λ o. IfSome o (λ f. Reads f.0)) (is_within x.bytes s) (Some (x, s)) None h tt

pub place_reads : (files : List ℕ → Option Source) → FilesRead files → (p : ToolLocation)
    → IfSome (file_range files p) (λ f. Reads f.0)
place_reads files h p = within_reads (files p.name) p.stretch (h p.name)

-- ---- the files of lists

abbrev pub EachReads : List Source → Type 0
EachReads [] = ⊤
EachReads (s ∷ ss) = Reads s × EachReads ss

each_more : (ss : List Source) (s : Source) → EachReads ss → Reads s → EachReads (ss ++ s ∷ [])
each_more [] s h r = (r, tt)
each_more (x ∷ xs) s h r = (h.0, each_more xs s h.1 r)

abbrev pub SettledReads : LabelLists → Type 0
SettledReads done = EachReads done.files

newly_reads : (done : LabelLists) (name : List ℕ) (source : Source) (s : ByteRange) (t : Annotation) → SettledReads done
    → Reads source → SettledReads (with_new_label done name source s t)
newly_reads done name source s t h r = either EachReads _ _ _ (each_more done.files source h r) h

marked_reads : (done : LabelLists) (name : List ℕ) (source : Source) (s : ByteRange) (t : Annotation)
    → SettledReads done
    → Reads source → SettledReads (with_labeled done name source s t)
marked_reads done name source s t h r =
    either SettledReads (list_any (is_label_at name s) done.marks) _ _ h
    (either SettledReads (has_no_rows t.rows && list_any (is_label_around name s) done.marks) done
    (with_new_label done name source s t) h (newly_reads done name source s t h r))

text_reads : (done : LabelLists) (o : Option (List ℕ)) → SettledReads done → SettledReads (maybe_text done o)
text_reads done None h = h
text_reads done (Some text) h = h

at_reads : (done : LabelLists) (t : Annotation) (p : ToolLocation) (f : Option (Source × ByteRange)) → SettledReads done
    → IfSome f (λ f. Reads f.0) → SettledReads (with_located done t p f)
at_reads done t p None h r = h
at_reads done t p (Some f) h r = marked_reads done p.name f.0 f.1 t h r

with_reads : (files : List ℕ → Option Source) → FilesRead files → (done : LabelLists) (t : Annotation)
    (p : Option ToolLocation)
    → SettledReads done → SettledReads (with_annotation_at files done t p)
with_reads files h done t None d = text_reads done (join_rows t.rows) d
with_reads files h done t (Some p) d = at_reads done t p (file_range files p) d (place_reads files h p)

pub settled_reads : (files : List ℕ → Option Source) → FilesRead files → (ts : List Annotation) (done : LabelLists)
    → SettledReads done → SettledReads (fold (with_annotation files) done ts)
settled_reads files h [] done d = d
settled_reads files h (t ∷ ts) done d =
    settled_reads files h ts (with_annotation files done t) (with_reads files h done t t.place d)

-- ---- the report without what it proposes

sections_read : (marks : List FileLabel) (n : ℕ) (ss : List Source) → EachReads ss
    → All (λ section. section.source.always_reads ≡ true) (sections_from marks n ss)
sections_read marks n [] h = All-nil (λ (section : Section). section.source.always_reads ≡ true)
sections_read marks n (s ∷ ss) h =
    All-cons (λ (section : Section). section.source.always_reads ≡ true) _ (sections_from marks (n + 1) ss) h.0
    (sections_read marks (n + 1) ss h.1)

over_reads : (marks : List FileLabel) (ss : List Source) (ts : List (List ℕ)) (m : Diagnosis) → EachReads ss
    → AlwaysReads (with_all_snippets (sections_from marks 1 (further_files ss))
    (with_cause (texts ts) (maybe_source ss (single_report m))))
over_reads marks [] ts m h = (tt, tt, tt, sections_read marks 1 [] tt)
over_reads marks (s ∷ ss) ts m h = (h.0, tt, tt, sections_read marks 1 ss h.1)

told_reads : (said : MessageParts) (done : LabelLists) → SettledReads done → AlwaysReads (annotated_tree said done)
told_reads said done h = over_reads done.marks done.files done.texts _ h

-- ---- proposals

abbrev pub EditReads : FileEdit → Type 0
EditReads e = Reads e.source

abbrev pub EditsRead : List FileEdit → Type 0
EditsRead es = AllByRecursion EditReads es

abbrev pub OfferReads : Suggestion → Type 0
OfferReads offer = EditsRead offer.edits

abbrev pub OffersRead : List Suggestion → Type 0
OffersRead os = AllByRecursion OfferReads os

pub found_reads : (name text : List ℕ) (f : Option (Source × ByteRange)) → IfSome f (λ f. Reads f.0)
    → IfSome (option_map (edit_found name text) f) EditReads
found_reads name text None r = tt
found_reads name text (Some f) r = r

edits_with : (es : List FileEdit) (e : FileEdit) → EditsRead es → Reads e.source → EditsRead (es ++ e ∷ [])
edits_with [] e h r = (r, tt)
edits_with (x ∷ xs) e h r = (h.0, edits_with xs e h.1 r)

others_read : (main : Option (List ℕ)) (es found : List FileEdit) → EditsRead found → EditsRead es
    → EditsRead (fold (with_other main) found es)
others_read main [] found h k = h
others_read main (e ∷ es) found h k =
    others_read main es (with_other main found e)
    (either EditsRead (is_main main e || list_any (is_in e.name) found) found (found ++ e ∷ []) h
    (edits_with found e h k.0)) k.1

-- ---- what is related

advice_reads : (offer : Suggestion) (es : List FileEdit) → EditsRead es → AllAlwaysRead (trees (map (advice offer) es))
advice_reads offer [] h = tt
advice_reads offer (e ∷ es) h =
    ((h.0, tt, tt, All-nil (λ (section : Section). section.source.always_reads ≡ true)), advice_reads offer es h.1)

all_with : (a b : List Tree) → AllAlwaysRead (trees a) → AllAlwaysRead (trees b) → AllAlwaysRead (trees (a ++ b))
all_with [] b p q = q
all_with (t ∷ ts) b p q = (p.0, all_with ts b p.1 q)

advices_read : (main : Option (List ℕ)) (os : List Suggestion) → OffersRead os
    → AllAlwaysRead (trees (flat_map (advice_of main) os))
advices_read main [] h = tt
advices_read main (o ∷ os) h =
    all_with (advice_of main o) (flat_map (advice_of main) os)
    (advice_reads o (first_edits_of_others main o.edits) (others_read main o.edits [] tt h.0))
    (advices_read main os h.1)

offered_reads : (more : Trees) (fixes : List FixModel) (t : Tree) → AlwaysReads t → AllAlwaysRead more
    → AlwaysReads (with_related more (with_fixes fixes t))
offered_reads more fixes (tree m s c r) p q = (p.0, p.1, q, p.3)

-- ---- the whole

pub report_reads : (files : List ℕ → Option Source) → FilesRead files → (said : MessageParts) (ts : List Annotation)
    (offers : List Suggestion) → OffersRead offers → AlwaysReads (report_tree said (label_lists files ts) offers)
report_reads files h said ts offers read =
    let done = label_lists files ts in
    offered_reads (trees (flat_map (advice_of (main_file_name done.marks)) offers))
    (flat_map (main_fixes (main_file_name done.marks)) offers) (annotated_tree said done)
    (told_reads said done (settled_reads files h ts no_label_lists tt))
    (advices_read (main_file_name done.marks) offers read)
