-- The labels of a message's report are accepted, over files that always read.
use Rattle.std.proofs.Common.{◌≡◌, ◌⊎◌, ℕ, zero, suc, ◌+◌, ◌-◌, ◌≤◌, List, [], ◌∷◌, ◌++◌, Option, Some, None}
use Rattle.std.proofs.Common.{Bool, true, false, IfSome, arith, length, map, filter, refl, sym, ap}
use Rattle.std.proofs.Common.{subst, ◌∙◌, inl, inr}
use Rattle.std.specs.Prelude.{⊤, ◌==◌, ◌&&◌, if◌then◌else◌, option_and_then}
use Rattle.std.specs.List.{flat_map, fold, list_all, list_any}
use Rattle.std.proofs.lemmas.Bool.{and_from, and_parts, eq-eqb, eqb-true, leb-true, le-leb, or_cases, or_right}
use Rattle.std.proofs.lemmas.Slice.Eq.{bytes_eq-Decides}
use Rattle.serde_json.specs.Data.{Data}
use Rattle.miette_fixes.specs.rules.Edits.{FixModel}
use Rattle.miette_protocol.specs.rules.Reading.{Source, is_in_bounds}
use Rattle.miette_protocol.specs.views.Meaning.{Label}
use Rattle.miette_tree.specs.rules.Diagnosis.{plain_diagnosis}
use Rattle.miette_tree.specs.rules.DiagnosticParts.{given_labels}
use Rattle.miette_tree.specs.rules.Reads.{accepts, further_pass, reports_pass, report_in_bounds}
use Rattle.miette_tree.specs.rules.Tree.{Tree, Trees, single_report, texts, trees, with_all_snippets, with_cause}
use Rattle.miette_tree.specs.rules.Tree.{with_fixes}
use Rattle.miette_tree.specs.rules.Tree.{with_related}
use Rattle.miette_read.specs.rules.Places.{ToolLocation, ByteRange, Annotation, is_within, join_rows}
use Rattle.miette_read.specs.rules.SuggestedFixes.{FileEdit, Suggestion}
use Rattle.miette_read.specs.rules.Rustc.{message_annotations}
use Rattle.miette_read.specs.rules.Reports.{MessageParts, advice, advice_of, further_files, is_listed, label_of}
use Rattle.miette_read.specs.rules.Reports.{labels_in}
use Rattle.miette_read.specs.rules.Reports.{main_fixes, maybe_source, meaning_with, first_edits_of_others, report_tree}
use Rattle.miette_read.specs.rules.Reports.{sections_from, some_labels}
use Rattle.miette_read.specs.rules.RustcReport.{message_tree, message_suggestions}
use Rattle.miette_read.specs.rules.RustcReport.{rustc_tree, message_parts}
use Rattle.miette_read.specs.rules.AnnotationLabels.{FileLabel, LabelLists, first_accepting, file_range, has_no_rows}
use Rattle.miette_read.specs.rules.AnnotationLabels.{is_label_around, is_label_at}
use Rattle.miette_read.specs.rules.AnnotationLabels.{accepts_label, main_file_name, with_labeled, maybe_text, meets}
use Rattle.miette_read.specs.rules.AnnotationLabels.{new_label, with_new_label}
use Rattle.miette_read.specs.rules.AnnotationLabels.{no_label_lists, label_lists, with_located, with_annotation}
use Rattle.miette_read.specs.rules.AnnotationLabels.{with_annotation_at}
use Rattle.miette_read.specs.rules.AnnotationLabels.{with_more_rows, range_within}
use Rattle.miette_read.proofs.MessageRows.{row_holds}
use Rattle.miette_read.proofs.ReportsRead.{EachReads, FilesRead, either, settled_reads}

-- ---- the files of lists by their numbers

abbrev pub nth : List Source → ℕ → Option Source
nth [] n = None
nth (s ∷ ss) zero = Some s
nth (s ∷ ss) (suc n) = nth ss n

nth_last : (ss : List Source) (s : Source) → nth (ss ++ s ∷ []) (length ss) ≡ Some s
nth_last [] s = refl
nth_last (x ∷ xs) s = nth_last xs s

nth_before : (ss : List Source) (s new : Source) (n : ℕ) → nth ss n ≡ Some s → nth (ss ++ new ∷ []) n ≡ Some s
nth_before [] s new n is = cc
nth_before (x ∷ xs) s new zero is = is
nth_before (x ∷ xs) s new (suc n) is = nth_before xs s new n is

-- ---- a label is within the file of its list

abbrev pub Fits : (List ℕ → Option Source) → List Source → FileLabel → Type 0
Fits files ss m = (s : Source) × (files m.name ≡ Some s) × (nth ss m.list ≡ Some s)
    × (is_within s.bytes m.stretch ≡ true)

abbrev pub AllFit : (List ℕ → Option Source) → List Source → List FileLabel → Type 0
AllFit files ss [] = ⊤
AllFit files ss (m ∷ ms) = Fits files ss m × AllFit files ss ms

abbrev SettledFits : (List ℕ → Option Source) → LabelLists → Type 0
SettledFits files done = AllFit files done.files done.marks

fit_more : (files : List ℕ → Option Source) (ss : List Source) (ms : List FileLabel) (m : FileLabel)
    → AllFit files ss ms
    → Fits files ss m → AllFit files ss (ms ++ m ∷ [])
fit_more files ss [] m h f = (f, tt)
fit_more files ss (x ∷ xs) m h f = (h.0, fit_more files ss xs m h.1 f)

fit_longer : (files : List ℕ → Option Source) (ss : List Source) (new : Source) (ms : List FileLabel)
    → AllFit files ss ms
    → AllFit files (ss ++ new ∷ []) ms
fit_longer files ss new [] h = tt
fit_longer files ss new (m ∷ ms) h =
    let f = h.0 in
    ((f.0, f.1, nth_before ss f.0 new m.list f.2, f.3), fit_longer files ss new ms h.1)

-- rows that a label gets leave it where it is
told_fits : (files : List ℕ → Option Source) (ss : List Source) (name : List ℕ) (s : ByteRange) (t : Annotation)
    (ms : List FileLabel) → AllFit files ss ms → AllFit files ss (map (with_more_rows name s t) ms)
told_fits files ss name s t [] h = tt
told_fits files ss name s t (m ∷ ms) h =
    (either (Fits files ss) (is_label_at name s m) _ m h.0 h.0, told_fits files ss name s t ms h.1)

-- ---- a new label

-- a list that it meets a label in is of its file
met : (files : List ℕ → Option Source) (ss : List Source) (ms : List FileLabel) (name bytes : List ℕ) (s : ByteRange)
    (own : Bool) (n : ℕ) → AllFit files ss ms → list_any (meets name bytes s own n) ms ≡ true
    → (o : Source) × (files name ≡ Some o) × (nth ss n ≡ Some o)
met files ss [] name bytes s own n h e = cc
met files ss (m ∷ ms) name bytes s own n h e =
    elim (or_cases (meets name bytes s own n m) (list_any (meets name bytes s own n) ms) e) [
      | inl here ↦
          (let parts = and_parts _ _ here in
          let number : m.list ≡ n = eqb-true m.list n parts.0 in
          let same : m.name ≡ name = (bytes_eq-Decides m.name name).0 (and_parts _ _ parts.1).0 in
          let f = h.0 in
          (f.0, subst (λ k. files k ≡ Some f.0) same f.1, subst (λ k. nth ss k ≡ Some f.0) number f.2))
      | inr there ↦ met files ss ms name bytes s own n h.1 there
    ]

opened_by : (opens : ℕ → Bool) (n left : ℕ) (b : Bool) → opens n ≡ b
    → (first_accepting opens (n + 1) left ≡ (n + 1) + left) ⊎ (opens (first_accepting opens (n + 1) left) ≡ true)
    → ((if b then n else first_accepting opens (n + 1) left) ≡ n + suc left)
    ⊎ (opens (if b then n else first_accepting opens (n + 1) left) ≡ true)
opened_by opens n left true e h = inr e
opened_by opens n left false e (inl is) = inl (omega (arith, is))
opened_by opens n left false e (inr is) = inr is

-- the number after all lists, or that of one that is open
opened : (opens : ℕ → Bool) (n left : ℕ)
    → (first_accepting opens n left ≡ n + left) ⊎ (opens (first_accepting opens n left) ≡ true)
opened opens n zero = inl (omega arith)
opened opens n (suc left) = opened_by opens n left (opens n) refl (opened opens (n + 1) left)

newly_fits : (files : List ℕ → Option Source) (done : LabelLists) (name : List ℕ) (source : Source) (s : ByteRange)
    (t : Annotation)
    → SettledFits files done → files name ≡ Some source → is_within source.bytes s ≡ true
    → SettledFits files (with_new_label done name source s t)
newly_fits files done name source s t h is within =
    let count = length done.files in
    let opens = accepts_label done.marks name source.bytes s t.own in
    let n = first_accepting opens 0 count in
    let m = new_label count name s t n in
    let longer = done.files ++ source ∷ [] in
    let each = fit_longer files done.files source done.marks h in
    elim (opened opens 0 count) [
      | inl after ↦
          (let e : n ≡ count = omega (arith, after) in
          let last : nth longer n ≡ Some source =
          subst (λ k. nth longer k ≡ Some source) (sym e) (nth_last done.files source) in
          subst (λ (b : Bool). AllFit files (if b then longer else done.files) (done.marks ++ m ∷ []))
          (sym (eq-eqb n count e)) (fit_more files longer done.marks m each (source, is, last, within)))
      | inr meeting ↦
          (let it = met files done.files done.marks name source.bytes s t.own n h (and_parts _ _ meeting).0 in
          let there : nth done.files n ≡ Some source = it.2 ∙ (sym it.1 ∙ is) in
          either (λ ss. AllFit files ss (done.marks ++ m ∷ [])) (n == count) longer done.files
          (fit_more files longer done.marks m each
          (source, is, nth_before done.files source source n there, within))
          (fit_more files done.files done.marks m h (source, is, there, within)))
    ]

marked_fits : (files : List ℕ → Option Source) (done : LabelLists) (name : List ℕ) (source : Source) (s : ByteRange)
    (t : Annotation)
    → SettledFits files done → files name ≡ Some source → is_within source.bytes s ≡ true
    → SettledFits files (with_labeled done name source s t)
marked_fits files done name source s t h is within =
    either (SettledFits files) (list_any (is_label_at name s) done.marks) _ _
    (told_fits files done.files name s t done.marks h)
    (either (SettledFits files) (has_no_rows t.rows && list_any (is_label_around name s) done.marks) done
    (with_new_label done name source s t) h (newly_fits files done name source s t h is within))

-- ---- all that is told

text_fits : (files : List ℕ → Option Source) (done : LabelLists) (o : Option (List ℕ)) → SettledFits files done
    → SettledFits files (maybe_text done o)
text_fits files done None h = h
text_fits files done (Some text) h = h

within_by : (x : Source) (s : ByteRange) (b : Bool) → is_within x.bytes s ≡ b
    → IfSome {T = Source × ByteRange} (if b then Some (x, s) else None)
    (λ f. (Some x ≡ Some f.0) × (is_within f.0.bytes f.1 ≡ true))
within_by x s true e = (refl, e)
within_by x s false e = tt

within_fits : (o : Option Source) (s : Option ByteRange)
    → IfSome (option_and_then (λ source. range_within source s) o)
    (λ f. (o ≡ Some f.0) × (is_within f.0.bytes f.1 ≡ true))
within_fits None s = tt
within_fits (Some x) None = tt
within_fits (Some x) (Some s) = within_by x s (is_within x.bytes s) refl

at_fits : (files : List ℕ → Option Source) (done : LabelLists) (t : Annotation) (p : ToolLocation)
    (f : Option (Source × ByteRange))
    → SettledFits files done → IfSome f (λ f. (files p.name ≡ Some f.0) × (is_within f.0.bytes f.1 ≡ true))
    → SettledFits files (with_located done t p f)
at_fits files done t p None h r = h
at_fits files done t p (Some f) h r = marked_fits files done p.name f.0 f.1 t h r.0 r.1

with_fits : (files : List ℕ → Option Source) (done : LabelLists) (t : Annotation) (p : Option ToolLocation)
    → SettledFits files done
    → SettledFits files (with_annotation_at files done t p)
with_fits files done t None h = text_fits files done (join_rows t.rows) h
with_fits files done t (Some p) h =
    at_fits files done t p (file_range files p) h (within_fits (files p.name) p.stretch)

pub settled_fits : (files : List ℕ → Option Source) (ts : List Annotation) (done : LabelLists) → SettledFits files done
    → SettledFits files (fold (with_annotation files) done ts)
settled_fits files [] done h = h
settled_fits files (t ∷ ts) done h =
    settled_fits files ts (with_annotation files done t) (with_fits files done t t.place h)

-- ---- the labels of lists

label_accepted : (bytes : List ℕ) (m : FileLabel) → is_within bytes m.stretch ≡ true
    → is_in_bounds bytes (label_of m).span ≡ true
label_accepted bytes m h =
    let parts = and_parts _ _ h in
    let forth : m.stretch.start ≤ m.stretch.end = leb-true _ _ parts.0 in
    let inside : m.stretch.end ≤ length bytes = leb-true _ _ parts.1 in
    let starts : m.stretch.start ≤ length bytes = omega (arith, forth, inside) in
    let ends : m.stretch.start + (m.stretch.end - m.stretch.start) ≤ length bytes + 1 = omega (arith, forth, inside) in
    and_from _ _ (le-leb _ _ starts) (le-leb _ _ ends)

same_some : (a b : Source) → Some a ≡ Some b → a ≡ b
same_some a b e = cc

module _ (files : List ℕ → Option Source) (ss : List Source) (source : Source) (n : ℕ) (is : nth ss n ≡ Some source)
  where
    listed : (m : FileLabel) (ms : List FileLabel) (b : Bool) → is_listed n m ≡ b → Fits files ss m
        → list_all (λ label. is_in_bounds source.bytes label.span) (map label_of ms) ≡ true
        → list_all (λ label. is_in_bounds source.bytes label.span) (map label_of (if b then m ∷ ms else ms)) ≡ true
    listed m ms false e f all = all
    listed m ms true e f all =
        let same : f.0 ≡ source = same_some f.0 source
        (sym (subst (λ k. nth ss k ≡ Some f.0) (eqb-true m.list n e) f.2) ∙ is) in
        and_from _ _
        (label_accepted source.bytes m (subst (λ (k : Source). is_within k.bytes m.stretch ≡ true) same f.3)) all

    labels_accepted : (ms : List FileLabel) → AllFit files ss ms
        → list_all (λ label. is_in_bounds source.bytes label.span) (labels_in ms n) ≡ true
    labels_accepted [] h = refl
    labels_accepted (m ∷ ms) h =
        listed m (filter (is_listed n) ms) (is_listed n m) refl h.0 (labels_accepted ms h.1)

source_accepts : (source : Source) (ls : List Label)
    → list_all (λ label. is_in_bounds source.bytes label.span) ls ≡ true → source.always_reads ≡ true
    → accepts (Some source) ls ≡ true
source_accepts source ls all reads = and_from _ _ all (or_right _ _ reads)

sections_accept : (files : List ℕ → Option Source) (all : List Source) (ms : List FileLabel) → AllFit files all ms
    → (n : ℕ)
    (ss : List Source) → ((k : ℕ) → nth all (n + k) ≡ nth ss k) → EachReads ss
    → further_pass accepts (sections_from ms n ss) ≡ true
sections_accept files all ms h n [] at r = refl
sections_accept files all ms h n (s ∷ ss) at r =
    let zeroth : n ≡ n + 0 = omega arith in
    let here : nth all n ≡ Some s = ap (nth all) zeroth ∙ at 0 in
    and_from _ _ (source_accepts s (labels_in ms n) (labels_accepted files all s n here ms h) r.0)
    (sections_accept files all ms h (n + 1) ss
    (λ k. (let next : (n + 1) + k ≡ n + suc k = omega arith in ap (nth all) next ∙ at (suc k))) r.1)

-- ---- the report

pub given_some : (ls : List Label) → given_labels (some_labels ls) ≡ ls
given_some [] = refl
given_some (l ∷ ls) = refl

abbrev AllAccept : Trees → Type 0
AllAccept more = (inherited : Option Source) → reports_pass accepts inherited more ≡ true

told_accepts : (files : List ℕ → Option Source) (marks : List FileLabel) (ss : List Source) (ts : List (List ℕ))
    (said : MessageParts) (more : Trees) (fixes : List FixModel) → AllFit files ss marks → EachReads ss
    → AllAccept more
    → report_in_bounds (with_related more (with_fixes fixes (with_all_snippets
    (sections_from marks 1 (further_files ss))
    (with_cause (texts ts) (maybe_source ss (single_report (plain_diagnosis (meaning_with said marks)))))))) ≡ true
told_accepts files marks [] ts said more fixes h r all = and_from _ _ (and_from true _ refl (all None)) refl
told_accepts files marks (s ∷ ss) ts said more fixes h r all =
    let own : accepts (Some s) (given_labels (some_labels (labels_in marks 0))) ≡ true =
    subst (λ (ls : List Label). accepts (Some s) ls ≡ true) (sym (given_some (labels_in marks 0)))
    (source_accepts s (labels_in marks 0) (labels_accepted files (s ∷ ss) s 0 refl marks h) r.0)
    in
    and_from _ _ (and_from _ _ own (all (Some s)))
    (sections_accept files (s ∷ ss) marks h 1 ss
    (λ k. (let next : 1 + k ≡ suc k = omega arith in ap (nth (s ∷ ss)) next)) r.1)

advice_accepts : (inherited : Option Source) (offer : Suggestion) (es : List FileEdit) (more : List Tree)
    → reports_pass accepts inherited (trees more) ≡ true
    → reports_pass accepts inherited (trees (map (advice offer) es ++ more)) ≡ true
advice_accepts inherited offer [] more h = h
advice_accepts inherited offer (e ∷ es) more h = advice_accepts inherited offer es more h

advices_accept : (main : Option (List ℕ)) (os : List Suggestion) → AllAccept (trees (flat_map (advice_of main) os))
advices_accept main [] = λ inherited. refl
advices_accept main (o ∷ os) =
    λ inherited. advice_accepts inherited o (first_edits_of_others main o.edits) (flat_map (advice_of main) os)
    (advices_accept main os inherited)

pub report_accepts : (files : List ℕ → Option Source) → FilesRead files → (said : MessageParts) (ts : List Annotation)
    (offers : List Suggestion) → report_in_bounds (report_tree said (label_lists files ts) offers) ≡ true
report_accepts files h said ts offers =
    let done = label_lists files ts in
    told_accepts files done.marks done.files done.texts said
    (trees (flat_map (advice_of (main_file_name done.marks)) offers)) (flat_map (main_fixes (main_file_name done.marks))
    offers)
    (settled_fits files ts no_label_lists tt) (settled_reads files h ts no_label_lists tt)
    (advices_accept (main_file_name done.marks) offers)

-- ---- rustc's

message_accepts : (files : List ℕ → Option Source) → FilesRead files → (folder : Option (List ℕ)) (d : Data)
    → report_in_bounds (message_tree (record { files = files; folder = folder }) d) ≡ true
message_accepts files h folder d =
    report_accepts files h (message_parts files d) (message_annotations (record { files = files; folder = folder }) d)
    (message_suggestions files d)

pub row_accepts : (files : List ℕ → Option Source) → FilesRead files → (d : Data)
    → IfSome (rustc_tree files d) (λ t. IfSome t (λ tree. report_in_bounds tree ≡ true))
row_accepts files h d = row_holds (λ tree. report_in_bounds tree ≡ true) files (message_accepts files h) d
