-- The reports of what GCC writes always read, over files that do, their labels are accepted, and what is told is kept.
use Rattle.std.proofs.Common.{◌≡◌, ℕ, List, [], ◌∷◌, Option, Some, None, option_map, All, IfSome, true}
use Rattle.std.specs.List.{Contains, filter_map, list_all}
use Rattle.serde_json.specs.Data.{Data}
use Rattle.miette_protocol.specs.rules.Reading.{Source}
use Rattle.miette_tree.specs.rules.Reads.{AlwaysReads, report_in_bounds}
use Rattle.miette_read.specs.rules.Kept.{IsKept}
use Rattle.miette_read.specs.rules.Members.{list_in}
use Rattle.miette_read.specs.rules.Places.{Annotation}
use Rattle.miette_read.specs.rules.SuggestedFixes.{FileEdit}
use Rattle.miette_read.specs.rules.AnnotationLabels.{file_range}
use Rattle.miette_read.proofs.Accepted.{report_accepts}
use Rattle.miette_read.proofs.AllHold.{list_holds}
use Rattle.miette_read.proofs.Kept.{report_keeps}
use Rattle.miette_read.proofs.Holding.{all_made}
use Rattle.miette_read.proofs.ReportsRead.{EditReads, EditsRead, FilesRead, OfferReads, OffersRead}
use Rattle.miette_read.proofs.ReportsRead.{either, found_reads, place_reads, report_reads}
use Rattle.miette_read_gcc.specs.rules.Gcc.{GccContext, diagnostic_annotations}
use Rattle.miette_read_gcc.specs.rules.GccReport.{all_fixit_edits, diagnostic_tree, fixit_edit, fixit_location}
use Rattle.miette_read_gcc.specs.rules.GccReport.{fixits_of}
use Rattle.miette_read_gcc.specs.rules.GccReport.{gcc_trees, gcc_context_of, is_fixit_found, fixit_text}
use Rattle.miette_read_gcc.specs.rules.GccReport.{fixits_suggestion, diagnostic_suggestion}
use Rattle.miette_read_gcc.specs.rules.GccReport.{suggestion_of_fixits, diagnostic_suggestions, proposers}
use Rattle.miette_read_gcc.specs.rules.GccReport.{diagnostic_parts}

-- ---- proposals

edit_reads : (g : GccContext) → FilesRead g.files → (x : Data) → IfSome (fixit_edit g x) EditReads
edit_reads g h x =
    let p = fixit_location g x in
    found_reads p.name (fixit_text x) (file_range g.files p) (place_reads g.files h p)

offer_from : (xs : List Data) (o : Option (List FileEdit)) → IfSome o EditsRead
    → IfSome (option_map (fixits_suggestion xs) o) OfferReads
offer_from xs None h = tt
offer_from xs (Some es) h = h

offer_reads : (g : GccContext) → FilesRead g.files → (xs : List Data) → IfSome (suggestion_of_fixits g xs) OfferReads
offer_reads g h [] = tt
offer_reads g h (x ∷ xs) =
    offer_from (x ∷ xs) (all_fixit_edits g (x ∷ xs)) (either (λ o. IfSome o EditsRead)
    (list_all (is_fixit_found g) (x ∷ xs))
    (Some (filter_map (fixit_edit g) (x ∷ xs))) None (all_made EditReads (fixit_edit g) (edit_reads g h) (x ∷ xs)) tt)

offers_read : (g : GccContext) → FilesRead g.files → (ds : List Data) → OffersRead
    (filter_map (diagnostic_suggestion g) ds)
offers_read g h ds = all_made OfferReads (diagnostic_suggestion g) (λ d. offer_reads g h (fixits_of d)) ds

-- ---- the reports

pub gcc_reads : (files : List ℕ → Option Source) → FilesRead files → (d : Data)
    → IfSome (gcc_trees files d) (All AlwaysReads)
gcc_reads files h d =
    list_holds AlwaysReads (diagnostic_tree files)
    (λ it. (let g = gcc_context_of files it in
    report_reads files h (diagnostic_parts g it) (diagnostic_annotations g it) (diagnostic_suggestions g it)
    (offers_read g h (proposers it)))) (list_in d)

pub gcc_accepts : (files : List ℕ → Option Source) → FilesRead files → (d : Data)
    → IfSome (gcc_trees files d) (All (λ tree. report_in_bounds tree ≡ true))
gcc_accepts files h d =
    list_holds (λ tree. report_in_bounds tree ≡ true) (diagnostic_tree files)
    (λ it. (let g = gcc_context_of files it in report_accepts files h (diagnostic_parts g it)
    (diagnostic_annotations g it) (diagnostic_suggestions g it)))
    (list_in d)

pub gcc_keeps : (files : List ℕ → Option Source) (d : Data) (t : Annotation) (row : List ℕ)
    → Contains (diagnostic_annotations (gcc_context_of files d) d) t → Contains t.rows row
    → IsKept (diagnostic_tree files d) row
gcc_keeps files d t row =
    let g = gcc_context_of files d in report_keeps files (diagnostic_parts g d) (diagnostic_annotations g d)
    (diagnostic_suggestions g d) t row
