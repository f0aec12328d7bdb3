-- The reports of rustc's messages always read, over files that do.
use Rattle.std.proofs.Common.{ℕ, List, [], ◌∷◌, Option, Some, None, option_map, IfSome, codes}
use Rattle.std.specs.Prelude.{option_and_then}
use Rattle.std.specs.List.{filter_map, list_all}
use Rattle.serde_json.specs.Data.{Data}
use Rattle.miette_protocol.specs.rules.Reading.{Source}
use Rattle.miette_tree.specs.rules.Reads.{AlwaysReads}
use Rattle.miette_read.specs.rules.Members.{member_objects, member_text}
use Rattle.miette_read.specs.rules.Places.{ByteRange}
use Rattle.miette_read.specs.rules.SuggestedFixes.{FileEdit, edit_found}
use Rattle.miette_read.specs.rules.Rustc.{edits_in_child, file_name, rustc_location, message_annotations}
use Rattle.miette_read.specs.rules.RustcReport.{all_span_edits, span_edit, is_edit_found, message_tree}
use Rattle.miette_read.specs.rules.RustcReport.{suggestion_of_edits, child_suggestion}
use Rattle.miette_read.specs.rules.RustcReport.{suggestion_of_spans, message_suggestions, rustc_tree, message_parts}
use Rattle.miette_read.specs.rules.AnnotationLabels.{file_range}
use Rattle.miette_read.proofs.Holding.{all_made}
use Rattle.miette_read.proofs.MessageRows.{row_holds}
use Rattle.miette_read.proofs.ReportsRead.{EditReads, EditsRead, FilesRead, OfferReads, OffersRead, Reads}
use Rattle.miette_read.proofs.ReportsRead.{either, found_reads, place_reads, report_reads}

-- ---- proposals

edit_with : (name : List ℕ) (o : Option (List ℕ)) (f : Option (Source × ByteRange)) → IfSome f (λ f. Reads f.0)
    → IfSome (option_and_then (λ text. option_map (edit_found name text) f) o) EditReads
edit_with name None f r = tt
edit_with name (Some text) f r = found_reads name text f r

edit_reads : (files : List ℕ → Option Source) → FilesRead files → (d : Data) → IfSome (span_edit files d) EditReads
edit_reads files h d =
    edit_with (file_name d) (member_text (codes "suggested_replacement") d) (file_range files (rustc_location d))
    (place_reads files h (rustc_location d))

offer_from : (c first : Data) (o : Option (List FileEdit)) → IfSome o EditsRead
    → IfSome (option_map (suggestion_of_edits c first) o) OfferReads
offer_from c first None h = tt
offer_from c first (Some es) h = h

offer_reads : (files : List ℕ → Option Source) → FilesRead files → (c : Data) (ds : List Data)
    → IfSome (suggestion_of_spans files c ds) OfferReads
offer_reads files h c [] = tt
offer_reads files h c (d ∷ ds) =
    offer_from c d (all_span_edits files (d ∷ ds)) (either (λ o. IfSome o EditsRead)
    (list_all (is_edit_found files) (d ∷ ds))
    (Some (filter_map (span_edit files) (d ∷ ds))) None
    (all_made EditReads (span_edit files) (edit_reads files h) (d ∷ ds)) tt)

offers_read : (files : List ℕ → Option Source) → FilesRead files → (cs : List Data)
    → OffersRead (filter_map (child_suggestion files) cs)
offers_read files h cs = all_made OfferReads (child_suggestion files) (λ c. offer_reads files h c (edits_in_child c)) cs

-- ---- the whole

message_reads : (files : List ℕ → Option Source) → FilesRead files → (folder : Option (List ℕ)) (d : Data)
    → AlwaysReads (message_tree (record { files = files; folder = folder }) d)
message_reads files h folder d =
    report_reads files h (message_parts files d) (message_annotations (record { files = files; folder = folder }) d)
    (message_suggestions files d)
    (offers_read files h (member_objects (codes "children") d))

pub row_reads : (files : List ℕ → Option Source) → FilesRead files → (d : Data)
    → IfSome (rustc_tree files d) (λ t. IfSome t AlwaysReads)
row_reads files h d = row_holds AlwaysReads files (message_reads files h) d
