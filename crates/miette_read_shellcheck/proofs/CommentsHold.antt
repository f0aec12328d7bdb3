-- The reports of what ShellCheck writes always read, over files that do, and their labels are accepted.
use Rattle.std.proofs.Common.{◌≡◌, ℕ, List, [], ◌∷◌, Option, Some, None, All, IfSome, true}
use Rattle.std.specs.List.{filter_map, list_all}
use Rattle.serde_json.specs.Data.{Data}
use Rattle.miette_protocol.specs.rules.Reading.{Source}
use Rattle.miette_tree.specs.rules.Reads.{AlwaysReads, report_in_bounds}
use Rattle.miette_read.specs.rules.SuggestedFixes.{FileEdit}
use Rattle.miette_read.specs.rules.AnnotationLabels.{file_range}
use Rattle.miette_read.proofs.Accepted.{report_accepts}
use Rattle.miette_read.proofs.AllHold.{list_holds}
use Rattle.miette_read.proofs.Holding.{all_made}
use Rattle.miette_read.proofs.ReportsRead.{EditReads, EditsRead, FilesRead, OffersRead}
use Rattle.miette_read.proofs.ReportsRead.{either, found_reads, place_reads, report_reads}
use Rattle.miette_read_shellcheck.specs.rules.Comments.{all_replacement_edits, comment_tree, comments_of}
use Rattle.miette_read_shellcheck.specs.rules.Comments.{replacement_edit, comment_edits}
use Rattle.miette_read_shellcheck.specs.rules.Comments.{comment_file, comment_help, is_replacement_found}
use Rattle.miette_read_shellcheck.specs.rules.Comments.{replacement_text, suggestions_of_edits}
use Rattle.miette_read_shellcheck.specs.rules.Comments.{comment_suggestions, suggestions_if_found, comment_location}
use Rattle.miette_read_shellcheck.specs.rules.Comments.{replacements_of, comment_parts}
use Rattle.miette_read_shellcheck.specs.rules.Comments.{shellcheck_trees, comment_annotations, replacements_message}

-- ---- proposals

module _ (files : List ℕ → Option Source) (h : FilesRead files) where
  edit_reads : (name : List ℕ) (x : Data) → IfSome (replacement_edit files name x) EditReads
  edit_reads name x =
      let p = comment_location files name x in
      found_reads p.name (replacement_text x) (file_range files p) (place_reads files h p)

  found_read : (name : List ℕ) (xs : List Data) → IfSome (all_replacement_edits files name xs) EditsRead
  found_read name xs =
      either (λ o. IfSome o EditsRead) (list_all (is_replacement_found files name) xs)
      (Some (filter_map (replacement_edit files name) xs)) None
      (all_made EditReads (replacement_edit files name) (edit_reads name) xs) tt

  offer_reads : (words : List ℕ) (es : List FileEdit) → EditsRead es → OffersRead (suggestions_of_edits words es)
  offer_reads words [] r = tt
  offer_reads words (e ∷ es) r = (r, tt)

  with_reads : (words : List ℕ) (o : Option (List FileEdit)) → IfSome o EditsRead
      → OffersRead (suggestions_if_found words o)
  with_reads words None r = tt
  with_reads words (Some es) r = offer_reads words es r

  offers_read : (c : Data) → OffersRead (comment_suggestions files c)
  offers_read c =
      with_reads (replacements_message (replacements_of c)) (comment_edits files c)
      (found_read (comment_file c) (replacements_of c))

-- ---- the reports

pub shellcheck_reads : (files : List ℕ → Option Source) → FilesRead files → (d : Data)
    → IfSome (shellcheck_trees files d) (All AlwaysReads)
shellcheck_reads files h d =
    list_holds AlwaysReads (comment_tree files)
    (λ c. report_reads files h (comment_parts (comment_help files c) c) (comment_annotations files c)
    (comment_suggestions files c)
    (offers_read files h c)) (comments_of d)

pub shellcheck_accepts : (files : List ℕ → Option Source) → FilesRead files → (d : Data)
    → IfSome (shellcheck_trees files d) (All (λ tree. report_in_bounds tree ≡ true))
shellcheck_accepts files h d =
    list_holds (λ tree. report_in_bounds tree ≡ true) (comment_tree files)
    (λ c. report_accepts files h (comment_parts (comment_help files c) c) (comment_annotations files c)
    (comment_suggestions files c)) (comments_of d)
