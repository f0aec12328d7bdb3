-- What is said of what a comment of ShellCheck proposes stands in its report.
use Rattle.std.proofs.Common.{◌≡◌, ℕ, List, [], ◌∷◌, Option, Some, None, IfSome, refl, ap, subst, sym, inl}
use Rattle.std.specs.List.{AllByRecursion}
use Rattle.serde_json.specs.Data.{Data}
use Rattle.miette_protocol.specs.rules.Reading.{Source}
use Rattle.miette_read.specs.rules.SuggestedFixes.{FileEdit}
use Rattle.miette_read.specs.rules.Reports.{report_tree}
use Rattle.miette_read.specs.rules.AnnotationLabels.{label_lists}
use Rattle.miette_read.specs.laws.MessageTexts.{IsInReport}
use Rattle.miette_read.proofs.KeptOffers.{AreSound}
use Rattle.miette_read.proofs.KeptRows.{row_joined}
use Rattle.miette_read.proofs.KeptStanding.{help_stands, offered_stands}
use Rattle.miette_read_shellcheck.specs.rules.Comments.{all_replacement_edits, comment_tree, comment_edits}
use Rattle.miette_read_shellcheck.specs.rules.Comments.{comment_file, help_if_not_found, suggestions_if_found}
use Rattle.miette_read_shellcheck.specs.rules.Comments.{replacements_of, comment_parts, comment_annotations}
use Rattle.miette_read_shellcheck.specs.rules.Comments.{replacements_message}
use Rattle.miette_read_laws.specs.laws.ShellcheckTexts.{proposal_texts, texts_of}
use Rattle.miette_read_laws.proofs.ShellcheckFixes.{some_sound}

module _ (files : List ℕ → Option Source) (c : Data) where
  -- as help, or as the message of a fix
  words_stand : (words : List ℕ) (o : Option (List FileEdit)) → IfSome o (AreSound files)
      → IsInReport (report_tree (comment_parts (help_if_not_found words o) c)
      (label_lists files (comment_annotations files c)) (suggestions_if_found words o))
      words
  words_stand words None h =
      help_stands files (comment_parts (Some words) c) (comment_annotations files c) [] words
      (row_joined words (words ∷ []) (inl refl))
  words_stand words (Some []) h = absurd h.1.1
  words_stand words (Some (e ∷ es)) h =
      offered_stands files (comment_parts None c) (comment_annotations files c)
      (suggestions_if_found words (Some (e ∷ es))) words
      (inl (refl, h))

  proposal_stands : (xs : List Data) → replacements_of c ≡ xs
      → AllByRecursion (IsInReport (comment_tree files c)) (proposal_texts xs)
  proposal_stands [] is = tt
  proposal_stands (x ∷ xs) is =
      let sound = subst (λ ys. IfSome (all_replacement_edits files (comment_file c) ys) (AreSound files)) (sym is)
      (some_sound files (comment_file c) x xs)
      in (
        subst (IsInReport (comment_tree files c)) (ap replacements_message is)
            (words_stand (replacements_message (replacements_of c)) (comment_edits files c) sound),
        tt,
      )

  pub comment_stands : AllByRecursion (IsInReport (comment_tree files c)) (texts_of c)
  comment_stands = proposal_stands (replacements_of c) refl
