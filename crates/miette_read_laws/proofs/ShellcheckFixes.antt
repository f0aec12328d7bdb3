-- The edits that ShellCheck proposes are within files that are found.
use Rattle.std.proofs.Common.{ℕ, List, [], ◌∷◌, Option, Some, None, IfSome}
use Rattle.std.specs.List.{AllByRecursion}
use Rattle.serde_json.specs.Data.{Data}
use Rattle.miette_protocol.specs.rules.Reading.{Source}
use Rattle.miette_read.specs.rules.SuggestedFixes.{FileEdit}
use Rattle.miette_read.specs.laws.Applying.{AreFound, IsFound}
use Rattle.miette_read.proofs.KeptOffers.{AreSound, all_sound, edit_is}
use Rattle.miette_read_shellcheck.specs.rules.Comments.{all_replacement_edits, replacement_edit, comment_edits}
use Rattle.miette_read_shellcheck.specs.rules.Comments.{comment_file, replacement_text, comment_suggestions}
use Rattle.miette_read_shellcheck.specs.rules.Comments.{suggestions_if_found, comment_location, replacements_of}
use Rattle.miette_read_shellcheck.specs.rules.Comments.{replacements_message}

module _ (files : List ℕ → Option Source) where
  edit_sound : (name : List ℕ) (x : Data) → IfSome (replacement_edit files name x) (IsFound files)
  edit_sound name x = edit_is files (comment_location files name x) (replacement_text x)

  -- replacements that are found, of which there is one
  pub some_sound : (name : List ℕ) (x : Data) (xs : List Data)
      → IfSome (all_replacement_edits files name (x ∷ xs)) (AreSound files)
  some_sound name x xs = all_sound files (replacement_edit files name) (edit_sound name) x xs

  within : (o : Option (List FileEdit)) → IfSome o (AreSound files) → IfSome o (AllByRecursion (IsFound files))
  within None h = tt
  within (Some es) h = h.0

  edits_within : (name : List ℕ) (xs : List Data)
      → IfSome (all_replacement_edits files name xs) (AllByRecursion (IsFound files))
  edits_within name [] = tt
  edits_within name (x ∷ xs) = within (all_replacement_edits files name (x ∷ xs)) (some_sound name x xs)

  offers_within : (words : List ℕ) (o : Option (List FileEdit)) → IfSome o (AllByRecursion (IsFound files))
      → AllByRecursion (AreFound files) (suggestions_if_found words o)
  offers_within words None h = tt
  offers_within words (Some []) h = tt
  offers_within words (Some (e ∷ es)) h = (h, tt)

  pub shellcheck_found : (c : Data) → AllByRecursion (AreFound files) (comment_suggestions files c)
  shellcheck_found c =
      offers_within (replacements_message (replacements_of c)) (comment_edits files c)
      (edits_within (comment_file c) (replacements_of c))
