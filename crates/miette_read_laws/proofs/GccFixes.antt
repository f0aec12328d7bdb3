-- The edits that GCC proposes are within files that are found.
use Rattle.std.proofs.Common.{List, [], ◌∷◌, Option, Some, None, option_map, IfSome}
use Rattle.std.specs.List.{AllByRecursion}
use Rattle.serde_json.specs.Data.{Data}
use Rattle.miette_read_gcc.specs.rules.Gcc.{GccContext}
use Rattle.miette_read_gcc.specs.rules.GccReport.{all_fixit_edits, fixit_edit, fixit_location, fixits_of, fixit_text}
use Rattle.miette_read_gcc.specs.rules.GccReport.{fixits_suggestion, diagnostic_suggestion}
use Rattle.miette_read_gcc.specs.rules.GccReport.{suggestion_of_fixits, diagnostic_suggestions, proposers}
use Rattle.miette_read.specs.rules.SuggestedFixes.{FileEdit}
use Rattle.miette_read.specs.laws.Applying.{AreFound, IsFound}
use Rattle.miette_read.proofs.Holding.{all_made}
use Rattle.miette_read.proofs.KeptOffers.{AreSound, all_sound, edit_is}

module _ (g : GccContext) where
  edit_sound : (x : Data) → IfSome (fixit_edit g x) (IsFound g.files)
  edit_sound x = edit_is g.files (fixit_location g x) (fixit_text x)

  offer_from : (xs : List Data) (o : Option (List FileEdit)) → IfSome o (AreSound g.files)
      → IfSome (option_map (fixits_suggestion xs) o) (AreFound g.files)
  offer_from xs None h = tt
  offer_from xs (Some es) h = h.0

  offer_sound : (xs : List Data) → IfSome (suggestion_of_fixits g xs) (AreFound g.files)
  offer_sound [] = tt
  offer_sound (x ∷ xs) =
      offer_from (x ∷ xs) (all_fixit_edits g (x ∷ xs)) (all_sound g.files (fixit_edit g) edit_sound x xs)

  pub gcc_found : (d : Data) → AllByRecursion (AreFound g.files) (diagnostic_suggestions g d)
  gcc_found d = all_made (AreFound g.files) (diagnostic_suggestion g) (λ c. offer_sound (fixits_of c)) (proposers d)
