-- Suggested edits are in a report.
use Rattle.std.specs.Prelude.{◌≡◌, ◌⊎◌, ◌++◌, ℕ, List, Option, Some, codes}
use Rattle.std.specs.List.{Any, Contains}
use Rattle.miette_fixes.specs.declared.applicability.Applicability.{Applicability}
use Rattle.miette_fixes.specs.rules.Edits.{FixModel, Replacement}
use Rattle.miette_protocol.specs.rules.Reading.{Source}
use Rattle.miette_read.specs.rules.SuggestedFixes.{FileEdit, Suggestion}
use Rattle.miette_tree.specs.rules.Tree.{Tree, Trees, no_trees, more_trees, head, source_of, related_of}

-- One report of the list satisfies the predicate.
abbrev pub AnyOf : (Tree → Type 0) → Trees → Type 0
AnyOf holds no_trees = ⊥
AnyOf holds (more_trees t ts) = holds t ⊎ AnyOf holds ts

-- The edit's file is the one that is found by its name.
abbrev pub IsOfFile : (List ℕ → Option Source) → FileEdit → Type 0
IsOfFile files e = files e.name ≡ Some e.source

-- The fix has this message and applicability, and contains the edit.
abbrev pub HasEdit : List ℕ → Applicability → Replacement → FixModel → Type 0
HasEdit message sure edit fix = (fix.message ≡ message) × (fix.applicability ≡ sure) × Contains fix.edits edit

-- A fix of the report contains the edit, and the report's source is the edit's file.
abbrev pub IsOwnEdit : Suggestion → FileEdit → Tree → Type 0
IsOwnEdit offer e t =
    (source_of t ≡ Some e.source) × Any (HasEdit offer.message offer.applicability e.edit) (head t).fixes

-- The report is advice over the edit's file, and one of its fixes contains the edit.
abbrev pub IsAdvice : Suggestion → FileEdit → Tree → Type 0
IsAdvice offer e t =
    ((head t).message ≡ offer.message) × (source_of t ≡ Some e.source)
    × Any (HasEdit (codes "in " ++ e.name) offer.applicability e.edit) (head t).fixes

abbrev pub IsSuggested : Suggestion → FileEdit → Tree → Type 0
IsSuggested offer e t = IsOwnEdit offer e t ⊎ AnyOf (IsAdvice offer e) (related_of t)
