-- Fixes that can be applied.
use Rattle.std.specs.Prelude.{◌≡◌, ℕ, List, Option, Some, None, false, length, ⊤}
use Rattle.std.specs.List.{AllByRecursion}
use Rattle.miette_fixes.specs.rules.Applying.{edits_error}
use Rattle.miette_fixes.specs.rules.Edits.{FixModel, ends_after}
use Rattle.miette_protocol.specs.rules.Reading.{Source}
use Rattle.miette_read.specs.rules.SuggestedFixes.{FileEdit, Suggestion}
use Rattle.miette_read.specs.laws.Proposed.{IsOfFile}
use Rattle.miette_tree.specs.rules.Tree.{Tree, Trees, no_trees, more_trees, head, source_of, related_of}

-- Every report of the list satisfies the predicate.
abbrev pub AllOf : (Tree → Type 0) → Trees → Type 0
AllOf holds no_trees = ⊤
AllOf holds (more_trees t ts) = holds t × AllOf holds ts

-- The edit is in bounds of the file that is found by its name.
abbrev pub IsFound : (List ℕ → Option Source) → FileEdit → Type 0
IsFound files e = IsOfFile files e × (ends_after (length e.source.bytes) e.edit ≡ false)

abbrev pub AreFound : (List ℕ → Option Source) → Suggestion → Type 0
AreFound files offer = AllByRecursion (IsFound files) offer.edits

-- The fix can be applied to the source of its report.
abbrev pub CanBeApplied : Tree → FixModel → Type 0
CanBeApplied t fix = (s : Source) × (source_of t ≡ Some s) × (edits_error (length s.bytes) fix.edits ≡ None)

abbrev pub FixesApply : Tree → Type 0
FixesApply t = AllByRecursion (CanBeApplied t) (head t).fixes

-- The fixes of the report and of its related reports can be applied.
abbrev pub AllFixesApply : Tree → Type 0
AllFixesApply t = FixesApply t × AllOf FixesApply (related_of t)
