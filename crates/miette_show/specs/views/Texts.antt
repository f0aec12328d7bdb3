-- Output while it is built.
use Rattle.std.specs.Prelude.{◌≡◌, ℕ, List, [], ◌∷◌, ◌++◌, Bool, Option, Some, None}
use Rattle.std.specs.List.{list_any}
use Rattle.miette_tree.specs.rules.Tree.{Tree}
use Rattle.miette_show.specs.rules.ShownRow.{AreReportTexts, is_error_tree}
use Rattle.miette_show_rows.specs.declared.verdict.RowKind.{RowKind}
use Rattle.miette_show_rows.specs.declared.verdict.RowKind.TheVariants.{Passed, Unread, Messages, Failed}
use Rattle.miette_show_rows.specs.declared.verdict.Failure.{Failure}

-- The texts of these reports, and whether one is an error.
abbrev pub AreTexts : (Tree → List ℕ → Type 0) → List Tree → Bool → List ℕ → Type 0
AreTexts gives ts grave text = (grave ≡ list_any is_error_tree ts) × AreReportTexts gives ts text

-- The report's text and an empty line are appended. `error` says whether the report is an error.
abbrev pub IsPushed : (Tree → List ℕ → Type 0) → Tree → Bool → List ℕ → List ℕ → Type 0
IsPushed gives t error old new = (error ≡ is_error_tree t)
    × ((drawn : List ℕ) × gives t drawn × (new ≡ old ++ (drawn ++ 10 ∷ [])))

-- The output for a value, from its reports and the failure that it reports.
abbrev pub IsValueText : (Tree → List ℕ → Type 0) → Option (List Tree) → Option Failure → RowKind → List ℕ → Type 0
IsValueText gives says what Passed text = ⊥
IsValueText gives says what Unread text = (says ≡ None) × (text ≡ [])
IsValueText gives says what (Messages grave) text =
    ((ts : List Tree) × (says ≡ Some ts) × AreTexts gives ts grave text) × (what ≡ None)
IsValueText gives says what (Failed failure) text =
    ((ts : List Tree) × (says ≡ Some ts) × AreReportTexts gives ts text) × (what ≡ Some failure)
