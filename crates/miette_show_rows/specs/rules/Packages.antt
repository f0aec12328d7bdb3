-- Fixes of packages that have errors.
use Rattle.std.specs.Prelude.{ℕ, List, [], ◌∷◌, Bool, ◌||◌, ◌==◌, not, if◌then◌else◌, length}
use Rattle.std.specs.List.{flat_map}
use Rattle.miette_show_rows.specs.rules.FixesByFile.{each_once, has_name}
use Rattle.miette_show_rows.specs.rules.ApplicableFixes.{FileFixes, RowFixes}

abbrev pub broken_package : RowFixes → List (List ℕ)
broken_package r = if r.grave then r.package_id ∷ [] else []

-- The packages with a message that is an error.
abbrev pub broken_packages : List RowFixes → List (List ℕ)
broken_packages rows = flat_map broken_package rows

-- Fixes are selected if their package has no errors, or if `broken` is set.
abbrev pub is_fix_selected : Bool → List (List ℕ) → RowFixes → Bool
is_fix_selected broken packages r = broken || not (has_name r.package_id packages)

-- ---- a row's part

abbrev pub selected_of : Bool → List (List ℕ) → RowFixes → List FileFixes
selected_of broken packages r = if is_fix_selected broken packages r then r.fixes else []

abbrev pub stale_of : Bool → List (List ℕ) → RowFixes → List (List ℕ)
stale_of broken packages r = if is_fix_selected broken packages r then r.stale else []

-- The package, if its fixes are skipped.
abbrev pub left_of : Bool → List (List ℕ) → RowFixes → List (List ℕ)
left_of broken packages r =
    if is_fix_selected broken packages r then [] else if length r.fixes == 0 then [] else r.package_id ∷ []

-- ---- all rows

-- The selected fixes.
abbrev pub selected_fixes : Bool → List RowFixes → List FileFixes
selected_fixes broken rows = flat_map (selected_of broken (broken_packages rows)) rows

-- What is skipped, each once: packages whose fixes aren't selected, and files that changed since they were compiled.
pub record SkippedFixes : Type 0 where
  pub packages : List (List ℕ)
  pub files : List (List ℕ)

abbrev pub skipped_fixes : Bool → List RowFixes → SkippedFixes
skipped_fixes broken rows = record {
  packages = each_once (flat_map (left_of broken (broken_packages rows)) rows);
  files = each_once (flat_map (stale_of broken (broken_packages rows)) rows);
}
