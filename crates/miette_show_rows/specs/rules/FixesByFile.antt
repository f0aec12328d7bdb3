-- Fixes grouped by file.
use Rattle.std.specs.Prelude.{ℕ, List, [], ◌∷◌, ◌++◌, Bool, if◌then◌else◌, bytes_eq, map}
use Rattle.std.specs.List.{flat_map, fold, list_any}
use Rattle.miette_fixes.specs.rules.ApplyingAll.{all_applied}
use Rattle.miette_fixes.specs.rules.Edits.{FixModel}
use Rattle.miette_show_rows.specs.rules.ApplicableFixes.{FileFixes}

abbrev pub fixes_if : List ℕ → FileFixes → List FixModel
fixes_if name it = if bytes_eq it.name name then it.fixes else []

-- The fixes of one file, in order.
abbrev pub fixes_for : List ℕ → List FileFixes → List FixModel
fixes_for name all = flat_map (fixes_if name) all

abbrev pub has_name : List ℕ → List (List ℕ) → Bool
has_name name names = list_any (λ other. bytes_eq other name) names

abbrev pub with_name : List (List ℕ) → List ℕ → List (List ℕ)
with_name names name = if has_name name names then names else names ++ name ∷ []

-- Each name once, in the order of first appearance.
abbrev pub each_once : List (List ℕ) → List (List ℕ)
each_once names = fold with_name [] names

-- The names of the files with fixes.
abbrev pub fixed_file_names : List FileFixes → List (List ℕ)
fixed_file_names all = each_once (map (λ it. it.name) all)

-- The text of a file after all fixes that are taken.
abbrev pub text_after_fixes : List ℕ → List FixModel → List ℕ
text_after_fixes source fixes = all_applied source (map (λ fix. fix.edits) fixes)
