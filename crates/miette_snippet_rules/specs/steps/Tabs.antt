-- Text without tabs, which is printed as it is, and printable ASCII with tabs.
use Rattle.std.specs.Prelude.{ℕ, ◌+◌, ◌-◌, ◌%◌, List, [], ◌∷◌, ◌++◌, replicate, Bool, not, ◌||◌, if◌then◌else◌, ◌==◌}
use Rattle.miette_columns.specs.views.Printable.{is_printable}

abbrev pub is_untabbed : ℕ → Bool
is_untabbed code = not (code == 9)

abbrev pub is_tabbed : ℕ → Bool
is_tabbed byte = is_printable byte || byte == 9

-- what ASCII prints from a column on: a tab becomes spaces up to the next multiple of the tab width
abbrev pub tabbed_codes : ℕ → ℕ → List ℕ → List ℕ
tabbed_codes tab column [] = []
tabbed_codes tab column (b ∷ bytes) =
    if b == 9 then replicate (tab - column % tab) 32 ++ tabbed_codes tab (column + (tab - column % tab)) bytes
    else b ∷ tabbed_codes tab (column + 1) bytes
