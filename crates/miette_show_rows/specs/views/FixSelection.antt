-- The models of names and fixes that are being collected.
use Rattle.std.specs.Prelude.{ℕ, List, [], Bool, map}
use Rattle.std.specs.List.{flat_map}
use Rattle.miette_show_rows.specs.rules.Packages.{selected_of, left_of, stale_of}
use Rattle.miette_show_rows.specs.rules.ApplicableFixes.{FileFixes, RowFixes}
use Rattle.miette_show_rows.specs.views.Holding.{AddsFixes, HoldsAll}
use Rattle.miette_show_rows.specs.declared.names.Names.{Names}
use Rattle.miette_show_rows.specs.declared.selected_fixes.FixSelection.{FixSelection}

-- A name without fixes.
abbrev pub bare : List ℕ → FileFixes
bare name = record { name = name; fixes = [] }

abbrev pub HasNames : Names → List (List ℕ) → Type 0
HasNames it names = HoldsAll it.table (map bare names)

-- The names are appended, each once.
abbrev pub AddsNames : Names → Names → List (List ℕ) → Type 0
AddsNames old new more = AddsFixes old.table new.table (map bare more)

-- The selected fixes of these lines are appended, and so is what is skipped. `packages` have errors.
pub record SelectsFixes (old new : FixSelection) (broken : Bool) (packages : List (List ℕ)) (rows : List RowFixes)
    : Type 0 where
  pub fixes : AddsFixes old.fixes new.fixes (flat_map (selected_of broken packages) rows)
  pub left : AddsNames old.packages new.packages (flat_map (left_of broken packages) rows)
  pub stale : AddsNames old.files new.files (flat_map (stale_of broken packages) rows)
