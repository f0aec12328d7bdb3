use Rattle.std.proofs.Common.{take}
use Rattle.std.specs.List.{flat_map}
use Rattle.miette_show_rows.specs.rules.Packages.{broken_package}
use Rattle.miette_show_rows.specs.views.FixSelection.{HasNames}
use Rattle.miette_show_rows.proofs.selected_fixes.broken_packages.Given as goal

-- those of the rows that are passed
abbrev pub invariant-loop-row : goal.invariant-loop-row
invariant-loop-row l = HasNames l.names (flat_map broken_package (take l.row-index l.rows))
