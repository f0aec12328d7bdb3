-- The model of skipped fixes.
use Rattle.std.specs.Prelude.{map, string_bytes}
use Rattle.miette_show_rows.specs.rules.Packages.{SkippedFixes}
use Rattle.miette_show_rows.specs.declared.selected_fixes.SelectedFixes.{SelectedFixes}

abbrev pub skipped_in : SelectedFixes → SkippedFixes
skipped_in it = record { packages = map string_bytes it.packages.items; files = map string_bytes it.files.items }
