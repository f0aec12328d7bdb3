use Rattle.std.proofs.Common.{map, string_bytes, take}
use Rattle.miette_show_rows.specs.views.FixSelection.{AddsNames}
use Rattle.miette_show_rows.proofs.selected_fixes.add_names.Given as goal

-- those that are passed
abbrev pub invariant-loop-name : goal.invariant-loop-name
invariant-loop-name l = AddsNames l.initial.names l.names (map string_bytes (take l.name-index l.more))
