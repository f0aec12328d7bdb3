use Rattle.std.proofs.Common.{◌≡◌, take}
use Rattle.std.specs.List.{flat_map}
use Rattle.miette_read.specs.views.Values.{values_behind}
use Rattle.miette_show_rows.specs.rules.ApplicableFixes.{applicable_edits}
use Rattle.miette_show_rows.proofs.applicable_fixes.merged_suggestion.Given as goal

-- the edits of those that are passed
abbrev pub invariant-loop-note_unread_row : goal.invariant-loop-note_unread_row
invariant-loop-note_unread_row g l =
    l.edits.items ≡ flat_map (applicable_edits (g.F.Files.found l.files))
    (values_behind (take l.note_unread_row-index l.children))
