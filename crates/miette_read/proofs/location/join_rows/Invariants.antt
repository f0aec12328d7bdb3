use Rattle.std.proofs.Common.{◌≡◌, map, take, string_bytes}
use Rattle.std.specs.List.{fold}
use Rattle.miette_read.specs.rules.Places.{row_after}
use Rattle.miette_read.proofs.location.join_rows.Given as goal

-- the first row and those that were passed
abbrev pub invariant-loop-row : goal.invariant-loop-row
invariant-loop-row l =
    string_bytes l.text ≡ fold row_after (string_bytes l.initial.text) (map string_bytes (take l.row-index l.rest))
