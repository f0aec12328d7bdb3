use Rattle.std.proofs.Common.{◌≡◌, ◌++◌, map, string_bytes, take}
use Rattle.std.specs.List.{flat_map}
use Rattle.miette_show_rows.specs.rules.FixesFiles.{outdated_file_row}
use Rattle.miette_show_rows.proofs.skipped_fixes.push_files.Given as goal

-- the rows of those that are passed
abbrev pub invariant-loop-name : goal.invariant-loop-name
invariant-loop-name l = string_bytes l.text
    ≡ string_bytes l.initial.text ++ flat_map outdated_file_row (map string_bytes (take l.name-index l.names))
