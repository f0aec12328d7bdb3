use Rattle.std.proofs.Common.{◌≡◌, None, find, map, string_bytes, take}
use Rattle.miette_read_sarif.specs.rules.Wholes.{is_there}
use Rattle.miette_read_sarif.proofs.file_annotations.first_there.Given as goal

-- none of those that are passed is there
abbrev pub invariant-loop-name : goal.invariant-loop-name
invariant-loop-name g l =
    find (is_there (g.F.Files.found l.files)) (map string_bytes (take l.name-index l.names)) ≡ None
