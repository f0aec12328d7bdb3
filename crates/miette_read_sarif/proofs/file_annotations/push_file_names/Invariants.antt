use Rattle.std.proofs.Common.{◌≡◌, ◌++◌, map, string_bytes, take}
use Rattle.std.specs.List.{flat_map}
use Rattle.std.specs.Option.{option_copied}
use Rattle.miette_read_sarif.specs.rules.Wholes.{file_name_annotation}
use Rattle.miette_read_sarif.proofs.file_annotations.push_file_names.Given as goal

abbrev pub invariant-loop-name : goal.invariant-loop-name
invariant-loop-name l =
    l.list.items
    ≡ l.initial.list.items
    ++ flat_map (file_name_annotation (option_copied l.main)) (map string_bytes (take l.name-index l.names))
