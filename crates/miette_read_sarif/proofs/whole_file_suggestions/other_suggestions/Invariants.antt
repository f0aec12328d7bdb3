use Rattle.std.proofs.Common.{◌≡◌, take}
use Rattle.std.specs.List.{filter_map}
use Rattle.miette_read_sarif.specs.rules.Wholes.{other_suggestion}
use Rattle.miette_read_sarif.proofs.whole_file_suggestions.other_suggestions.Given as goal

abbrev pub invariant-loop-draft : goal.invariant-loop-draft
invariant-loop-draft g l =
    l.list.items ≡ filter_map (other_suggestion (g.F.Files.found l.files) l.name) (take l.draft-index l.drafts)
