use Rattle.std.proofs.Common.{◌≡◌, take}
use Rattle.std.specs.List.{filter_map}
use Rattle.miette_read_sarif.specs.rules.Proposals.{found_suggestion}
use Rattle.miette_read_sarif.proofs.proposals.found_suggestions.Given as goal

abbrev pub invariant-loop-draft : goal.invariant-loop-draft
invariant-loop-draft g l =
    l.list.items ≡ filter_map (found_suggestion (g.F.Files.found l.files)) (take l.draft-index l.drafts)
