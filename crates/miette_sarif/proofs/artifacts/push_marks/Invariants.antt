use Rattle.std.proofs.Common.{◌≡◌, ◌++◌, map, drop}
use Rattle.miette_sarif.specs.rules.Artifacts.{named_in_marks}
use Rattle.miette_sarif.specs.views.Findings.{mark_of, source_names_of}
use Rattle.miette_sarif.proofs.artifacts.push_marks.Given as goal

abbrev pub invariant-loop-mark : goal.invariant-loop-mark
invariant-loop-mark l = source_names_of l.names.items ++ named_in_marks (map mark_of (drop l.mark-index l.locations))
    ≡ source_names_of l.fn.names.items ++ named_in_marks (map mark_of l.locations)
