use Rattle.std.proofs.Common.{◌≡◌, drop}
use Rattle.miette_sarif.specs.rules.Artifacts.{untitled_after}
use Rattle.miette_sarif.specs.views.Findings.{source_names_of}
use Rattle.miette_sarif.proofs.artifacts.insert_untitled.Given as goal

abbrev pub invariant-loop-source : goal.invariant-loop-source
invariant-loop-source l = untitled_after l.untitled.keys (source_names_of (drop l.source-index l.names))
    ≡ untitled_after l.fn.untitled.keys (source_names_of l.names)
