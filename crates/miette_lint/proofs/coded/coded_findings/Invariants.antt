use Rattle.std.proofs.Common.{length, map}
use Rattle.std.specs.List.{flat_map}
use Rattle.miette_lines.specs.rules.Lines.{lines_of}
use Rattle.miette_lint.specs.rules.FindingWithFixes.{line_coded}
use Rattle.miette_lint.specs.views.Found.{coded_of}
use Rattle.miette_lint.proofs.FindingSteps.{AreLeft}
use Rattle.miette_lint.proofs.coded.coded_findings.Given as goal

abbrev pub invariant-loop-line : goal.invariant-loop-line
invariant-loop-line l = AreLeft (line_coded l.source l.width l.rules.ending.now) (length l.source) l.line-iterator
    (map coded_of l.found.items) (flat_map (line_coded l.source l.width l.rules.ending.now) (lines_of l.source))
