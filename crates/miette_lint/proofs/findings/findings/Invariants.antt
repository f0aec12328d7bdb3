use Rattle.std.proofs.Common.{length}
use Rattle.miette_lint.specs.rules.Findings.{findings_of, line_findings}
use Rattle.miette_lint.proofs.FindingSteps.{AreLeft}
use Rattle.miette_lint.proofs.findings.findings.Given as goal

abbrev pub invariant-loop-line : goal.invariant-loop-line
invariant-loop-line l = AreLeft (line_findings l.source l.width) (length l.source) l.line-iterator l.found.items
    (findings_of l.source l.width)
