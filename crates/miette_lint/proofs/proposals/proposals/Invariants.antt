use Rattle.std.proofs.Common.{length}
use Rattle.std.specs.List.{flat_map}
use Rattle.miette_lines.specs.rules.Lines.{lines_of}
use Rattle.miette_lint.specs.rules.Fixes.{line_fixes}
use Rattle.miette_lint.proofs.FindingSteps.{AreLeft}
use Rattle.miette_lint.proofs.proposals.proposals.Given as goal

abbrev pub invariant-loop-line : goal.invariant-loop-line
invariant-loop-line l = AreLeft (line_fixes l.source l.ending) (length l.source) l.line-iterator l.fixes.items
    (flat_map (line_fixes l.source l.ending) (lines_of l.source))
