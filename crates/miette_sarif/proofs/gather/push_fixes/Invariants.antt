use Rattle.std.proofs.Common.{◌≡◌, drop}
use Rattle.miette_sarif.specs.steps.Gathering.{with_fixes}
use Rattle.miette_sarif.specs.views.FindingParts.{collected_of}
use Rattle.miette_sarif.specs.views.Sources.{over_of}
use Rattle.miette_sarif.proofs.gather.push_fixes.Given as goal

abbrev pub invariant-loop-fix : goal.invariant-loop-fix
invariant-loop-fix l = with_fixes (over_of l.seen) (drop l.fix-index l.fixes) (collected_of l.collected)
    ≡ with_fixes (over_of l.seen) l.fixes (collected_of l.fn.collected)
