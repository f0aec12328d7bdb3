use Rattle.std.proofs.Common.{length}
use Rattle.miette_snippet_cuts.specs.steps.Windows.{HasSkipped}
use Rattle.miette_snippet_cuts.proofs.window.pass_front.Given as goal

abbrev pub invariant-loop-window : goal.invariant-loop-window
invariant-loop-window l = HasSkipped l.end l.fn.window l.window

abbrev pub decreases-loop-window : goal.decreases-loop-window
decreases-loop-window l = length l.window.walk
