use Rattle.std.proofs.Common.{◌≡◌, ◌≤◌, ◌++◌, ◌-◌, replicate}
use Rattle.miette_style.proofs.page.push_runs.Given as goal

abbrev pub invariant-loop-left : goal.invariant-loop-left
invariant-loop-left g l = record {
  within : l.left ≤ l.fn.many;
  text : g.O.Canvas.written l.out ≡ g.O.Canvas.written l.fn.out ++ replicate (l.fn.many - l.left) l.fn.character;
}

abbrev pub decreases-loop-left : goal.decreases-loop-left
decreases-loop-left g l = l.left
