use Rattle.std.proofs.Common.{◌≡◌, ◌++◌, ◌+◌, ◌-◌, replicate}
use Rattle.miette_style.proofs.page.push_each.Given as goal

abbrev pub invariant-loop-i : goal.invariant-loop-i
invariant-loop-i g l =
    g.O.Canvas.written l.out ≡ g.O.Canvas.written l.fn.out ++ replicate ((l.many - l.left) + l.i) l.character
