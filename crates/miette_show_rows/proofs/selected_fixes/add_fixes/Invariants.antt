use Rattle.miette_show_rows.specs.views.Holding.{AddsFixes}
use Rattle.miette_show_rows.proofs.selected_fixes.add_fixes.Given as goal

-- those that are passed
abbrev pub invariant-loop-it : goal.invariant-loop-it
invariant-loop-it l = AddsFixes l.initial.gathered l.gathered l.yielded
