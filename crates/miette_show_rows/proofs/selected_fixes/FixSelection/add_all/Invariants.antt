use Rattle.std.proofs.Common.{ℕ, List}
use Rattle.miette_show_rows.specs.views.FixSelection.{SelectsFixes, HasNames}
use Rattle.miette_show_rows.proofs.selected_fixes.FixSelection.add_all.Given as goal

-- what counts of the rows that are passed
abbrev pub invariant-loop-row : goal.invariant-loop-row
invariant-loop-row l = (names : List (List ℕ)) → HasNames l.packages names
    → SelectsFixes l.initial.self l.self l.broken names l.yielded
