use Rattle.std.proofs.Common.{◌≡◌, ◌++◌, length}
use Rattle.miette_show_rows.specs.rules.Visible.{mask_controls, visible_after}
use Rattle.miette_show_rows.proofs.mask_controls.mask_controls.Given as goal

-- what is written, and what is still to be, is all
abbrev pub invariant-loop-first : goal.invariant-loop-first
invariant-loop-first l = l.list.items ++ visible_after l.sign l.rest ≡ mask_controls l.bytes

abbrev pub decreases-loop-first : goal.decreases-loop-first
decreases-loop-first l = length l.rest
