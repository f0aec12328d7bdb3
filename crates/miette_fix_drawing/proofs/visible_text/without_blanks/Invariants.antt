use Rattle.std.proofs.Common.{◌≡◌, ◌≤◌, length, take}
use Rattle.miette_fix_rows.specs.rules.DiffTexts.{without_blanks}
use Rattle.miette_fix_drawing.proofs.visible_text.without_blanks.Given as goal

abbrev pub invariant-loop-len : goal.invariant-loop-len
invariant-loop-len l = record {
  within : l.len ≤ length l.seen;
  told : without_blanks (take l.len l.seen) ≡ without_blanks l.seen;
}

abbrev pub decreases-loop-len : goal.decreases-loop-len
decreases-loop-len l = l.len
