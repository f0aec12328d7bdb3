use Rattle.std.proofs.Common.{◌≡◌, ◌≤◌, length, take}
use Rattle.miette_fix_rows.specs.rules.DiffTexts.{without_blanks}
use Rattle.miette_fix_drawing.proofs.visible_text.without_spaces.Given as goal

abbrev pub invariant-loop-len : goal.invariant-loop-len
invariant-loop-len l = record {
  within : l.len ≤ length l.text;
  told : without_blanks (take l.len l.text) ≡ without_blanks l.text;
}

abbrev pub decreases-loop-len : goal.decreases-loop-len
decreases-loop-len l = l.len
