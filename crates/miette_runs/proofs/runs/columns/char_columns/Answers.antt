use Rattle.std.proofs.Common.{◌≡◌, ℕ, ◌<◌, ◌≤◌, arith}
use Rattle.std.proofs.lemmas.Bool.Decides.{nat_tests}
use Rattle.unicode_width.specs.Width.{char_width}
use Rattle.miette_runs.specs.rules.Cells.{width}
use Rattle.miette_runs.proofs.runs.columns.char_columns.Goals as goal

printed : (c : ℕ) → 32 ≤ c → c < 127 → 1 ≡ width c
unfolding char_width
printed c h k = grind (arith, nat_tests)

pub returns-then-c-lt127 : goal.returns-then-c-lt127
returns-then-c-lt127 c = printed c.args.c (omega arith) (omega arith)
