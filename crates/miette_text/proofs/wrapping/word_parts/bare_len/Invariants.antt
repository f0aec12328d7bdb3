use Rattle.std.proofs.Common.{◌≡◌, ◌≤◌, length, take}
use Rattle.miette_text.specs.steps.Ends.{bare_len}
use Rattle.miette_runs.specs.steps.Cells.{bare_cells}
use Rattle.miette_text.proofs.wrapping.word_parts.bare_len.Given as goal

abbrev pub invariant-rest : goal.invariant-rest
invariant-rest g l =
    let cs = g.C.Codes.codes l.row in record {
      same : bare_len (bare_cells (take l.n cs)) ≡ bare_len (bare_cells cs);
      within : l.n ≤ length cs;
    }

abbrev pub decreases-rest : goal.decreases-rest
decreases-rest g l = l.n
