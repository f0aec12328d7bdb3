use Rattle.std.proofs.Common.{◌≡◌, ◌+◌, fold, drop}
use Rattle.miette_runs.specs.steps.Cells.{code_columns}
use Rattle.miette_runs.specs.rules.Cells.{width}
use Rattle.miette_runs.proofs.runs.columns.token_columns.Given as goal

abbrev pub invariant-loop-code : goal.invariant-loop-code
invariant-loop-code l = fold (λ a c. a + width c) l.total (drop l.code-index l.code-items)
    ≡ code_columns l.runs.codes.now
