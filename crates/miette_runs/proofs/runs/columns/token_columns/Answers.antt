use Rattle.std.proofs.Common.{◌≡◌, ◌∙◌, ◌+◌, ap, fold, sym}
use Rattle.std.proofs.Math.ListN.{drop_of_length-le}
use Rattle.miette_runs.specs.steps.Cells.{code_columns}
use Rattle.miette_runs.specs.rules.Cells.{width}
use Rattle.miette_runs.proofs.InterleavedColumns.{woven-columns}
use Rattle.miette_runs.proofs.runs.columns.token_columns.Goals as goal

pub returns : goal.returns
returns c =
    let cs = c.args.runs.codes.now in
    let e : c.loop-code.total ≡ code_columns cs =
    ap (fold (λ a c. a + width c) c.loop-code.total) (sym (drop_of_length-le cs c.loop-code-test.false))
    ∙ c.loop-code.invariant in
    e ∙ woven-columns 0 cs c.args.runs.tags.now
