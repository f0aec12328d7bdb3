use Rattle.std.proofs.Common.{◌∙◌, ap, sym}
use Rattle.std.proofs.lemmas.Result.{IfOk-weaker}
use Rattle.miette_runs.specs.rules.Sequences.{spell, tokens}
use Rattle.miette_runs.specs.rules.Cells.{printed_columns}
use Rattle.miette_runs.proofs.runs.reading.printed_columns.Goals as goal

pub returns-then-is_canonical : goal.returns-then-is_canonical
returns-then-is_canonical c =
    IfOk-weaker c.token_columns.result _ _ (λ _ h. h
    ∙ ap printed_columns (sym (c.is_canonical.ensures.same c.if-is_canonical.true)
    ∙ ap (λ ts. tokens (spell ts)) c.parts-parts.ensures)) c.token_columns.ensures

pub returns : goal.returns
returns c =
    IfOk-weaker c.token_columns-2.result _ _ (λ _ h. h ∙ ap printed_columns (c.parts.ensures ∙ c.in_ok-again.ensures))
    c.token_columns-2.ensures
