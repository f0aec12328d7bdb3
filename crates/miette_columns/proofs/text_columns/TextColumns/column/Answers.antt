use Rattle.std.proofs.Common.{sym, ap, ◌∙◌}
use Rattle.miette_columns.specs.rules.Cells.{characters}
use Rattle.miette_columns.specs.rules.Columns.{column}
use Rattle.miette_columns.proofs.PlainColumns.{plain_column}
use Rattle.miette_columns.proofs.text_columns.TextColumns.column.Goals as goal

pub returns-then-self : goal.returns-then-self
returns-then-self c = c.min.ensures ∙ plain_column c.args.bytes c.self.inside.text.now
    (sym c.self.invariant.0 ∙ c.if-self.true) ∙ ap (λ t. column c.args.bytes (characters t)) c.self.view_is
