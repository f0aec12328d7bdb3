use Rattle.std.proofs.Common.{false, ap, ◌∙◌, refl}
use Rattle.std.specs.Prelude.{chars}
use Rattle.unicode_width.specs.Width.{str_width}
use Rattle.miette_columns.proofs.checkpoints.checkpoint_at.Goals as goal

pub returns-clause-bytes : goal.returns-clause-bytes
returns-clause-bytes c = refl

pub returns-clause-column : goal.returns-clause-column
returns-clause-column c = c.in_ok-column.ensures

pub returns-clause-widths : goal.returns-clause-widths
returns-clause-widths c = refl

pub returns-clause-overlap : goal.returns-clause-overlap
returns-clause-overlap c = refl

pub returns-clause-twice : goal.returns-clause-twice
returns-clause-twice c = c.width-twice.ensures.value ∙ ap (λ t. str_width false (chars t)) c.as_str.ensures.value
    ∙ ap (str_width false) c.in_ok-text.ensures
