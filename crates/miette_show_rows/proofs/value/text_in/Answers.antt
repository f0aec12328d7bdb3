use Rattle.std.proofs.Common.{◌∙◌, IsUtf8, subst, sym}
use Rattle.miette_show_rows.proofs.MarkSteps.{text_marked, text_unmarked}
use Rattle.miette_show_rows.proofs.value.text_in.Goals as goal

pub returns-in-Ok-clause-some : goal.returns-in-Ok-clause-some
returns-in-Ok-clause-some c = (
  text_marked c.args.row.now (subst IsUtf8 c.without_byte_order_mark.ensures c.in-Ok.ensures.cases.1),
  c.in-Ok.ensures.cases.0 ∙ c.without_byte_order_mark.ensures,
)

pub returns-in-Err-clause-none : goal.returns-in-Err-clause-none
returns-in-Err-clause-none c = λ none text.
    c.in-Err.ensures.cases.0 (subst IsUtf8 (sym c.without_byte_order_mark.ensures) (text_unmarked c.args.row.now text))
