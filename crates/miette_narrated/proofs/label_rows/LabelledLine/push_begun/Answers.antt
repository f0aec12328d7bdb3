use Rattle.std.proofs.Common.{sym, ap, ◌∙◌, ◌++◌, string_bytes, codes}
use Rattle.std.proofs.lemmas.Result.{on_ok_weaker}
use Rattle.miette_narrated.specs.rules.Labels.{column_row}
use Rattle.miette_narrated.specs.steps.Conversions.{range_of, narrated_line}
use Rattle.miette_narrated.proofs.LabelRows.{begun_here}
use Rattle.miette_narrated.proofs.label_rows.LabelledLine.push_begun.Goals as goal

pub returns : goal.returns
returns c =
    let it = narrated_line c.args.self.now.line.now in
    let d = range_of c.args.label.now in
    on_ok_weaker c.push_column.result (λ h. h
    ∙ ap (λ n. string_bytes c.args.out.now ++ column_row (codes "    label starting at line ") it n d)
    c.in_ok-first.ensures
    ∙ ap (λ row. string_bytes c.args.out.now ++ row) (sym (begun_here it d
    (sym c.ends_before.ensures ∙ c.if-ends_before.false)
    (sym c.begins_before_text_end.ensures ∙ c.if-not-begins_before_text_end.false)))) c.push_column.ensures
