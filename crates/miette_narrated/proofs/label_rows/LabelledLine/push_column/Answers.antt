use Rattle.std.proofs.Common.{string_bytes, codes}
use Rattle.std.specs.Prelude.{decimal}
use Rattle.std.proofs.lemmas.Result.{on_ok_weaker}
use Rattle.miette_narrated.specs.rules.Labels.{text_after}
use Rattle.miette_narrated.specs.steps.Conversions.{range_of, narrated_line}
use Rattle.miette_narrated.proofs.Putting.{label_put_at}
use Rattle.miette_narrated.proofs.label_rows.LabelledLine.push_column.Goals as goal

pub returns : goal.returns
returns c =
    let it = narrated_line c.args.self.now.line.now in
    let d = range_of c.args.label.now in
    on_ok_weaker c.push_end.result (λ h. label_put_at (string_bytes c.args.out.now) (string_bytes c.push_number.new.out)
    (string_bytes c.push_number-2.new.out) (string_bytes c.push_end.new.out)
    c.args.words.now (decimal it.number) (codes ", column ") (decimal c.args.column) (text_after d.text)
    c.in_ok-push_number.ensures c.in_ok-push_number-2.ensures
    h) c.push_end.ensures
