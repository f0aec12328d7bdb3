use Rattle.std.proofs.Common.{ap₂, ◌∙◌, ◌++◌, string_bytes, codes}
use Rattle.std.specs.Prelude.{decimal}
use Rattle.std.proofs.lemmas.Result.{on_ok_weaker}
use Rattle.miette_narrated.specs.rules.Labels.{columns_text, text_after, first_number, last_number}
use Rattle.miette_narrated.specs.steps.Conversions.{range_of, narrated_line}
use Rattle.miette_narrated.proofs.Putting.{label_put}
use Rattle.miette_narrated.proofs.label_rows.LabelledLine.push_whole.Goals as goal

pub returns : goal.returns
returns c =
    let it = narrated_line c.args.self.now.line.now in
    let d = range_of c.args.label.now in
    on_ok_weaker c.push_end.result (λ h. label_put (string_bytes c.args.out.now) (string_bytes c.push_number.new.out)
    (string_bytes c.push_columns.new.out) (string_bytes c.push_end.new.out)
    (codes "    label at line ") (decimal it.number) (columns_text (first_number it d.start)
    (last_number it d.start d.after)) (text_after d.text)
    c.in_ok-push_number.ensures
    (c.in_ok-push_columns.ensures ∙ ap₂ (λ a b. string_bytes c.push_number.new.out ++ columns_text a b)
    c.in_ok-first.ensures c.in_ok-last.ensures)
    h) c.push_end.ensures
