use Rattle.std.proofs.Common.{ap, ◌∙◌, ◌++◌, string_bytes, codes, map, refl}
use Rattle.miette_narrated.specs.rules.Labels.{row}
use Rattle.miette_narrated.specs.rules.Report.{cause_rows}
use Rattle.miette_narrated.proofs.Putting.{rows_more}
use Rattle.miette_narrated.proofs.report.push_causes.Goals as goal

pub loop-text-preserved : goal.loop-text-preserved
loop-text-preserved g c =
    rows_more (λ s. row (codes "    Caused by: " ++ string_bytes s)) (λ xs. cause_rows (map string_bytes xs))
    c.cause_texts-text-items.result.now c.loop-text.text-index c.text-item.result
    (string_bytes c.loop-text.out) (string_bytes c.push_row-in-loop-text.new.out) _ (λ x more. refl)
    c.loop-text-test.true c.text-item.is
    (c.in_ok-push_row-2.ensures ∙ ap (λ t. string_bytes c.loop-text.out ++ row (codes "    Caused by: " ++ t))
    c.as_str.ensures.value) c.loop-text.invariant
