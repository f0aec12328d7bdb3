use Rattle.std.proofs.Common.{ap, ◌∙◌, ◌++◌, ◌∷◌, [], string_bytes, map, refl}
use Rattle.miette_brief.specs.rules.Rows.{brief_rows_text}
use Rattle.miette_brief.specs.rules.Report.{cause_row}
use Rattle.miette_brief.specs.steps.Conversions.{brief_location_of}
use Rattle.miette_brief.proofs.Putting.{rows_more}
use Rattle.miette_brief.proofs.report.push_cause_texts.Goals as goal

pub loop-text-preserved : goal.loop-text-preserved
loop-text-preserved c =
    let at = brief_location_of c.args.at in
    rows_more (λ s. cause_row at (string_bytes s) ∷ []) (λ xs. map (cause_row at) (map string_bytes xs))
    c.args.texts.now c.loop-text.text-index c.text-item.result c.text-item.result
    (string_bytes c.loop-text.out) (string_bytes c.push_row.new.out) _ (λ x more. refl) c.loop-text-test.true
    c.text-item.is
    (c.in_ok-push_row.ensures ∙ ap (λ t. string_bytes c.loop-text.out ++ brief_rows_text (cause_row at t ∷ []))
    c.as_str.ensures.value) c.loop-text.invariant
