use Rattle.std.proofs.Common.{◌≡◌, ℕ, List, ap, sym, ◌∙◌, ◌++◌, string_bytes}
use Rattle.std.proofs.lemmas.Result.{on_ok_weaker}
use Rattle.miette_labels.specs.declared.placed.PlacedLabel.{PlacedLabel}
use Rattle.miette_narrated.specs.steps.Ends.{without_ranks}
use Rattle.miette_narrated.specs.rules.Labels.{label_rows}
use Rattle.miette_narrated.specs.steps.Conversions.{ranges_of, narrated_line}
use Rattle.miette_narrated.proofs.LabelRows.{rows_apart}
use Rattle.miette_narrated.proofs.Putting.{then}
use Rattle.miette_narrated.proofs.lines.push_inner.Goals as goal

pub returns : goal.returns
returns c =
    let it = narrated_line c.args.it.now in
    let order = c.args.order.now in
    let out = string_bytes c.args.out.now in
    let row = c.in_ok-row.row in
    let rows : List PlacedLabel → List ℕ = λ ps. label_rows it (ranges_of ps) in
    let same : (ps : List PlacedLabel) → label_rows (narrated_line row.line.now) (ranges_of ps) ≡ rows ps
    = λ ps. ap (λ line. label_rows (narrated_line line) (ranges_of ps)) c.in_ok-row.ensures in
    let q = string_bytes c.push_ends.new.out in
    on_ok_weaker c.push_labels.result (λ h. then out q (string_bytes c.push_labels.new.out) _ _
    (c.in_ok-push_ends.ensures
    ∙ ap (λ r. out ++ r) (same _ ∙ ap rows (ap without_ranks c.deref.ensures.value ∙ c.in_ok-ended.ensures)))
    (h ∙ ap (λ r. q ++ r) (same _ ∙ ap rows c.begun_on-begun.ensures))
    ∙ ap (λ r. out ++ r) (sym (rows_apart it order.placed.now c.requires.inner
    c.requires.order.ordered))) c.push_labels.ensures
