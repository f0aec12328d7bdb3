use Rattle.std.proofs.Common.{[], List, Bor, map, string_bytes, ap, sym, ◌∙◌}
use Rattle.std.proofs.lemmas.List.{take_all}
use Rattle.serde_json.specs.View.{view}
use Rattle.serde_json.specs.declared.value.Value.{Value}
use Rattle.miette_read.specs.rules.RustcReport.{child_help_row, help_rows, helps}
use Rattle.miette_read.specs.rules.AnnotationLabels.{with_row}
use Rattle.miette_read.specs.views.Values.{values_behind}
use Rattle.miette_read.proofs.Steps.{fold_kept, fold_stays}
use Rattle.miette_read.proofs.message_parts.help_rows.Goals.{then-branch+in_ok-row+in_ok-push_row_once, else-branch}
use Rattle.miette_read.proofs.message_parts.help_rows.Goals as goal

pub loop-child-preserved : goal.loop-child-preserved
loop-child-preserved g c =
    let files = g.F.Files.found c.args.files.now in
    let l = c.loop-child in
    let look = λ (v : Bor Value). view v.now in
    let children = c.args.children.now in
    let old = map string_bytes l.rows.items in
    let new = map string_bytes c.if-branch.rows.items in
    elim c.if-branch.branch [
      | then-branch+in_ok-row+in_ok-push_row_once w ↦
          fold_kept look children l.child-index c.child-item.result c.loop-child-test.true c.child-item.is with_row []
          old new child_help_row (helps files) (sym c.in_ok-helps.ensures ∙ w.if-branch.true)
          (ap (λ v. map string_bytes v.items) w.rows-is ∙ w.in_ok-push_row_once.ensures
          ∙ ap (with_row old) (w.as_str.ensures.value ∙ w.in_ok-row.ensures)) l.invariant
      | else-branch w ↦
          fold_stays look children l.child-index c.child-item.result c.loop-child-test.true c.child-item.is with_row []
          new child_help_row (helps files) (sym c.in_ok-helps.ensures ∙ w.if-branch.false)
          (ap (λ v. map string_bytes v.items) w.rows-is ∙ l.invariant)
    ]

pub returns : goal.returns
returns g c =
    c.loop-child.invariant
    ∙ ap (λ (vs : List (Bor Value)). help_rows (g.F.Files.found c.args.files.now) (values_behind vs))
    (take_all c.loop-child.child-index c.args.children.now c.loop-child-test.false)
