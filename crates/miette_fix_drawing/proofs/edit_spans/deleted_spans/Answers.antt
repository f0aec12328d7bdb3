use Rattle.std.proofs.Common.{◌≡◌, ◌+◌, ◌∷◌, ◌++◌, [], ap, sym, ◌∙◌, append_assoc, drop}
use Rattle.miette_fixes.specs.views.Ordered.{edits_of}
use Rattle.miette_fix_rows.specs.rules.DiffTexts.{deleted_spans}
use Rattle.miette_fix_drawing.proofs.Framing.{item_first}
use Rattle.miette_fix_drawing.proofs.edit_spans.deleted_spans.Goals as goal

pub loop-edit-preserved : goal.loop-edit-preserved
loop-edit-preserved c =
    let edits = c.args.edits.now in
    let i = c.loop-edit.edit-index in
    let made = c.loop-edit.list.items in
    let rest = deleted_spans (edits_of (drop (i + 1) edits)) in
    let items : drop i edits ≡ c.edit-item.result ∷ drop (i + 1) edits =
    item_first edits i c.edit-item.result c.loop-edit-test.true c.edit-item.is in
    ap (λ list. list ++ rest) c.in_ok-push.ensures.items ∙ append_assoc made (c.span.result.now ∷ []) rest
    ∙ ap (λ span. made ++ (span ∷ rest)) c.span.ensures
    ∙ ap (λ es. made ++ deleted_spans (edits_of es)) (sym items) ∙ c.loop-edit.invariant
