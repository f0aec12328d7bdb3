use Rattle.std.proofs.Common.{◌∙◌, ◌++◌, Bor, ap, sym}
use Rattle.serde_json.specs.View.{view}
use Rattle.serde_json.specs.declared.value.Value.{Value}
use Rattle.miette_show_rows.specs.rules.ApplicableFixes.{applicable_edits}
use Rattle.miette_show_rows.proofs.Lists.{next_flat}
use Rattle.miette_show_rows.proofs.applicable_fixes.merged_suggestion.Goals as goal

pub loop-note_unread_row-preserved : goal.loop-note_unread_row-preserved
loop-note_unread_row-preserved g c =
    let l = c.loop-note_unread_row in
    let edits = applicable_edits (g.F.Files.found c.args.files.now) in
    c.in_ok-push_applicable.ensures ∙ ap (λ list. list ++ edits (view c.note_unread_row-item.result.now)) l.invariant
    ∙ sym (next_flat (λ (v : Bor Value). view v.now) c.args.children.now l.note_unread_row-index
    c.note_unread_row-item.result
    c.loop-note_unread_row-test.true c.note_unread_row-item.is edits)
