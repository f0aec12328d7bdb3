use Rattle.std.proofs.Common.{◌+◌, ◌++◌, ◌∙◌, ap, drop, map, sym}
use Rattle.miette_fixes.specs.rules.Edits.{Replacement}
use Rattle.miette_fixes.specs.views.Ordered.{edits_of}
use Rattle.miette_sarif.specs.steps.Drafts.{drafts_from}
use Rattle.miette_sarif.specs.views.DraftValue.{draft_of}
use Rattle.miette_sarif.proofs.Gathers.{next_in}
use Rattle.miette_sarif.proofs.edits.push_drafts.Goals as goal
use denote.Ref.{Bor}

pub loop-edit-preserved : goal.loop-edit-preserved
loop-edit-preserved c =
    let l = c.loop-edit in
    let rest = c.args.rest.now in
    let now : Bor Replacement → Replacement = λ e. e.now in
    let next = next_in now rest l.edit-index c.edit-item.result c.loop-edit-test.true c.edit-item.is in
    c.in_ok-before-2.ensures (edits_of (drop (l.edit-index + 1) rest))
    ∙ ap (λ es. map draft_of l.done.items ++ drafts_from c.args.text.now (draft_of l.before) es) (sym next)
    ∙ l.invariant
