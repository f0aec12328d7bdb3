use Rattle.std.proofs.Common.{[], ◌∷◌, ◌∙◌, ap, map, refl, sym}
use Rattle.std.proofs.lemmas.List.{map-append}
use Rattle.std.proofs.lemmas.Result.{IfOk-weaker}
use Rattle.miette_sarif.specs.steps.Drafts.{begun, with_edit}
use Rattle.miette_sarif.specs.views.DraftValue.{draft_of}
use Rattle.miette_sarif.proofs.Drafting.{draft_joined, draft_next}
use Rattle.miette_sarif.proofs.edits.next_draft.Goals as goal

pub returns-then-meets : goal.returns-then-meets
returns-then-meets c =
    let stretch = c.in_ok-stretch.stretch in
    let before = draft_of c.args.before in
    let edit = c.args.edit.now in
    IfOk-weaker c.with_edit.result _ _ (λ it is more.
    draft_joined c.args.text.now (map draft_of c.args.done.now.items) before (draft_of it) edit (edit ∷ more) more
    stretch _ refl c.in_ok-stretch.ensures (sym c.meets.ensures ∙ c.if-meets.true)
    (is ∙ ap (λ b. with_edit b stretch before edit) c.bytes.ensures) refl) c.with_edit.ensures

pub returns : goal.returns
returns c =
    let stretch = c.in_ok-stretch.stretch in
    let done = c.args.done.now.items in
    let edit = c.args.edit.now in
    IfOk-weaker c.begun.result _ _ (λ it is more.
    draft_next c.args.text.now (map draft_of done) _ (draft_of c.args.before) (draft_of it) edit
    (edit ∷ more) more stretch _ refl c.in_ok-stretch.ensures (sym c.meets.ensures ∙ c.if-meets.false)
    (is ∙ ap (λ b. begun b stretch edit) c.bytes-2.ensures)
    (ap (map draft_of) c.in_ok-push.ensures.items ∙ map-append draft_of done (c.args.before ∷ [])) refl)
    c.begun.ensures
