use Rattle.std.proofs.Common.{◌≡◌, ap, map, ◌∙◌}
use Rattle.std.proofs.lemmas.Result.{IfOk-weaker}
use Rattle.miette_fixes.specs.views.Ordered.{edits_of}
use Rattle.miette_sarif.specs.rules.Proposals.{applicable}
use Rattle.miette_sarif.specs.steps.Drafts.{made_of}
use Rattle.miette_sarif.specs.views.DraftValue.{draft_of}
use Rattle.miette_sarif.proofs.Finishing.{made_applicable}
use Rattle.miette_sarif.proofs.edits.applicable.Goals as goal

pub returns-in_ok-drafts-in-Ok : goal.returns-in_ok-drafts-in-Ok
returns-in_ok-drafts-in-Ok c =
    let ds = map draft_of c.in_ok-drafts-in-Ok.field-0.items in
    let same : made_of c.bytes-in-Ok.result.now ds ≡ applicable c.args.text.now c.args.edits.now =
    made_applicable c.args.text.now c.bytes.result.now c.bytes-in-Ok.result.now c.args.edits.now _ _ ds
    c.bytes.ensures c.bytes-in-Ok.ensures c.in-Ok.ensures.ok (ap edits_of c.deref.ensures.value)
    c.in_ok-drafts-in-Ok.ensures in
    IfOk-weaker c.replacements.result _ _ (λ made p. p ∙ same) c.replacements.ensures
