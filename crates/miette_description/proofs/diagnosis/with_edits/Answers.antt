use Rattle.std.proofs.Common.{◌≡◌, List, [], ◌∷◌, append_assoc, sym, ap, ◌∙◌}
use Rattle.miette_fixes.specs.rules.Edits.{FixModel, Replacement}
use Rattle.miette_description.specs.rules.Members.{edit_of}
use Rattle.miette_description.specs.steps.OptionalParts.{edited}
use Rattle.miette_description.proofs.Lists.{one_made}
use Rattle.miette_description.proofs.diagnosis.with_edits.Goals as goal

edited_more : (fix : FixModel) (edit : Replacement) (edits : List Replacement) → edited fix (edit ∷ edits)
    ≡ edited (edited fix (edit ∷ [])) edits
edited_more fix edit edits = ap (λ es. record fix { edits = es }) (sym (append_assoc fix.edits (edit ∷ []) edits))

pub loop-item-preserved : goal.loop-item-preserved
loop-item-preserved c =
    let old = c.loop-item.fixed in
    one_made edit_of c.args.list.now (edited c.args.fix) (edited old) (edited c.in_ok-fixed.fixed)
    c.loop-item.item-index c.item-item.result c.in_ok-edit.edit c.loop-item-test.true c.item-item.is
    c.in_ok-edit.ensures.ok
    (λ edits. edited_more old c.in_ok-edit.edit edits ∙ ap (λ f. edited f edits) (sym c.in_ok-fixed.ensures))
    c.loop-item.invariant
