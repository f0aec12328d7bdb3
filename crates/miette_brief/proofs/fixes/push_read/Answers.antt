use Rattle.std.proofs.Common.{◌≢◌, ◌≡◌, List, Some, ap, sym, subst, ◌∙◌, ◌++◌, length, string_bytes, option_copied}
use Rattle.std.proofs.Common.{codes}
use Rattle.std.proofs.lemmas.Result.{on_ok_weaker}
use Rattle.miette_fixes.specs.declared.error.FixError.TheVariants.{Memory}
use Rattle.miette_fixes.specs.rules.Applying.{edits_error}
use Rattle.miette_fixes.specs.rules.Edits.{Replacement}
use Rattle.miette_fixes.specs.views.Ordered.{edits_of}
use Rattle.miette_fixes.proofs.Overlaps.{sorted_inside}
use Rattle.miette_brief.specs.rules.Fixes.{failed_rows}
use Rattle.miette_brief.specs.rules.Rows.{brief_rows_text}
use Rattle.miette_brief.specs.steps.Conversions.{brief_location_of}
use Rattle.miette_tree.proofs.Refusals.{applied_inside}
use Rattle.miette_brief.proofs.Fixing.{outside_told}
use Rattle.miette_brief.proofs.fixes.push_read.Goals as goal

pub push_applied-requires : goal.push_applied-requires
push_applied-requires c =
    let edits = c.edits.result.now in
    sorted_inside (length c.args.text.lines.now) edits (edits_of c.deref.result.now)
    (ap edits_of c.deref.ensures.value ∙ c.in-Ok.ensures.ok.1)
    (applied_inside (length c.args.text.lines.now) edits
    (ap (λ bs. edits_error (length bs) edits) (sym c.bytes.ensures) ∙ c.in-Ok.ensures.ok.0))

pub returns-in-Err-OutOfBounds : goal.returns-in-Err-OutOfBounds
returns-in-Err-OutOfBounds c =
    let at = brief_location_of c.args.at in
    let e = c.in-Err-OutOfBounds.field-0 in
    let given = c.bytes.result.now in
    let refused = subst (λ (es : List Replacement). e ≢ Memory → edits_error (length given) es ≡ Some e) c.edits.ensures
    c.in-Err-OutOfBounds.ensures.refused in
    on_ok_weaker c.push_failed.result (λ h. h ∙ ap (λ rs. string_bytes c.args.out.now ++ brief_rows_text rs)
    (ap (λ m. failed_rows at m (codes "OutOfBounds")) c.message-in-Err-OutOfBounds.ensures
    ∙ outside_told at (option_copied c.args.text.name) c.args.text.lines.now given c.args.fix.now e c.bytes.ensures
    refused c.in-Err-OutOfBounds.field-0-is)) c.push_failed.ensures
