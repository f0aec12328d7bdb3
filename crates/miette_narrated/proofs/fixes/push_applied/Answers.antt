use Rattle.std.proofs.Common.{ap, sym, ◌∙◌, ◌++◌, length, string_bytes}
use Rattle.std.proofs.lemmas.Result.{on_ok_weaker}
use Rattle.miette_fixes.specs.rules.Applying.{edits_error}
use Rattle.miette_fixes.specs.views.Ordered.{edits_of}
use Rattle.miette_fixes.proofs.Overlaps.{sorted_inside}
use Rattle.miette_tree.proofs.Refusals.{applied_inside}
use Rattle.miette_narrated.proofs.Fixing.{outside_told}
use Rattle.miette_narrated.proofs.fixes.push_applied.Goals as goal

pub push_edits-requires : goal.push_edits-requires
push_edits-requires c =
    let edits = c.args.edits.now in
    sorted_inside (length c.args.source.now) edits (edits_of c.deref.result.now)
    (ap edits_of c.deref.ensures.value ∙ c.in-Ok.ensures.ok.1)
    (applied_inside (length c.args.source.now) edits
    (ap (λ bs. edits_error (length bs) edits) (sym c.bytes.ensures) ∙ c.in-Ok.ensures.ok.0))

pub returns-in-Err-OutOfBounds : goal.returns-in-Err-OutOfBounds
returns-in-Err-OutOfBounds c =
    on_ok_weaker c.push_failure.result (λ h. h ∙ ap (λ x. string_bytes c.args.out.now ++ x)
    (outside_told c.args.source.now c.bytes.result.now c.args.edits.now c.in-Err-OutOfBounds.field-0 c.bytes.ensures
    c.in-Err-OutOfBounds.ensures.refused c.in-Err-OutOfBounds.field-0-is)) c.push_failure.ensures
