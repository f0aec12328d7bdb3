use Rattle.std.proofs.Common.{refl}
use Rattle.miette_brief.specs.rules.Fixes.{brief_fix_rows, brief_fixes_rows}
use Rattle.miette_brief.specs.steps.Conversions.{brief_location_of, brief_origin_of}
use Rattle.miette_brief.proofs.Putting.{rows_more}
use Rattle.miette_brief.proofs.fixes.push_each.Goals as goal

pub loop-fix-preserved : goal.loop-fix-preserved
loop-fix-preserved c =
    let at = brief_location_of c.args.at in
    let over = brief_origin_of c.args.over in
    rows_more (λ p. brief_fix_rows at over p) (λ ps. brief_fixes_rows at over ps) c.args.fixes.now c.loop-fix.fix-index
    c.fix-item.result c.fix-item.result _ _ _ (λ p more. refl) c.loop-fix-test.true c.fix-item.is
    c.in_ok-push_fix.ensures c.loop-fix.invariant
