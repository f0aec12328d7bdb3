use Rattle.std.proofs.Common.{◌+◌, ap, drop, map, refl}
use Rattle.miette_sarif.specs.rules.Artifacts.{named_in_fixes}
use Rattle.miette_sarif.specs.views.Findings.{source_name_of, source_names_of, applicable_fix_of}
use Rattle.miette_sarif.proofs.Gathers.{next_in}
use Rattle.miette_sarif.proofs.Keys.{one_pushed}
use Rattle.miette_sarif.proofs.artifacts.push_fixes.Goals as goal

pub loop-fix-preserved : goal.loop-fix-preserved
loop-fix-preserved c =
    let l = c.loop-fix in
    one_pushed (source_names_of l.names.items) (source_names_of c.push_source.new.names.items)
    (source_name_of c.fix-item.result.source) _
    (named_in_fixes (map applicable_fix_of (drop l.fix-index c.args.fixes.now)))
    (named_in_fixes (map applicable_fix_of (drop (l.fix-index + 1) c.args.fixes.now))) _ c.in_ok-push_source.ensures
    refl
    (ap named_in_fixes (next_in applicable_fix_of c.args.fixes.now l.fix-index c.fix-item.result c.loop-fix-test.true
    c.fix-item.is)) l.invariant
