use Rattle.std.proofs.Common.{Bor, []}
use Rattle.serde_json.specs.View.{view}
use Rattle.serde_json.specs.declared.value.Value.{Value}
use Rattle.miette_read.proofs.Steps.{flat_more}
use Rattle.miette_show_rows.specs.rules.ApplicableFixes.{child_fixes}
use Rattle.miette_show_rows.proofs.applicable_fixes.children_fixes.Goals as goal

pub loop-child-preserved : goal.loop-child-preserved
loop-child-preserved g c =
    let l = c.loop-child in
    flat_more (λ (v : Bor Value). view v.now) c.args.children.now l.child-index c.child-item.result
    c.loop-child-test.true c.child-item.is (child_fixes (g.F.Files.found c.args.files.now)) [] l.list.items
    c.push_child.new.list.items c.in_ok-push_child.ensures l.invariant
