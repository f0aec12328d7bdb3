use Rattle.std.proofs.Common.{Bor, [], map, string_bytes}
use Rattle.serde_json.specs.View.{view}
use Rattle.serde_json.specs.declared.value.Value.{Value}
use Rattle.miette_read.proofs.Steps.{flat_more}
use Rattle.miette_show_rows.specs.rules.OutdatedFiles.{outdated_in_child}
use Rattle.miette_show_rows.proofs.outdated_files.outdated_names.Goals as goal

pub loop-child-preserved : goal.loop-child-preserved
loop-child-preserved g c =
    let l = c.loop-child in
    flat_more (λ (v : Bor Value). view v.now) c.args.children.now l.child-index c.child-item.result
    c.loop-child-test.true c.child-item.is (outdated_in_child (g.F.Files.found c.args.files.now)) []
    (map string_bytes l.names.items) (map string_bytes c.push_child.new.names.items) c.in_ok-push_child.ensures
    l.invariant
