use Rattle.std.proofs.Common.{Bor, map, string_bytes}
use Rattle.serde_json.specs.View.{view}
use Rattle.serde_json.specs.declared.value.Value.{Value}
use Rattle.miette_read.proofs.Steps.{flat_more}
use Rattle.miette_show_rows.specs.rules.OutdatedFiles.{outdated_name}
use Rattle.miette_show_rows.proofs.outdated_files.push_among.Goals as goal

pub loop-span-preserved : goal.loop-span-preserved
loop-span-preserved g c =
    let l = c.loop-span in
    flat_more (λ (v : Bor Value). view v.now) c.args.spans.now l.span-index c.span-item.result
    c.loop-span-test.true c.span-item.is (outdated_name (g.F.Files.found c.args.files.now))
    (map string_bytes c.args.names.now.items) (map string_bytes l.names.items)
    (map string_bytes c.push_stale.new.names.items) c.in_ok-push_stale.ensures l.invariant
