use Rattle.std.proofs.Common.{[], Bor}
use Rattle.std.specs.List.{flat_map}
use Rattle.serde_json.specs.View.{view}
use Rattle.serde_json.specs.declared.value.Value.{Value}
use Rattle.miette_read.proofs.Steps.{flat_more}
use Rattle.miette_read_sarif.specs.rules.Proposals.{change_edits}
use Rattle.miette_read_sarif.specs.views.RunContexts.{run_context}
use Rattle.miette_read_sarif.proofs.Steps.{made_of_all}
use Rattle.miette_read_sarif.proofs.context.RunContext.draft_edits.Goals as goal

pub loop-change-preserved : goal.loop-change-preserved
loop-change-preserved g c =
    let l = c.loop-change in
    flat_more (λ (v : Bor Value). view v.now) c.as_slice-change-items.result.now l.change-index c.change-item.result
    c.loop-change-test.true c.change-item.is (change_edits (run_context g.F.Files.found c.args.self.now)) []
    l.list.items c.push_change.new.list.items c.in_ok-push_change.ensures l.invariant

pub returns : goal.returns
returns g c =
    made_of_all (λ (v : Bor Value). view v.now) (flat_map (change_edits (run_context g.F.Files.found c.args.self.now)))
    c.as_slice-change-items.result.now _ c.loop-change.change-index _ _ c.loop-change-test.false
    c.as_slice-change-items.ensures.value c.in_ok-changes.ensures c.loop-change.invariant
