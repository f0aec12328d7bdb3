use Rattle.std.proofs.Common.{◌++◌, Bor, refl}
use Rattle.std.specs.List.{flat_map}
use Rattle.serde_json.specs.View.{view}
use Rattle.serde_json.specs.declared.value.Value.{Value}
use Rattle.miette_read.proofs.Steps.{flat_more}
use Rattle.miette_read_sarif.specs.rules.Results.{flow_annotations}
use Rattle.miette_read_sarif.specs.views.RunContexts.{run_context}
use Rattle.miette_read_sarif.proofs.Steps.{made_of_all}
use Rattle.miette_read_sarif.proofs.context.RunContext.push_flows.Goals as goal

pub loop-flow-preserved : goal.loop-flow-preserved
loop-flow-preserved g c =
    let l = c.loop-flow in
    flat_more (λ (v : Bor Value). view v.now) c.args.flows.now l.flow-index c.flow-item.result c.loop-flow-test.true
    c.flow-item.is (flow_annotations (run_context g.F.Files.found c.args.self.now)) c.args.list.now.items l.list.items
    c.push_flow.new.list.items c.in_ok-push_flow.ensures l.invariant

pub returns : goal.returns
returns g c =
    let told = flow_annotations (run_context g.F.Files.found c.args.self.now) in
    made_of_all (λ (v : Bor Value). view v.now) (λ ds. c.args.list.now.items ++ flat_map told ds) c.args.flows.now _
    c.loop-flow.flow-index _ _ c.loop-flow-test.false refl refl c.loop-flow.invariant
