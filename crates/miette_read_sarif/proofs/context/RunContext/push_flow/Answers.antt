use Rattle.std.proofs.Common.{◌++◌, Bor}
use Rattle.std.specs.List.{flat_map}
use Rattle.serde_json.specs.View.{view}
use Rattle.serde_json.specs.declared.value.Value.{Value}
use Rattle.miette_read.proofs.Steps.{flat_more}
use Rattle.miette_read_sarif.specs.rules.Results.{thread_annotations}
use Rattle.miette_read_sarif.specs.views.RunContexts.{run_context}
use Rattle.miette_read_sarif.proofs.Steps.{made_of_all}
use Rattle.miette_read_sarif.proofs.context.RunContext.push_flow.Goals as goal

pub loop-thread-preserved : goal.loop-thread-preserved
loop-thread-preserved g c =
    let l = c.loop-thread in
    flat_more (λ (v : Bor Value). view v.now) c.as_slice-thread-items.result.now l.thread-index c.thread-item.result
    c.loop-thread-test.true c.thread-item.is (thread_annotations (run_context g.F.Files.found c.args.self.now))
    c.args.list.now.items l.list.items c.push_thread.new.list.items c.in_ok-push_thread.ensures l.invariant

pub returns : goal.returns
returns g c =
    let told = thread_annotations (run_context g.F.Files.found c.args.self.now) in
    made_of_all (λ (v : Bor Value). view v.now) (λ ds. c.args.list.now.items ++ flat_map told ds)
    c.as_slice-thread-items.result.now _ c.loop-thread.thread-index _ _ c.loop-thread-test.false
    c.as_slice-thread-items.ensures.value c.in_ok-threads.ensures c.loop-thread.invariant
