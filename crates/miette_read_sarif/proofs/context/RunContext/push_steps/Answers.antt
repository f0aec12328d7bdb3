use Rattle.std.proofs.Common.{◌++◌, Bor, List, ap, ◌∙◌, refl, rules}
use Rattle.std.proofs.lemmas.List.{take_all}
use Rattle.serde_json.specs.View.{view}
use Rattle.serde_json.specs.declared.value.Value.{Value}
use Rattle.miette_read.specs.views.Values.{values_behind}
use Rattle.miette_read.proofs.Numbered.{one_more_told}
use Rattle.miette_read_sarif.specs.rules.Results.{step_annotation, step_annotations}
use Rattle.miette_read_sarif.specs.views.RunContexts.{run_context}
use Rattle.miette_read_sarif.proofs.context.RunContext.push_steps.Goals as goal

pub loop-step-preserved : goal.loop-step-preserved
loop-step-preserved g c =
    let l = c.loop-step in
    let context = run_context g.F.Files.found c.args.self.now in
    record {
      next = search rules;
      told = one_more_told (step_annotation context) (step_annotations context) (λ n. refl) (λ n d ds. refl)
          (λ (v : Bor Value). view v.now) c.args.steps.now l.step-index c.step-item.result c.loop-step-test.true
          c.step-item.is c.args.list.now.items l.list.items c.push_item.new.list.items l.number c.in_ok-spot.spot
          l.invariant.next c.in_ok-spot.ensures c.in_ok-push_item.ensures l.invariant.told;
    }

pub returns : goal.returns
returns g c =
    let steps = step_annotations (run_context g.F.Files.found c.args.self.now) 1 in
    c.loop-step.invariant.told
    ∙ ap (λ (vs : List (Bor Value)). c.args.list.now.items ++ steps (values_behind vs))
    (take_all c.loop-step.step-index c.args.steps.now c.loop-step-test.false)
