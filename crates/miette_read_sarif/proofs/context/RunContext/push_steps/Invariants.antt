use Rattle.std.proofs.Common.{◌≡◌, ◌+◌, ◌++◌, take}
use Rattle.miette_read.specs.views.Values.{values_behind}
use Rattle.miette_read_sarif.specs.rules.Results.{step_annotations}
use Rattle.miette_read_sarif.specs.views.RunContexts.{run_context}
use Rattle.miette_read_sarif.proofs.context.RunContext.push_steps.Given as goal

-- the number of the next one, and what those that are passed tell
abbrev pub invariant-loop-step : goal.invariant-loop-step
invariant-loop-step g l = record {
  next : l.number ≡ l.step-index + 1;
  told : l.list.items
      ≡ l.initial.list.items
      ++ step_annotations (run_context g.F.Files.found l.self) 1 (values_behind (take l.step-index l.steps));
}
