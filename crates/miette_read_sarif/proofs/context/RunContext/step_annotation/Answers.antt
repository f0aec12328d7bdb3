use Rattle.std.proofs.Common.{ℕ, List, Some, false, ap, ◌∙◌}
use Rattle.serde_json.specs.View.{view}
use Rattle.miette_read.specs.rules.Places.{Annotation}
use Rattle.miette_read_sarif.specs.rules.Results.{file_of, region_of, step_annotation_by, step_row, annotation_in_file}
use Rattle.miette_read_sarif.specs.views.RunContexts.{run_context}
use Rattle.miette_read_sarif.proofs.Returned.{returned}
use Rattle.miette_read_sarif.proofs.context.RunContext.step_annotation.Goals as goal

pub returns : goal.returns
returns g c =
    let context = run_context g.F.Files.found c.args.self.now in
    let l = view c.in-Some.location.now in
    returned c.annotation_in_file.result (λ (t : Annotation). t) _ _
    (ap (λ (row : List ℕ). annotation_in_file context (Some row) false false (file_of context l) (region_of l))
    (c.in_ok-row.ensures ∙ ap (step_row c.args.number) c.in_ok-text.ensures)
    ∙ ap (step_annotation_by context c.args.number) c.in-Some.ensures) c.annotation_in_file.ensures
