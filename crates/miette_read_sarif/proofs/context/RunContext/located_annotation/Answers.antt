use Rattle.std.proofs.Common.{ℕ, List, Option, ap}
use Rattle.serde_json.specs.View.{view}
use Rattle.miette_read.specs.rules.Places.{Annotation}
use Rattle.miette_read_sarif.specs.rules.Results.{file_of, region_of, annotation_in_file}
use Rattle.miette_read_sarif.specs.views.RunContexts.{run_context}
use Rattle.miette_read_sarif.proofs.Returned.{returned}
use Rattle.miette_read_sarif.proofs.context.RunContext.located_annotation.Goals as goal

pub returns : goal.returns
returns g c =
    let context = run_context g.F.Files.found c.args.self.now in
    let l = view c.args.location.now in
    returned c.annotation_in_file.result (λ (t : Annotation). t) _ _
    (ap (λ (row : Option (List ℕ)). annotation_in_file context row c.args.primary c.args.own (file_of context l)
    (region_of l))
    c.in_ok-row.ensures) c.annotation_in_file.ensures
