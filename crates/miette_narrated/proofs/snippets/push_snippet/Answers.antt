use Rattle.std.proofs.Common.{◌+◌, string_bytes}
use Rattle.std.proofs.lemmas.Result.{on_ok_weaker}
use Rattle.miette_labels.specs.rules.Contexts.{lines_of_contents}
use Rattle.miette_narrated.specs.rules.Lines.{narrated_lines_rows}
use Rattle.miette_narrated.specs.steps.Conversions.{ranges_of}
use Rattle.miette_narrated.specs.rules.Snippets.{begin_rows}
use Rattle.miette_narrated.proofs.Putting.{then}
use Rattle.miette_narrated.proofs.snippets.push_snippet.Goals as goal

pub returns-clause-rows : goal.returns-clause-rows
returns-clause-rows c =
    let contents = c.args.contents.now in
    let told = ranges_of c.args.walk.now.order.placed.now in
    on_ok_weaker c.push_lines.result (λ h. then (string_bytes c.args.out.now) (string_bytes c.push_begin.new.out)
    (string_bytes c.push_lines.new.out) (begin_rows contents)
    (narrated_lines_rows told contents (contents.line + 1) (lines_of_contents contents))
    c.in_ok-push_begin.ensures h) c.push_lines.ensures.rows
