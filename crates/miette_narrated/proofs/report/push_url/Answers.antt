use Rattle.std.proofs.Common.{codes, string_bytes}
use Rattle.std.proofs.lemmas.Result.{on_ok_weaker}
use Rattle.miette_narrated.specs.rules.Labels.{row}
use Rattle.miette_narrated.proofs.Putting.{then}
use Rattle.miette_narrated.proofs.report.push_url.Goals as goal

pub returns-in_ok-push_row : goal.returns-in_ok-push_row
returns-in_ok-push_row c =
    on_ok_weaker c.push_row-in-Some.result (λ h. rw c.in-Some.is
    (then (string_bytes c.args.out.now) (string_bytes c.push_row.new.out) (string_bytes c.push_row-in-Some.new.out)
    (row (codes "For more details, see:")) (row c.in-Some.url.now) c.in_ok-push_row.ensures h))
    c.push_row-in-Some.ensures
