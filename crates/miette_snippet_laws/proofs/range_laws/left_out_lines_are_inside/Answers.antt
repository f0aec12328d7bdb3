use Rattle.std.proofs.Common.{◌+◌, Some, ◌∙◌}
use Rattle.miette_labels.specs.rules.Groups.{in_order}
use Rattle.miette_snippet_laws.proofs.Inside.{left_out_inside, left_out_same}
use Rattle.miette_snippet_laws.proofs.LeftOutPairs.{left_pairs}
use Rattle.miette_snippet_laws.proofs.FarInside.{left_far}
use Rattle.miette_snippet_laws.proofs.LeftOutRuns.{kept_ordered}
use Rattle.miette_snippet_laws.proofs.MaximalRanges.{around_ordered}
use Rattle.miette_snippet_laws.proofs.range_laws.left_out_lines_are_inside.Goals as goal

pub returns-clause-inside : goal.returns-clause-inside
returns-clause-inside c = λ ends styles limit context bytes labels k h there out.
    left_out_inside ends styles limit context bytes (in_order labels) k (around_ordered context labels h) there
    (kept_ordered (Some limit) context bytes labels k ∙ out)

pub returns-clause-same : goal.returns-clause-same
returns-clause-same c = λ ends styles limit context bytes labels k h there out next.
    left_out_same ends styles limit context bytes (in_order labels) k (around_ordered context labels h) there
    (kept_ordered (Some limit) context bytes labels k ∙ out)
    (kept_ordered (Some limit) context bytes labels (k + 1) ∙ next)

pub returns-clause-pairs : goal.returns-clause-pairs
returns-clause-pairs c = left_pairs

pub returns-clause-near : goal.returns-clause-near
returns-clause-near c = left_far
