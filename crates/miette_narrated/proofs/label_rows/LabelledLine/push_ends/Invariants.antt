use Rattle.std.proofs.Common.{◌≡◌, ◌++◌, string_bytes, drop}
use Rattle.miette_narrated.specs.steps.Ends.{without_ranks}
use Rattle.miette_narrated.specs.rules.Labels.{label_rows}
use Rattle.miette_narrated.specs.steps.Conversions.{ranges_of, narrated_line}
use Rattle.miette_narrated.proofs.label_rows.LabelledLine.push_ends.Given as goal

abbrev pub invariant-loop-end : goal.invariant-loop-end
invariant-loop-end l = string_bytes l.out ++ label_rows (narrated_line l.self.line.now)
    (ranges_of (without_ranks (drop l.end-index l.ends))) ≡ string_bytes l.fn.out
    ++ label_rows (narrated_line l.self.line.now) (ranges_of (without_ranks l.ends))
