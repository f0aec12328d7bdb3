use Rattle.std.proofs.Common.{◌≡◌, ◌++◌, drop}
use Rattle.miette_labels.specs.rules.Groups.{merged_data_spans, merged_spans_from}
use Rattle.miette_labels.proofs.data_spans.merge_spans.Given as goal

abbrev pub invariant-loop-span : goal.invariant-loop-span
invariant-loop-span l = l.done.items ++ merged_spans_from l.before (drop l.span-index l.rest)
    ≡ merged_data_spans l.spans
