use Rattle.std.proofs.Common.{◌≡◌, ◌++◌, take, filter}
use Rattle.miette_read.specs.rules.Members.{is_object}
use Rattle.miette_read.specs.views.Spans.{takes}
use Rattle.miette_read.specs.views.Values.{values_behind, viewed}
use Rattle.miette_read.proofs.spans.push_spans.Given as goal

-- those of the objects that are passed
abbrev pub invariant-loop-span : goal.invariant-loop-span
invariant-loop-span l =
    values_behind l.list.items
    ≡ values_behind l.fn.list.items ++ filter (takes l.wanted) (filter is_object
    (viewed (take l.span-index l.span-items)))
