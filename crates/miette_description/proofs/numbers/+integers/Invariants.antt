use Rattle.std.proofs.Common.{◌≡◌, drop}
use Rattle.json.specs.Value.{items_view, members_view}
use Rattle.miette_description.specs.steps.ParsedValues.{are_integral, have_integral}
use Rattle.miette_description.proofs.numbers.+integers.Given as goal

abbrev pub invariant-are_whole-loop-value : goal.invariant-are_whole-loop-value
invariant-are_whole-loop-value l = are_integral (items_view l.value-items)
    ≡ are_integral (items_view (drop l.value-index l.value-items))

abbrev pub invariant-have_whole-loop-member : goal.invariant-have_whole-loop-member
invariant-have_whole-loop-member l = have_integral (members_view l.member-items)
    ≡ have_integral (members_view (drop l.member-index l.member-items))
