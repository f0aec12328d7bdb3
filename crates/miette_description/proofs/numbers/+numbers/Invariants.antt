use Rattle.std.proofs.Common.{◌≡◌, drop}
use Rattle.serde_json.specs.View.{items_view, members_view}
use Rattle.serde_json.specs.Written.{items_have_float, members_have_float}
use Rattle.miette_description.proofs.numbers.+numbers.Given as goal

abbrev pub invariant-list_has_float-loop-value : goal.invariant-list_has_float-loop-value
invariant-list_has_float-loop-value l =
    items_have_float (items_view l.value-items) ≡ items_have_float (items_view (drop l.value-index l.value-items))

abbrev pub invariant-map_has_float-loop-key : goal.invariant-map_has_float-loop-key
invariant-map_has_float-loop-key l =
    members_have_float (members_view l.members.entries) ≡ members_have_float (members_view l._key-iterator)
