use Rattle.std.proofs.Common.{◌≡◌, ◌++◌, take}
use Rattle.serde_json.specs.View.{items_view, members_view}
use Rattle.miette_read.specs.rules.Names.{names_among, names_in}
use Rattle.miette_read.specs.views.Values.{texts}
use Rattle.miette_read.proofs.names.+push_names.Given as goal

abbrev pub invariant-push_names_in-loop-item : goal.invariant-push_names_in-loop-item
invariant-push_names_in-loop-item l =
    texts l.list.items ≡ texts l.initial.list.items ++ names_in (items_view (take l.item-index l.item-items))

-- those that are left lack just their own names
abbrev pub invariant-push_names_among-loop-key : goal.invariant-push_names_among-loop-key
invariant-push_names_among-loop-key l =
    texts l.list.items ++ names_among (members_view l.key-iterator)
    ≡ texts l.initial.list.items ++ names_among (members_view l.initial.key-iterator)
