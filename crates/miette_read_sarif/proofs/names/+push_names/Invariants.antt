use Rattle.std.proofs.Common.{◌≡◌, Bor, ◌++◌, map, option_map, string_bytes, take}
use Rattle.serde_json.specs.declared.value.Value.{Value}
use Rattle.serde_json.specs.View.{items_view, members_view, view}
use Rattle.miette_read_sarif.specs.rules.Names.{names_among, names_in}
use Rattle.miette_read_sarif.proofs.names.+push_names.Given as goal

abbrev pub invariant-push_names_in-loop-item : goal.invariant-push_names_in-loop-item
invariant-push_names_in-loop-item l =
    map string_bytes l.list.items
    ≡ map string_bytes l.initial.list.items
    ++ names_in (option_map (λ (v : Bor Value). view v.now) l.bases) (items_view (take l.item-index l.item-items))

-- those that are left lack just their own names
abbrev pub invariant-push_names_among-loop-member : goal.invariant-push_names_among-loop-member
invariant-push_names_among-loop-member l =
    map string_bytes l.list.items
    ++ names_among (option_map (λ (v : Bor Value). view v.now) l.bases) (members_view l.member-iterator)
    ≡ map string_bytes l.initial.list.items
    ++ names_among (option_map (λ (v : Bor Value). view v.now) l.bases) (members_view l.initial.member-iterator)
