use Rattle.std.proofs.Common.{◌++◌, Bor, ap, sym, ◌∙◌, append_assoc, map, option_map, string_bytes, take}
use Rattle.serde_json.specs.declared.value.Value.{Value}
use Rattle.serde_json.specs.View.{items_view, view}
use Rattle.miette_read_sarif.specs.rules.Names.{names_in, names_within}
use Rattle.miette_read_sarif.proofs.NameSteps.{next_names}
use Rattle.miette_read_sarif.proofs.names.+push_names.Goals as goal

pub push_names_in-loop-item-preserved : goal.push_names_in-loop-item-preserved
push_names_in-loop-item-preserved t c =
    let l = c.loop-item in
    let bases = option_map (λ (v : Bor Value). view v.now) c.args.bases in
    let items = c.deref-item-items.result.now in
    let x = c.item-item.result in
    let first = map string_bytes c.args.list.now.items in
    c.in_ok-push_names.ensures ∙ ap (λ m. m ++ names_within bases (view x)) l.invariant
    ∙ append_assoc first (names_in bases (items_view (take l.item-index items))) (names_within bases (view x))
    ∙ ap (λ m. first ++ m) (sym (next_names bases items l.item-index x c.loop-item-test.true c.item-item.is))
