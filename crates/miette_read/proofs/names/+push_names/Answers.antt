use Rattle.std.proofs.Common.{◌++◌, ap, sym, ◌∙◌, append_assoc, take}
use Rattle.serde_json.specs.View.{items_view, view}
use Rattle.miette_read.specs.rules.Names.{names_in, names_of}
use Rattle.miette_read.specs.views.Values.{texts}
use Rattle.miette_read.proofs.NameSteps.{next_names}
use Rattle.miette_read.proofs.names.+push_names.Goals as goal

pub push_names_in-loop-item-preserved : goal.push_names_in-loop-item-preserved
push_names_in-loop-item-preserved t c =
    let l = c.loop-item in
    let items = c.deref-item-items.result.now in
    let x = c.item-item.result in
    let first = texts c.args.list.now.items in
    c.in_ok-push_names.ensures ∙ ap (λ m. m ++ names_of (view x)) l.invariant
    ∙ append_assoc first (names_in (items_view (take l.item-index items))) (names_of (view x))
    ∙ ap (λ m. first ++ m) (sym (next_names items l.item-index x c.loop-item-test.true c.item-item.is))
