use Rattle.std.proofs.Common.{ℕ, List, ◌∷◌, [], string_bytes, subst}
use Rattle.miette_show_rows.specs.views.FixSelection.{AddsNames}
use Rattle.miette_show_rows.proofs.EachOnce.{names_next, names_none}
use Rattle.miette_show_rows.proofs.selected_fixes.add_names.Goals as goal

pub loop-name-init : goal.loop-name-init
loop-name-init c = names_none c.args.names.now

pub loop-name-preserved : goal.loop-name-preserved
loop-name-preserved c =
    let l = c.loop-name in
    names_next string_bytes c.args.names.now l.names c.add.new.self c.args.more.now l.name-index c.name-item.result
    c.loop-name-test.true c.name-item.is l.invariant
    (subst (λ (n : List ℕ). AddsNames l.names c.add.new.self (n ∷ [])) c.as_str.ensures.value c.in_ok-add.ensures)
