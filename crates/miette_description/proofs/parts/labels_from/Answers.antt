use Rattle.std.proofs.Common.{rules, ◌≡◌, ◌+◌, [], ◌∷◌, ◌++◌, Option, option_map, sym, ap, subst, ◌∙◌}
use Rattle.serde_json.specs.Data.{Items}
use Rattle.miette_description.specs.steps.ParsedValues.{list_data}
use Rattle.miette_description.specs.rules.Members.{and_then, all_items, label_of}
use Rattle.miette_description.proofs.Lists.{ReadSoFar, none_read, one_read, one_fails, all_read}
use Rattle.miette_description.proofs.parts.labels_from.Goals as goal

pub loop-item-init : goal.loop-item-init
loop-item-init c = none_read label_of c.in_ok-list.list.now c.new-labels.result.items c.new-labels.ensures.items

pub returns-in_err-label-clause-description : goal.returns-in_err-label-clause-description
returns-in_err-label-clause-description c e =
    ap (λ (o : Option Items). and_then o (all_items label_of)) (sym c.list_in.ensures
    ∙ ap (option_map (λ list. list_data list.now)) c.in_ok-list.ensures.ok)
    ∙ one_fails label_of c.in_ok-list.list.now _ c.loop-item.item-index c.item-item.result c.loop-item-test.true
    c.item-item.is (c.in_err-label.ensures.description (search rules)) c.loop-item.invariant

pub returns-clause-ok : goal.returns-clause-ok
returns-clause-ok c =
    ap (λ (o : Option Items). and_then o (all_items label_of)) (sym c.list_in.ensures
    ∙ ap (option_map (λ list. list_data list.now)) c.in_ok-list.ensures.ok)
    ∙ all_read label_of c.in_ok-list.list.now c.loop-item.labels.items c.loop-item.item-index c.loop-item-test.false
    c.loop-item.invariant

pub loop-item-preserved : goal.loop-item-preserved
loop-item-preserved c =
    let pushed : c.push.new.self.items ≡ c.loop-item.labels.items ++ c.in_ok-label.label ∷ [] = search rules in
    let more = one_read label_of c.in_ok-list.list.now c.loop-item.labels.items c.loop-item.item-index
    c.item-item.result c.in_ok-label.label c.loop-item-test.true c.item-item.is c.in_ok-label.ensures.ok
    c.loop-item.invariant in
    subst (λ xs. ReadSoFar label_of c.in_ok-list.list.now xs (c.loop-item.item-index + 1)) (sym pushed) more
