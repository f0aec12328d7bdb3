use Rattle.std.proofs.Common.{rules, ◌≡◌, Option, option_map, Some, None, map, string_bytes, [], ◌∷◌, ◌++◌, sym, ap}
use Rattle.std.proofs.Common.{◌∙◌}
use Rattle.std.specs.Option.{option_copied}
use Rattle.serde_json.specs.Data.{Items}
use Rattle.serde_json.specs.Find.{as_str}
use Rattle.miette_description.specs.steps.ParsedValues.{list_data, value_data}
use Rattle.miette_description.specs.rules.Members.{and_then, all_items}
use Rattle.miette_description.proofs.Lists.{none_read, one_read_as, one_fails, all_read}
use Rattle.miette_description.proofs.parts.texts_from.Goals as goal

pub loop-item-init : goal.loop-item-init
loop-item-init c = none_read as_str c.in_ok-list.list.now (map string_bytes c.new-texts.result.items)
    (ap (map string_bytes) c.new-texts.ensures.items)

pub returns-in_err-text-clause-description : goal.returns-in_err-text-clause-description
returns-in_err-text-clause-description c e =
    let none : as_str (value_data c.item-item.result) ≡ None = sym c.text_in.ensures
    ∙ ap option_copied (c.in_err-text.ensures.description (search rules)) in
    ap (λ (o : Option Items). and_then o (all_items as_str)) (sym c.list_in.ensures
    ∙ ap (option_map (λ list. list_data list.now)) c.in_ok-list.ensures.ok)
    ∙ one_fails as_str c.in_ok-list.list.now _ c.loop-item.item-index c.item-item.result c.loop-item-test.true
    c.item-item.is none c.loop-item.invariant

pub returns-clause-ok : goal.returns-clause-ok
returns-clause-ok c =
    ap (λ (o : Option Items). and_then o (all_items as_str)) (sym c.list_in.ensures
    ∙ ap (option_map (λ list. list_data list.now)) c.in_ok-list.ensures.ok)
    ∙ all_read as_str c.in_ok-list.list.now (map string_bytes c.loop-item.texts.items) c.loop-item.item-index
    c.loop-item-test.false c.loop-item.invariant

pub loop-item-preserved : goal.loop-item-preserved
loop-item-preserved c =
    let pushed : c.push.new.self.items ≡ c.loop-item.texts.items ++ c.in-Ok.copy ∷ [] = search rules in
    let is : as_str (value_data c.item-item.result) ≡ Some (string_bytes c.in-Ok.copy) = search rules in
    one_read_as as_str string_bytes c.in_ok-list.list.now c.loop-item.texts.items c.push.new.self.items
    c.loop-item.item-index c.item-item.result c.in-Ok.copy pushed c.loop-item-test.true c.item-item.is is
    c.loop-item.invariant
