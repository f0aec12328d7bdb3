use Rattle.std.proofs.Common.{◌≡◌, ◌<◌, ◌≤◌, Bor, length, get_or, rules}
use Rattle.serde_json.specs.View.{view}
use Rattle.serde_json.specs.declared.value.Value.{Value}
use Rattle.miette_read_sarif.proofs.Finding.{item_there, no_item}
use Rattle.miette_read_sarif.proofs.descriptors.item.Goals as goal

pub returns-in-Some : goal.returns-in-Some
returns-in-Some c =
    let items = c.args.items.now in
    let x = c.in-Some.item.now in
    let within : c.args.index < length items = search rules in
    let is : x ≡ get_or items c.args.index x = search rules in
    item_there (λ (v : Bor Value). view v.now) items c.args.index x within is

pub returns-in-None : goal.returns-in-None
returns-in-None c =
    let items = c.args.items.now in
    let after : length items ≤ c.args.index = search rules in
    no_item (λ (v : Bor Value). view v.now) items c.args.index after
