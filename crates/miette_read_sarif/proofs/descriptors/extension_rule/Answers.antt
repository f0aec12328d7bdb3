use Rattle.std.proofs.Common.{◌≡◌, ◌<◌, ◌≤◌, Bor, Global, List, Vec, ap, get_or, length, rules, ◌∙◌}
use Rattle.serde_json.specs.declared.value.Value.{Value}
use Rattle.miette_read.specs.views.Values.{values_behind}
use Rattle.miette_read_sarif.specs.rules.Descriptors.{item_at, rule_by}
use Rattle.miette_read_sarif.proofs.Finding.{item_there, no_item}
use Rattle.miette_read_sarif.proofs.descriptors.extension_rule.Goals as goal

pub returns-in-Some : goal.returns-in-Some
returns-in-Some c =
    let lists = c.args.extensions.now in
    let x = c.in-Some.rules.now in
    let within : c.args.extension < length lists = search rules in
    let is : x ≡ get_or lists c.args.extension x = search rules in
    c.item_at.ensures ∙ ap (λ (vs : List (Bor Value)). item_at (values_behind vs) c.args.index) c.as_slice.ensures.value
    ∙ ap (rule_by c.args.index) (item_there (λ (list : Vec (Bor Value) Global). values_behind list.items) lists
    c.args.extension x within is)

pub returns-in-None : goal.returns-in-None
returns-in-None c =
    let lists = c.args.extensions.now in
    let after : length lists ≤ c.args.extension = search rules in
    ap (rule_by c.args.index)
    (no_item (λ (list : Vec (Bor Value) Global). values_behind list.items) lists c.args.extension after)
